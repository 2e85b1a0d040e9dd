-- A refused push or pop changes nothing, for any words, ends and node: it hands back the ends that it was given. Assumes nothing.
use mathlib.Core.Path.{◌≡◌, refl, sym, ap, ◌∙◌}
use mathlib.Core.Bool.{true}
use mathlib.Core.List.{List}
use Prim.Native.Nat.{ℕ}
use Rattle.words.specs.declared.names.Node.{Node}
use Rattle.words.specs.Pool.{Outcome, outcome}
use Rattle.ends.specs.declared.Ends.{Ends}
use Rattle.std.specs.Prelude.{Ok, Err, is_err}
use Rattle.answers.specs.Answer.{Tested, if_refused}
use Rattle.answers.proofs.Laws.Ladder.{not-both}
use Rattle.cursor.specs.declared.Cursor.{Cursor}
use Rattle.cursor.specs.declared.Edited.{Edited}
use Rattle.cursor.specs.Cursor.{null_cursor}
use Rattle.moves.specs.Moves.{moved_next, moved_prev}
use Rattle.insert.specs.Inserts.{insert_after, insert_before}
use Rattle.remove.specs.Removes.{removed}
use Rattle.cursor.proofs.Laws.Refused.{Unchanged}
use Rattle.remove.proofs.Laws.Refused.{removed-done}
use Rattle.insert.proofs.Laws.Refused.{insert-after-unchanged, insert-before-unchanged}
use Rattle.ends.specs.declared.ListEdited.{ListEdited}
use Rattle.ends.specs.Ends.{list_edited}
use Rattle.list.specs.Lists.{without_cursor, push_front, push_back, pop_test, pop_front, pop_back}

-- refused, it is all as it was
abbrev pub UnchangedList : List ℕ → Ends → Outcome ListEdited → Type 0
UnchangedList ws e o = is_err o.result.answer ≡ true → o ≡ outcome ws (list_edited o.result.answer e)

pushed : (ws : List ℕ) (e : Ends) (c : Cursor) (o : Outcome Edited) → Unchanged ws e c o → UnchangedList ws e (without_cursor o)
pushed ws e c o k r = ap without_cursor (k r)

popped : (t : Tested) (ws : List ℕ) (e : Ends) (c : Cursor)
    → UnchangedList ws e (if_refused t (λ r. outcome ws (list_edited (Err r) e)) (without_cursor (removed ws e c)))
popped (Err x) ws e c r = refl
popped (Ok u) ws e c r = absurd (not-both (sym r ∙ removed-done ws e c))

pub push-front-unchanged : (ws : List ℕ) (e : Ends) (i : Node) → UnchangedList ws e (push_front ws e i)
unfolding push_front
push-front-unchanged ws e i = pushed ws e (null_cursor e) (insert_after ws e (null_cursor e) i) (insert-after-unchanged ws e (null_cursor e) i)

pub push-back-unchanged : (ws : List ℕ) (e : Ends) (i : Node) → UnchangedList ws e (push_back ws e i)
unfolding push_back
push-back-unchanged ws e i = pushed ws e (null_cursor e) (insert_before ws e (null_cursor e) i) (insert-before-unchanged ws e (null_cursor e) i)

pub pop-front-unchanged : (ws : List ℕ) (e : Ends) → UnchangedList ws e (pop_front ws e)
unfolding pop_front
pop-front-unchanged ws e = popped (pop_test ws e) ws e (moved_next ws e (null_cursor e))

pub pop-back-unchanged : (ws : List ℕ) (e : Ends) → UnchangedList ws e (pop_back ws e)
unfolding pop_back
pop-back-unchanged ws e = popped (pop_test ws e) ws e (moved_prev ws e (null_cursor e))
