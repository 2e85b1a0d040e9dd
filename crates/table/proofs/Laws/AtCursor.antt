-- The calls at a cursor keep to the table. Assumes nothing.
use mathlib.Core.Path.{◌≡◌, refl, sym, ap, ◌∙◌}
use mathlib.Core.Bool.{false}
use mathlib.Core.List.{List, [], ◌∷◌}
use Prim.Native.Nat.{ℕ}
use Rattle.std.specs.Prelude.{Ok, Err, is_err}
use Rattle.words.specs.declared.names.Node.{Node}
use Rattle.words.specs.Names.{is_null, naming}
use Rattle.words.specs.Pool.{Outcome, outcome}
use Rattle.answers.specs.Answer.{Answer, done, Tested, if_refused}
use Rattle.answers.proofs.Laws.Ladder.{not-both}
use Rattle.ends.specs.declared.Ends.{Ends}
use Rattle.cursor.specs.declared.Cursor.{Cursor}
use Rattle.cursor.specs.declared.Edited.{Edited}
use Rattle.cursor.specs.Cursor.{edited, stand_test, node_test, some_test, acquire_node}
use Rattle.cursor.specs.Edits.{unless_refused}
use Rattle.cursor.proofs.Laws.Refused.{Unchanged}
use Rattle.moves.specs.Moves.{moved_next, moved_prev, move_next, move_prev}
use Rattle.insert.specs.Inserts.{inserted_after, inserted_before, insert_after, insert_before}
use Rattle.insert.proofs.Laws.Refused.{insert-after-unchanged, insert-before-unchanged}
use Rattle.remove.specs.Removes.{removed, replaced, remove as remove_at, replace as replace_at}
use Rattle.remove.proofs.Laws.Refused.{removed-done, remove-unchanged, replace-unchanged}
use Rattle.table.specs.Calls.{AtCursor, move-next, move-prev, remove, insert-after, insert-before, replace}
use Rattle.table.specs.Calls.{at-cursor, cursor-back, Left, left, at_cursor}
use Rattle.table.specs.Table.{Test, FirstFailing, pool, ends, cursor, node, at_node, cursor_row}
use Rattle.table.specs.Refused.{Keeps}
use Rattle.table.proofs.Laws.Ladder.{made, either}
use Rattle.table.proofs.Laws.Tests.{stand-first, node-first, some_first, acquire-first}

-- ---- moves

moves-unchanged : (t : Tested) (ws : List ℕ) (e : Ends) (c c' : Cursor)
    → Unchanged ws e c (outcome ws (if_refused t (λ r. edited (Err r) e c) (edited done e c')))
moves-unchanged (Err r) ws e c c' h = refl
moves-unchanged (Ok u) ws e c c' h = absurd (not-both (sym h))

next-unchanged : (ws : List ℕ) (e : Ends) (c : Cursor) → Unchanged ws e c (outcome ws (move_next ws e c))
unfolding move_next
next-unchanged ws e c = moves-unchanged (stand_test ws e c) ws e c (moved_next ws e c)

prev-unchanged : (ws : List ℕ) (e : Ends) (c : Cursor) → Unchanged ws e c (outcome ws (move_prev ws e c))
unfolding move_prev
prev-unchanged ws e c = moves-unchanged (stand_test ws e c) ws e c (moved_prev ws e c)

next-first : (ws : List ℕ) (e : Ends) (c : Cursor) → FirstFailing (cursor_row ws move-next e c) (move_next ws e c).answer
unfolding move_next
next-first ws e c =
    made {A = Edited} (λ d. d.answer) (cursor_row ws move-next e c) (stand_test ws e c) (λ r. edited (Err r) e c)
    (edited done e (moved_next ws e c)) (λ r. refl) refl (stand-first ws e c)

prev-first : (ws : List ℕ) (e : Ends) (c : Cursor) → FirstFailing (cursor_row ws move-prev e c) (move_prev ws e c).answer
unfolding move_prev
prev-first ws e c =
    made {A = Edited} (λ d. d.answer) (cursor_row ws move-prev e c) (stand_test ws e c) (λ r. edited (Err r) e c)
    (edited done e (moved_prev ws e c)) (λ r. refl) refl (stand-first ws e c)

-- ---- the edits

-- an edit that is made where the tests do not refuse
edits : (ts : List Test) (t : Tested) (w : List ℕ) (e : Ends) (c : Cursor) (o : Outcome Edited) → is_err o.result.answer ≡ false
    → FirstFailing ts t → FirstFailing ts (unless_refused t w e c o).result.answer
edits ts t w e c o d f = made {A = Outcome Edited} (λ a. a.result.answer) ts t (λ r. outcome w (edited (Err r) e c)) o (λ r. refl) d f

remove_first : (ws : List ℕ) (e : Ends) (c : Cursor) → FirstFailing (cursor_row ws remove e c) (remove_at ws e c).result.answer
unfolding remove_at
remove_first ws e c =
    edits (cursor_row ws remove e c) (some_test (stand_test ws e c) c) ws e c (removed ws e c) (removed-done ws e c)
    (some_first (pool ws ∷ ends ws e ∷ cursor ws e c ∷ []) (stand_test ws e c) c (stand-first ws e c))

-- the tests of an insert
module _ (ws : List ℕ) (e : Ends) (c : Cursor) (i : Node) where
  pub insert-tests : FirstFailing (cursor_row ws (insert-after i) e c) (acquire_node ws (node_test ws e c i) (naming i)).result
  insert-tests =
      acquire-first ws i (pool ws ∷ ends ws e ∷ cursor ws e c ∷ node ws i ∷ []) (node_test ws e c i) (node-first ws e c i) (λ p. (p.0, p.1.1.1.0))

  after_first : FirstFailing (cursor_row ws (insert-after i) e c) (insert_after ws e c i).result.answer
  unfolding insert_after inserted_after
  after_first =
      let a = acquire_node ws (node_test ws e c i) (naming i) in
      edits (cursor_row ws (insert-after i) e c) a.result a.words e c (inserted_after a.words e c (naming i))
      (either {A = Outcome Edited} (λ r. r.result.answer) (is_null c.current) (outcome _ (edited done _ _)) (outcome _ (edited done _ _)) refl refl)
      insert-tests

  before-first : FirstFailing (cursor_row ws (insert-before i) e c) (insert_before ws e c i).result.answer
  unfolding insert_before inserted_before
  before-first =
      let a = acquire_node ws (node_test ws e c i) (naming i) in
      edits (cursor_row ws (insert-before i) e c) a.result a.words e c (inserted_before a.words e c (naming i))
      (either {A = Outcome Edited} (λ r. r.result.answer) (is_null c.current) (outcome _ (edited done _ _)) (outcome _ (edited done _ _)) refl refl)
      insert-tests

  replace-first : FirstFailing (cursor_row ws (replace i) e c) (replace_at ws e c i).result.answer
  unfolding replace_at replaced
  replace-first =
      let t = some_test (node_test ws e c i) c in
      let a = acquire_node ws t (naming i) in
      edits (cursor_row ws (replace i) e c) a.result a.words e c (replaced a.words e c (naming i)) refl
      (acquire-first ws i (pool ws ∷ ends ws e ∷ cursor ws e c ∷ node ws i ∷ at_node c ∷ []) t
      (some_first (pool ws ∷ ends ws e ∷ cursor ws e c ∷ node ws i ∷ []) (node_test ws e c i) c (node-first ws e c i)) (λ p. (p.0, p.1.1.1.0)))

-- ---- all of them

keeps : (ws ms : List ℕ) (k : AtCursor) (e : Ends) (c : Cursor) → FirstFailing (cursor_row ws k e c) (at_cursor ws k e c).result.answer
    → Unchanged ws e c (at_cursor ws k e c) → Keeps ws ms (at-cursor k e c)
keeps ws ms k e c f u =
    record {
      tests = f;
      unchanged = λ r h.
          ap {A = Outcome Edited} {B = Left} (λ o. left o.words ms o.result.answer (cursor-back o.result.ends o.result.cursor) [])
          (u (ap is_err h))
          ∙ ap (λ (a : Answer). left ws ms a (cursor-back e c) []) h;
    }

pub at-cursor-keeps : (ws ms : List ℕ) (k : AtCursor) (e : Ends) (c : Cursor) → Keeps ws ms (at-cursor k e c)
at-cursor-keeps ws ms move-next e c = keeps ws ms move-next e c (next-first ws e c) (next-unchanged ws e c)
at-cursor-keeps ws ms move-prev e c = keeps ws ms move-prev e c (prev-first ws e c) (prev-unchanged ws e c)
at-cursor-keeps ws ms remove e c = keeps ws ms remove e c (remove_first ws e c) (remove-unchanged ws e c)
at-cursor-keeps ws ms (insert-after i) e c = keeps ws ms (insert-after i) e c (after_first ws e c i) (insert-after-unchanged ws e c i)
at-cursor-keeps ws ms (insert-before i) e c = keeps ws ms (insert-before i) e c (before-first ws e c i) (insert-before-unchanged ws e c i)
at-cursor-keeps ws ms (replace i) e c = keeps ws ms (replace i) e c (replace-first ws e c i) (replace-unchanged ws e c i)
