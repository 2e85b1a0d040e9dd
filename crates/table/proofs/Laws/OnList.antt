-- The calls on a list keep to the table. Assumes nothing.
use mathlib.Core.Path.{refl, sym, ap, ◌∙◌}
use mathlib.Core.Bool.{not}
use mathlib.Core.List.{List, [], ◌∷◌}
use Prim.Native.Nat.{ℕ}
use Rattle.std.specs.Prelude.{Ok, Err, is_err}
use Rattle.words.specs.declared.names.Node.{Node}
use Rattle.words.specs.Pool.{Outcome, outcome}
use Rattle.answers.specs.declared.Refusal.TheVariants.{AtNull}
use Rattle.answers.specs.Answer.{Answer, done, Tested, passed, if_refused, need}
use Rattle.answers.proofs.Laws.Ladder.{not-both}
use Rattle.ends.specs.declared.Ends.{Ends}
use Rattle.ends.specs.Ends.{is_empty, empty_ends, turned, list_edited}
use Rattle.ends.specs.Tests.{ends_test}
use Rattle.ends.proofs.Laws.Stands.{stands-null}
use Rattle.cursor.specs.declared.Cursor.{Cursor}
use Rattle.cursor.specs.Cursor.{null_cursor}
use Rattle.moves.specs.Moves.{moved_next, moved_prev}
use Rattle.insert.specs.Inserts.{insert_after, insert_before}
use Rattle.remove.specs.Removes.{removed}
use Rattle.remove.proofs.Laws.Refused.{removed-done}
use Rattle.ends.specs.declared.ListEdited.{ListEdited}
use Rattle.list.specs.Lists.{without_cursor, push_front, push_back, pop_test, pop_front, pop_back, fast_clear, reversed}
use Rattle.list.proofs.Laws.Refused.{UnchangedList, push-front-unchanged, push-back-unchanged, pop-front-unchanged, pop-back-unchanged}
use Rattle.table.specs.Calls.{insert-after, insert-before, OnList, push-front, push-back, pop-front, pop-back, fast-clear, reversal}
use Rattle.table.specs.Calls.{on-list, list_back, Left, left, on_list}
use Rattle.table.specs.Table.{FirstFailing, pool, ends, cursor, node, free, some, list_row}
use Rattle.table.specs.Refused.{Keeps}
use Rattle.table.proofs.Laws.Ladder.{after, made, without}
use Rattle.table.proofs.Laws.Tests.{ends-first, denied}
use Rattle.table.proofs.Laws.AtCursor.{at-cursor-keeps}

-- ---- push: at null a cursor made from the ends always stands

at_null : (ws : List ℕ) (e : Ends) (i : Node) (a : Answer)
    → FirstFailing (pool ws ∷ ends ws e ∷ cursor ws e (null_cursor e) ∷ node ws i ∷ free ws i ∷ []) a
    → FirstFailing (list_row ws (push-front i) e) a
at_null ws e i a f =
    without (pool ws ∷ ends ws e ∷ []) (node ws i ∷ free ws i ∷ []) (cursor ws e (null_cursor e)) a (stands-null ws e) f

push-front-first : (ws : List ℕ) (e : Ends) (i : Node) → FirstFailing (list_row ws (push-front i) e) (push_front ws e i).result.answer
unfolding push_front
push-front-first ws e i =
    at_null ws e i (insert_after ws e (null_cursor e) i).result.answer (at-cursor-keeps ws [] (insert-after i) e (null_cursor e)).tests

push-back-first : (ws : List ℕ) (e : Ends) (i : Node) → FirstFailing (list_row ws (push-back i) e) (push_back ws e i).result.answer
unfolding push_back
push-back-first ws e i =
    at_null ws e i (insert_before ws e (null_cursor e) i).result.answer (at-cursor-keeps ws [] (insert-before i) e (null_cursor e)).tests

-- ---- pop

pop-tests : (ws : List ℕ) (e : Ends) → FirstFailing (pool ws ∷ ends ws e ∷ some e ∷ []) (pop_test ws e)
unfolding pop_test
pop-tests ws e =
    after (pool ws ∷ ends ws e ∷ []) (some e ∷ []) (ends_test ws e) (need (not (is_empty e)) AtNull passed) (ends-first ws e)
    (λ h. denied (is_empty e) AtNull)

pops : (ws : List ℕ) (e : Ends) (c : Cursor)
    → FirstFailing (pool ws ∷ ends ws e ∷ some e ∷ [])
    (if_refused (pop_test ws e) (λ r. outcome ws (list_edited (Err r) e)) (without_cursor (removed ws e c))).result.answer
pops ws e c =
    made {A = Outcome ListEdited} (λ d. d.result.answer) (pool ws ∷ ends ws e ∷ some e ∷ []) (pop_test ws e)
    (λ r. outcome ws (list_edited (Err r) e)) (without_cursor (removed ws e c)) (λ r. refl) (removed-done ws e c) (pop-tests ws e)

pop-front-first : (ws : List ℕ) (e : Ends) → FirstFailing (list_row ws pop-front e) (pop_front ws e).result.answer
unfolding pop_front
pop-front-first ws e = pops ws e (moved_next ws e (null_cursor e))

pop-back-first : (ws : List ℕ) (e : Ends) → FirstFailing (list_row ws pop-back e) (pop_back ws e).result.answer
unfolding pop_back
pop-back-first ws e = pops ws e (moved_prev ws e (null_cursor e))

-- ---- fast clear and reverse

module _ (ws : List ℕ) (e e' : Ends) where
  abbrev by-ends : Tested → ListEdited
  by-ends t = if_refused t (λ r. list_edited (Err r) e) (list_edited done e')

  by-ends-first : FirstFailing (pool ws ∷ ends ws e ∷ []) (by-ends (ends_test ws e)).answer
  by-ends-first =
      made {A = ListEdited} (λ d. d.answer) (pool ws ∷ ends ws e ∷ []) (ends_test ws e) (λ r. list_edited (Err r) e) (list_edited done e') (λ r. refl)
      refl (ends-first ws e)

  by-ends-unchanged : (t : Tested) → UnchangedList ws e (outcome ws (by-ends t))
  by-ends-unchanged (Err r) h = refl
  by-ends-unchanged (Ok u) h = absurd (not-both (sym h))

clear_first : (ws : List ℕ) (e : Ends) → FirstFailing (list_row ws fast-clear e) (fast_clear ws e).answer
unfolding fast_clear
clear_first ws e = by-ends-first ws e empty_ends

clear-unchanged : (ws : List ℕ) (e : Ends) → UnchangedList ws e (outcome ws (fast_clear ws e))
unfolding fast_clear
clear-unchanged ws e = by-ends-unchanged ws e empty_ends (ends_test ws e)

reverse-first : (ws : List ℕ) (e : Ends) → FirstFailing (list_row ws reversal e) (reversed ws e).answer
unfolding reversed
reverse-first ws e = by-ends-first ws e (turned e)

reverse-unchanged : (ws : List ℕ) (e : Ends) → UnchangedList ws e (outcome ws (reversed ws e))
unfolding reversed
reverse-unchanged ws e = by-ends-unchanged ws e (turned e) (ends_test ws e)

-- ---- all of them

keeps : (ws ms : List ℕ) (k : OnList) (e : Ends) → FirstFailing (list_row ws k e) (on_list ws k e).result.answer → UnchangedList ws e (on_list ws k e)
    → Keeps ws ms (on-list k e)
keeps ws ms k e f u =
    record {
      tests = f;
      unchanged = λ r h.
          ap {A = Outcome ListEdited} {B = Left} (λ o. left o.words ms o.result.answer (list_back o.result.ends) []) (u (ap is_err h))
          ∙ ap (λ (a : Answer). left ws ms a (list_back e) []) h;
    }

pub on-list-keeps : (ws ms : List ℕ) (k : OnList) (e : Ends) → Keeps ws ms (on-list k e)
on-list-keeps ws ms (push-front i) e = keeps ws ms (push-front i) e (push-front-first ws e i) (push-front-unchanged ws e i)
on-list-keeps ws ms (push-back i) e = keeps ws ms (push-back i) e (push-back-first ws e i) (push-back-unchanged ws e i)
on-list-keeps ws ms pop-front e = keeps ws ms pop-front e (pop-front-first ws e) (pop-front-unchanged ws e)
on-list-keeps ws ms pop-back e = keeps ws ms pop-back e (pop-back-first ws e) (pop-back-unchanged ws e)
on-list-keeps ws ms fast-clear e = keeps ws ms fast-clear e (clear_first ws e) (clear-unchanged ws e)
on-list-keeps ws ms reversal e = keeps ws ms reversal e (reverse-first ws e) (reverse-unchanged ws e)
