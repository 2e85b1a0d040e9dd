-- The calls at a cursor with another list, and take, keep to the table. Assumes nothing.
use mathlib.Core.Path.{◌≡◌, refl, sym, ap, ◌∙◌}
use mathlib.Core.Bool.{Bool, false, cond}
use mathlib.Core.List.{List, [], ◌∷◌}
use Prim.Native.Nat.{ℕ}
use Rattle.std.specs.Prelude.{Ok, Err, is_err}
use Rattle.words.specs.Names.{is_null}
use Rattle.words.specs.Pool.{Outcome, outcome}
use Rattle.answers.specs.declared.Refusal.TheVariants.{EndsDoNotHold, NotEmpty}
use Rattle.answers.specs.declared.Refusal.{Refusal}
use Rattle.answers.specs.Answer.{Answer, done, Tested, passed, if_refused, need}
use Rattle.answers.proofs.Laws.Ladder.{not-both}
use Rattle.ends.specs.declared.Ends.{Ends}
use Rattle.ends.specs.Ends.{is_empty, empty_ends}
use Rattle.ends.specs.Tests.{ends_hold, ends_test}
use Rattle.cursor.specs.declared.Cursor.{Cursor}
use Rattle.cursor.specs.declared.EditedTwo.{EditedTwo}
use Rattle.cursor.specs.Cursor.{edited_two, pair_test, split_test}
use Rattle.splice.specs.Splices.{spliced_after, spliced_before, splice_after, splice_before}
use Rattle.splice.proofs.Laws.Refused.{UnchangedTwo, splice-after-unchanged, splice-before-unchanged}
use Rattle.split.specs.Splits.{cut_after, cut_before, cut_at_null, split_after, split_before}
use Rattle.split.proofs.Laws.Refused.{split-after-unchanged, split-before-unchanged}
use Rattle.list.specs.declared.Taken.{Taken}
use Rattle.list.specs.Lists.{taken, take_test, take as take_all}
use Rattle.table.specs.Calls.{AtBoth, splice-after, splice-before, split-after, split-before}
use Rattle.table.specs.Calls.{at-both, take, both-back, lists_back, Left, left, at_both}
use Rattle.table.specs.Table.{Test, FirstFailing, pool, ends, empty, row, both_row}
use Rattle.table.specs.Refused.{Keeps}
use Rattle.table.proofs.Laws.Ladder.{flag, after, made, either}
use Rattle.table.proofs.Laws.Tests.{ends-first, pair-first, split-first}

-- an edit that is made where the tests do not refuse
edits : (ts : List Test) (t : Tested) (ws : List ℕ) (e : Ends) (c : Cursor) (o : Ends) (r : Outcome EditedTwo)
    → is_err r.result.answer ≡ false → FirstFailing ts t
    → FirstFailing ts (if_refused t (λ x. outcome ws (edited_two (Err x) e c o)) r).result.answer
edits ts t ws e c o r d f =
    made {A = Outcome EditedTwo} (λ p. p.result.answer) ts t (λ x. outcome ws (edited_two (Err x) e c o)) r (λ x. refl) d f

module _ (ws : List ℕ) (e : Ends) (c : Cursor) (o : Ends) where
  -- either nothing is done, or the list is spliced
  spliced-done : (b : Bool) (r : Outcome EditedTwo) → is_err r.result.answer ≡ false
      → is_err (cond b (outcome ws (edited_two done e c o)) r).result.answer ≡ false
  spliced-done b r d = either {A = Outcome EditedTwo} (λ p. p.result.answer) b (outcome ws (edited_two done e c o)) r refl d

  splice-after-first : FirstFailing (both_row ws splice-after e c o) (splice_after ws e c o).result.answer
  unfolding splice_after spliced_after
  splice-after-first =
      edits (both_row ws splice-after e c o) (pair_test ws e c o) ws e c o
      (cond (is_empty o) (outcome ws (edited_two done e c o)) (spliced_after ws e c o))
      (spliced-done (is_empty o) (spliced_after ws e c o)
      (either {A = EditedTwo} (λ d. d.answer) (is_null c.current) (edited_two done _ _ _) (edited_two done _ _ _) refl refl)) (pair-first ws e c o)

  splice-before-first : FirstFailing (both_row ws splice-before e c o) (splice_before ws e c o).result.answer
  unfolding splice_before spliced_before
  splice-before-first =
      edits (both_row ws splice-before e c o) (pair_test ws e c o) ws e c o
      (cond (is_empty o) (outcome ws (edited_two done e c o)) (spliced_before ws e c o))
      (spliced-done (is_empty o) (spliced_before ws e c o)
      (either {A = EditedTwo} (λ d. d.answer) (is_null c.current) (edited_two done _ _ _) (edited_two done _ _ _) refl refl)) (pair-first ws e c o)

  split-after-first : FirstFailing (both_row ws split-after e c o) (split_after ws e c o).result.answer
  unfolding split_after cut_after cut_at_null
  split-after-first =
      edits (both_row ws split-after e c o) (split_test ws e c o) ws e c o (cond (is_null c.current) (outcome ws (cut_at_null e)) (cut_after ws e c))
      (either {A = Outcome EditedTwo} (λ d. d.result.answer) (is_null c.current) (outcome ws (cut_at_null e)) (cut_after ws e c) refl refl)
      (split-first ws e c o)

  split-before-first : FirstFailing (both_row ws split-before e c o) (split_before ws e c o).result.answer
  unfolding split_before cut_before cut_at_null
  split-before-first =
      edits (both_row ws split-before e c o) (split_test ws e c o) ws e c o (cond (is_null c.current) (outcome ws (cut_at_null e)) (cut_before ws e c))
      (either {A = Outcome EditedTwo} (λ d. d.result.answer) (is_null c.current) (outcome ws (cut_at_null e)) (cut_before ws e c) refl refl)
      (split-first ws e c o)

keeps : (ws ms : List ℕ) (k : AtBoth) (e : Ends) (c : Cursor) (o : Ends) → FirstFailing (both_row ws k e c o) (at_both ws k e c o).result.answer
    → UnchangedTwo ws e c o (at_both ws k e c o) → Keeps ws ms (at-both k e c o)
keeps ws ms k e c o f u =
    record {
      tests = f;
      unchanged = λ r h.
          ap {A = Outcome EditedTwo} {B = Left}
          (λ p. left p.words ms p.result.answer (both-back p.result.ends p.result.cursor p.result.other) []) (u (ap is_err h))
          ∙ ap (λ (a : Answer). left ws ms a (both-back e c o) []) h;
    }

pub at-both-keeps : (ws ms : List ℕ) (k : AtBoth) (e : Ends) (c : Cursor) (o : Ends) → Keeps ws ms (at-both k e c o)
at-both-keeps ws ms splice-after e c o = keeps ws ms splice-after e c o (splice-after-first ws e c o) (splice-after-unchanged ws e c o)
at-both-keeps ws ms splice-before e c o = keeps ws ms splice-before e c o (splice-before-first ws e c o) (splice-before-unchanged ws e c o)
at-both-keeps ws ms split-after e c o = keeps ws ms split-after e c o (split-after-first ws e c o) (split-after-unchanged ws e c o)
at-both-keeps ws ms split-before e c o = keeps ws ms split-before e c o (split-before-first ws e c o) (split-before-unchanged ws e c o)

-- ---- take

-- what a take makes of its tests
abbrev tried : Ends → Ends → Tested → Taken
tried e o t = if_refused t (λ r. taken (Err r) e o) (taken done empty_ends e)

pub take-keeps : (ws ms : List ℕ) (e o : Ends) → Keeps ws ms (take e o)
unfolding take_all take_test
take-keeps ws ms e o =
    record {
      tests =
          made {A = Taken} (λ d. d.answer) (row ws ms (take e o)) (take_test ws e o) (λ r. taken (Err r) e o) (taken done empty_ends e) (λ r. refl) refl
          (after (pool ws ∷ ends ws e ∷ []) (ends ws o ∷ empty o ∷ []) (ends_test ws e)
          (need (ends_hold ws o) EndsDoNotHold (need (is_empty o) NotEmpty passed)) (ends-first ws e)
          (λ h. flag (ends_hold ws o) EndsDoNotHold (need (is_empty o) NotEmpty passed) (empty o ∷ []) (λ p. flag (is_empty o) NotEmpty passed [] (λ q. refl))));
      unchanged = go (take_test ws e o);
    }
  where
    go : (t : Tested) (r : Refusal) → (tried e o t).answer ≡ Err r
        → ◌≡◌ {A = Left} (left ws ms (tried e o t).answer (lists_back (tried e o t).ends (tried e o t).other) [])
        (left ws ms (Err r) (lists_back e o) [])
    go (Err x) r h = ap (λ (a : Answer). left ws ms a (lists_back e o) []) h
    go (Ok u) r h = absurd (not-both (sym (ap is_err h)))
