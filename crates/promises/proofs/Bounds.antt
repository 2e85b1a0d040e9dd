-- No call changes more words than is said. Assumes nothing.
use mathlib.Core.Path.{◌≡◌, refl}
use mathlib.Core.Logic.{⊎_elim}
use mathlib.Core.List.{List, [], ◌∷◌}
use Prim.Native.Nat.{ℕ, ◌+◌, ◌<◌, ◌≤◌}
use native.Mathlib.Omega.{arith}
use lib.Dec.{eqb, lit≤}
use lib.ListN.{length, get_or}
use borrow.Author.Tests.{ne_eqb}
use Rattle.words.specs.Names.{name, pool_limit, pool_fits, is_name, is_linked, unlinked_marker}
use Rattle.words.specs.Pool.{word_at, put_at}
use Rattle.words.specs.LinkOps.{linked_at}
use Rattle.words.specs.Changes.{Changes, AtMost, AtMostFour}
use Rattle.words.proofs.Laws.Cases.{same_or_not, below_or_not}
use Rattle.links.specs.XorOps.{next_of, replace_next_or_prev, splice_between}
use Rattle.ends.specs.Tests.{link_with, ends_hold, side_holds, ends_test}
use Rattle.ends.specs.Tests
use Rattle.cursor.specs.Cursor.{stand_test, pair_test}
use Rattle.splice.specs.Splices.{spliced_after, splice_after}
use Rattle.audit.specs.Audit.{bit}
use Rattle.history.specs.History.{times}
use Rattle.history.proofs.Laws.Counts.{times-off}
use Rattle.promises.specs.Nine.{ends, cursor}
use Rattle.links.proofs.Laws.Between.{link-changes, splice-changes}
use Rattle.insert.proofs.Laws.Few.{insert-after-few, insert-before-few}
use Rattle.remove.proofs.Laws.Few.{remove-few, replace-few}
use Rattle.splice.proofs.Laws.Few.{splice-after-few, splice-before-few}
use Rattle.split.proofs.Laws.Few.{split-after-few, split-before-few}
use Rattle.list.proofs.Laws.Few.{push-front-few, push-back-few, pop-front-few, pop-back-few}
use Rattle.walk.proofs.Laws.Clear.{paint-changes}
use Rattle.promises.specs.Bounds.{Bounds}

pub at_most : (m : ℕ) (ws ws' : List ℕ) → 4 ≤ m → AtMostFour ws ws' → AtMost m ws ws'
at_most m ws ws' h a = record { names = a.names; few = omega (arith, a.few); changes = a.changes }

pub bounds : Bounds
bounds =
    record {
      insert-after = λ ws e c i. at_most _ _ _ (omega arith) (insert-after-few ws e c i);
      insert-before = λ ws e c i. at_most _ _ _ (omega arith) (insert-before-few ws e c i);
      remove = λ ws e c. at_most _ _ _ (omega arith) (remove-few ws e c);
      replace = λ ws e c i. at_most _ _ _ (omega arith) (replace-few ws e c i);
      splice-after = λ ws e c o. at_most _ _ _ (omega arith) (splice-after-few ws e c o);
      splice-before = λ ws e c o. at_most _ _ _ (omega arith) (splice-before-few ws e c o);
      split-after = λ ws e c o. at_most _ _ _ (omega arith) (split-after-few ws e c o);
      split-before = λ ws e c o. at_most _ _ _ (omega arith) (split-before-few ws e c o);
      push-front = λ ws e i. at_most _ _ _ (omega arith) (push-front-few ws e i);
      push-back = λ ws e i. at_most _ _ _ (omega arith) (push-back-few ws e i);
      pop-front = λ ws e. at_most _ _ _ (omega arith) (pop-front-few ws e);
      pop-back = λ ws e. at_most _ _ _ (omega arith) (pop-back-few ws e);
      link-between = link-changes;
      splice-between = splice-changes;
      clear = λ ws xs. paint-changes ws unlinked_marker xs;
    }

-- ---- four is the least bound

-- a list holds no more of four different numbers than it is long
four-bits : (x : ℕ) → bit (eqb 2 x) + (bit (eqb 4 x) + (bit (eqb 6 x) + bit (eqb 8 x))) ≤ 1
unfolding bit
four-bits x =
    ⊎_elim (λ e. rw (← e) (lit≤ tt))
    (λ a. ⊎_elim (λ e. rw (← e) (lit≤ tt))
    (λ b. ⊎_elim (λ e. rw (← e) (lit≤ tt))
    (λ c. ⊎_elim (λ e. rw (← e) (lit≤ tt)) (λ d. rw (ne_eqb 2 x a, ne_eqb 4 x b, ne_eqb 6 x c, ne_eqb 8 x d) (lit≤ tt)) (same_or_not 8 x))
    (same_or_not 6 x))
    (same_or_not 4 x))
    (same_or_not 2 x)

four-times : (xs : List ℕ) → times 2 xs + (times 4 xs + (times 6 xs + times 8 xs)) ≤ length xs
unfolding times
four-times [] = lit≤ tt
four-times (x ∷ xs) = let h = four-bits x in let k = four-times xs in omega arith

-- a node whose word differs is named
named : (names ws ws' : List ℕ) → Changes names ws ws' → (i : ℕ) → (get_or ws' i 0 ≡ get_or ws i 0 → ⊥) → 0 < times (name i) names
named names ws ws' k i n =
    ⊎_elim (λ h. h) (λ z. absurd (n (k.same i (times-off (name i) names (omega arith))))) (below_or_not 0 (times (name i) names))

abbrev before : List ℕ
before = 4 ∷ 2 ∷ 8 ∷ 6 ∷ []

abbrev after : List ℕ
after = (splice_after before (ends 2 4) (cursor 2 0 4) (ends 6 8)).words

-- between the two nodes of a list go those of another: four words change
spliced : after ≡ 6 ∷ 8 ∷ 10 ∷ 2 ∷ []
unfolding pool_limit pool_fits is_name is_linked word_at put_at next_of linked_at link_with ends_hold side_holds ends_test Rattle.ends.specs.Tests.stands stand_test pair_test replace_next_or_prev splice_between spliced_after splice_after
spliced = refl

pub four-needed : AtMost 3 before after → ⊥
four-needed a =
    let k : Changes a.names before (6 ∷ 8 ∷ 10 ∷ 2 ∷ []) = rw spliced at a.changes in
    let h = named a.names before _ k in
    let h0 : 0 < times 2 a.names = h 0 (λ e. omega arith) in
    let h1 : 0 < times 4 a.names = h 1 (λ e. omega arith) in
    let h2 : 0 < times 6 a.names = h 2 (λ e. omega arith) in
    let h3 : 0 < times 8 a.names = h 3 (λ e. omega arith) in
    let f = four-times a.names in
    let g = a.few in omega arith
