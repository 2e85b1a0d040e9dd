-- Clear, on a desk that agrees with its history. Assumes nothing.
use mathlib.Core.Path.{◌≡◌, refl, sym, ap, ◌∙◌}
use mathlib.Core.Bool.{Bool, true, false, cond}
use mathlib.Core.List.{List, []}
use Prim.Native.Nat.{ℕ, ◌+◌, ◌<◌, ◌≤◌}
use native.Mathlib.Omega.{arith}
use lib.Dec.{ltb}
use lib.ListN.{length, get_or}
use borrow.Author.Tests.{ltb-true, ltb-false}
use Rattle.words.specs.Names.{pool_fits, is_linked}
use Rattle.words.specs.Pool.{outcome}
use Rattle.answers.specs.Answer.{done}
use Rattle.ends.specs.Ends.{empty_ends}
use Rattle.cursor.specs.Cursor.{null_cursor}
use Rattle.cursor.specs.Plain.{at_null, nodes}
use Rattle.cursor.proofs.Laws.Alone.{outside_alone}
use Rattle.cursor.specs.Does.{linked_in}
use Rattle.walk.specs.Marks.{elem, paint, unmarked, marking}
use Rattle.walk.proofs.Laws.Marks.{paint-length, paint-at, paint-off}
use Rattle.walk.proofs.Laws.Clear.{clear-listing}
use Rattle.desk.specs.Work.{row, worked, clearing}
use Rattle.desk.specs.Step.{Desk, row_at}
use Rattle.history.specs.History.{History, place_at, times, held}
use Rattle.history.specs.Follows.{Agrees}
use Rattle.history.proofs.Laws.Counts.{times-off}
use Rattle.history.proofs.Laws.Counted.{Counted}
use Rattle.history.proofs.Laws.Agrees.{counted, desk', history', one-agrees}
use Rattle.history.proofs.Laws.Comes.{after_one, one-count, off-here}
use Rattle.history.proofs.Laws.Commands.{empty-sound}
use Rattle.history.proofs.Laws.Elements.{elem-times}

module _ (n : ℕ) (d : Desk) (h : History) (g : Agrees n d h) (f : pool_fits n ≡ true) (l m : ℕ) (a : l < length h.places) (b : m < length h.places) where
  abbrev xs : List ℕ
  xs = nodes (place_at h l)

  -- the words that are left
  abbrev pub cleared : List ℕ
  cleared = paint d.words 1 xs

  pub clear-is : (ms : List ℕ) → length ms ≡ n
      → clearing d.words ms (row_at d l) (row_at d m)
      ≡ outcome cleared (marking (paint (unmarked ms) 1 xs) (worked done (row empty_ends (null_cursor empty_ends)) (row_at d m)))
  unfolding clearing
  clear-is ms long =
      rw (clear-listing d.words ms (row_at d l).ends xs (rw g.long f) (long ∙ sym g.long) (g.sound l a).listing)

  -- a node of the list is unlinked, and any other is as it was
  after : ℕ → ℕ
  after = after_one n d h g l m a b (at_null []) h.stranded

  clear-counted : Counted n (after_one n d h g l m a b (at_null []) h.stranded) (linked_in cleared)
  unfolding times is_linked after
  clear-counted =
      record {
        once = λ x. low x (one-count n d h g l m a b (at_null []) x) (g.once x);
        ranged = λ x r. none x (one-count n d h g l m a b (at_null []) x) (g.ranged x r);
        linked = λ x r.
            ap is_linked (paint-at d.words 1 xs x (rw g.long r))
            ∙ go x r (ltb 0 (times x xs)) refl (one-count n d h g l m a b (at_null []) x) (g.once x);
      }
    where
      low : (x : ℕ) → after x + times x xs ≡ held h x + 0 → held h x ≤ 1 → after x ≤ 1
      low x p q = omega arith

      none : (x : ℕ) → after x + times x xs ≡ held h x + 0 → held h x ≡ 0 → after x ≡ 0
      none x p q = omega arith

      go : (x : ℕ) → x < n → (v : Bool) → ltb 0 (times x xs) ≡ v → after x + times x xs ≡ held h x + 0 → held h x ≤ 1
          → is_linked (cond (elem x xs) 1 (get_or d.words x 0)) ≡ ltb 0 (after x)
      go x r true v p q =
          let t : 0 < times x xs = ltb-true 0 (times x xs) v in
          let z : after x ≡ 0 = omega arith in
          rw (elem-times x xs, v, z)
      go x r false v p q =
          let t : times x xs ≤ 0 = ltb-false 0 (times x xs) v in
          let z : after x ≡ held h x = omega arith in
          rw (elem-times x xs, v, z) ((counted n d h g).linked x r)

  pub clear-agrees : Agrees n (desk' n d h g l m a b cleared (row empty_ends (null_cursor empty_ends)) (row_at d m))
      (history' n d h g l m a b (at_null []) (place_at h m) h.stranded)
  clear-agrees =
      one-agrees n d h g l m a b cleared (row empty_ends (null_cursor empty_ends)) (at_null []) h.stranded []
      (outside_alone d.words cleared xs [] (record { long = paint-length d.words 1 xs; same = paint-off d.words 1 xs })) (empty-sound cleared) clear-counted

  pub clear_kept : (x : ℕ) → 0 < times x h.stranded → get_or cleared x 0 ≡ get_or d.words x 0
  clear_kept x p = paint-off d.words 1 xs x (times-off x xs (off-here n d h g l m a b x p))
