-- Counting nodes, one at a time. Assumes nothing.
use Rattle.std.proofs.Common.{◌≡◌, ℕ, zero, suc, ◌+◌, ◌<◌, ◌≤◌, Bool, true, false, not, ◌&&◌, eqb, List, length, get_or, sym, refl, ap, ◌∙◌, add-one, arith}
use Rattle.words.specs.Names.{is_linked}
use Rattle.words.proofs.Laws.Names.{fits-small}
use Rattle.walk.specs.Marks.{is_marked, sizes_fit}
use Rattle.walk.proofs.Laws.Calls.{sizes}
use Rattle.audit.specs.Audit.{bit, tally, is_stranded}
use Rattle.audit.specs.Steps.{counted_of}

pub tally-more : (n : ℕ) (p : ℕ → Bool) → tally (n + 1) p ≡ tally n p + bit (p n)
unfolding tally
tally-more n p = ap (λ (k : ℕ). tally k p) (add-one n)

-- a test counts a node once or not at all
pub at_most_one : (b : Bool) (r : ℕ) → r ≡ bit b → r ≤ 1
unfolding bit
at_most_one true r e = omega arith
at_most_one false r e = omega arith

pub tally-le : (n : ℕ) (p : ℕ → Bool) → tally n p ≤ n
unfolding tally
tally-le zero p = omega arith
tally-le (suc n) p =
    let r : tally n p ≤ n = tally-le n p in
    let o : bit (p n) ≤ 1 = at_most_one (p n) (bit (p n)) refl in
    omega arith

-- ---- the pass over the nodes

-- the nodes below i are counted
pub record Counts (ws ms : List ℕ) (i on off : ℕ) : Type 0 where
  pub fit : sizes_fit ws ms ≡ true
  pub long : length ms ≡ length ws
  pub few : length ws ≤ 16777216
  pub within : i ≤ length ws
  pub on-few : on ≤ i
  pub off-few : off ≤ i
  pub marked : on ≡ tally i (is_marked ms)
  pub strays : off ≡ tally i (is_stranded ws ms)

pub counts-none : (ws ms : List ℕ) → sizes_fit ws ms ≡ true → Counts ws ms 0 0 0
unfolding tally
counts-none ws ms h =
    let s = sizes ws ms h in
    let f : length ws ≤ 16777216 = fits-small (length ws) s.fits in
    record { fit = h; long = s.long; few = f; within = omega arith; on-few = omega arith; off-few = omega arith; marked = refl; strays = refl }

pub counts-more : (ws ms : List ℕ) (i on off r r' : ℕ) → Counts ws ms i on off → i < length ws
    → r ≡ bit (not (eqb (get_or ms i 0) 0))
    → r' ≡ bit (not (not (eqb (get_or ms i 0) 0)) && is_linked (get_or ws i 0))
    → Counts ws ms (i + 1) (on + r) (off + r')
unfolding is_marked is_stranded
counts-more ws ms i on off r r' c h e e' =
    let a = at_most_one (not (eqb (get_or ms i 0) 0)) r e in
    let b = at_most_one (not (not (eqb (get_or ms i 0) 0)) && is_linked (get_or ws i 0)) r' e' in
    record {
      fit = c.fit;
      long = c.long;
      few = c.few;
      within = omega arith;
      on-few = omega arith;
      off-few = omega arith;
      marked = more on r (is_marked ms) c.marked e;
      strays = more off r' (is_stranded ws ms) c.strays e';
    }
  where
    more : (k d : ℕ) (p : ℕ → Bool) → k ≡ tally i p → d ≡ bit (p i) → k + d ≡ tally (i + 1) p
    more k d p u v = ap (λ (z : ℕ). z + d) u ∙ ap (λ (z : ℕ). tally i p + z) v ∙ sym (tally-more i p)

pub counts-refused : (ws ms : List ℕ) → sizes_fit ws ms ≡ false → record { on_lists = 0; stranded = 0 } ≡ counted_of ws ms
unfolding counted_of
counts-refused ws ms h = rw h

pub counts_all : (ws ms : List ℕ) (i on off : ℕ) → Counts ws ms i on off → length ws ≤ i
    → record { on_lists = on; stranded = off } ≡ counted_of ws ms
unfolding counted_of
counts_all ws ms i on off c h =
    let z : i ≡ length ws = omega (arith, c.within) in
    rw (c.fit, ← z, c.marked, c.strays)
