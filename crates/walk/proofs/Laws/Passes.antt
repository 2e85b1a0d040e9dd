-- The passes over the marks: one that takes them away, and one that releases the nodes which have the mark 1. Assumes nothing.
use mathlib.Core.Path.{◌≡◌, refl, sym, ap, ◌∙◌}
use mathlib.Core.Logic.{◌≢◌, ⊎_elim}
use mathlib.Core.Bool.{Bool, true, false, cond}
use mathlib.Core.List.{List, ◌++◌, append-nil}
use Prim.Native.Nat.{ℕ, ◌+◌, ◌<◌, ◌≤◌}
use native.Mathlib.Omega.{arith}
use lib.Dec.{eqb}
use lib.ListN.{length, get_or, set, drop, replicate, get_or-replicate, length-replicate}
use lib.Seq.{drop-length, get_or-set_same, get_or-set_other, ext_get_or}
use Rattle.words.proofs.Laws.Cases.{same_or_not}
use Rattle.walk.specs.Marks.{elem, paint, unmarked}
use Rattle.walk.specs.Released.{Released}
use Rattle.walk.proofs.Laws.Marks.{paint-at, paint-length}

-- ---- marks taken away

pub filled : (d m : List ℕ) (i : ℕ) → m ≡ replicate i 0 ++ drop i d → i ≤ length d → length d ≤ i → m ≡ unmarked d
filled d m i e h k =
    let z : i ≡ length d = omega arith in e ∙ rw (z, drop-length d) (append-nil (replicate (length d) 0))

-- ---- nodes released

-- the word of a node with the mark m
abbrev pub freed : ℕ → ℕ → ℕ
freed m v = cond (eqb m 1) 1 v

-- the nodes below i are done, and the others as they were
pub record Passing (ws ms now : List ℕ) (i : ℕ) : Type 0 where
  pub done : (k : ℕ) → k < i → get_or now k 0 ≡ freed (get_or ms k 0) (get_or ws k 0)
  pub rest : (k : ℕ) → i ≤ k → get_or now k 0 ≡ get_or ws k 0

pub passing-none : (ws ms : List ℕ) → Passing ws ms ws 0
passing-none ws ms = record { done = λ k h. absurd (omega arith); rest = λ k h. refl }

pub passing-more : (ws ms now : List ℕ) (i v : ℕ) → i < length now → v ≡ freed (get_or ms i 0) (get_or now i 0) → Passing ws ms now i
    → Passing ws ms (set now i v) (i + 1)
passing-more ws ms now i v r e p =
    record {
      done = λ k h. ⊎_elim (here k) (λ ne. get_or-set_other now i k v 0 ne ∙ p.done k (below k h ne)) (same_or_not k i);
      rest = λ k h. get_or-set_other now i k v 0 (λ z. above k h z) ∙ p.rest k (omega arith);
    }
  where
    here : (k : ℕ) → k ≡ i → get_or (set now i v) k 0 ≡ freed (get_or ms k 0) (get_or ws k 0)
    here k z =
        rw z (get_or-set_same now i v 0 r ∙ e ∙ ap (freed (get_or ms i 0)) (p.rest i (omega arith)))

    below : (k : ℕ) → k < i + 1 → k ≢ i → k < i
    below k h ne = omega arith

    above : (k : ℕ) → i + 1 ≤ k → k ≡ i → ⊥
    above k h z = omega arith

pub passing-all : (ws ms now : List ℕ) (i : ℕ) → length now ≡ length ws → length ws ≤ i → Passing ws ms now i → Released ws ms now
passing-all ws ms now i long ge p = record { long = long; each = λ k h. p.done k (omega arith) }

-- what is released by the marks of a walk is the nodes that it met
pub released-met : (ws ms met now : List ℕ) → length ms ≡ length ws → Released ws (paint (unmarked ms) 1 met) now → now ≡ paint ws 1 met
released-met ws ms met now long r =
    ext_get_or 0 now (paint ws 1 met) (r.long ∙ sym (paint-length ws 1 met))
    (λ i h.
    let below : i < length ws = rw r.long at h in
    let lower : i < length ms = rw long below in
    let none : get_or (unmarked ms) i 0 ≡ 0 = get_or-replicate (length ms) i 0 0 lower in
    let mark : get_or (paint (unmarked ms) 1 met) i 0 ≡ cond (elem i met) 1 0 =
    paint-at (unmarked ms) 1 met i (rw (length-replicate {A = ℕ} (length ms) 0) lower) ∙ ap (λ (k : ℕ). cond (elem i met) 1 k) none in
    r.each i below ∙ ap (λ (k : ℕ). freed k (get_or ws i 0)) mark ∙ go (elem i met) (get_or ws i 0) ∙ sym (paint-at ws 1 met i below))
  where
    go : (b : Bool) (v : ℕ) → freed (cond b 1 0) v ≡ cond b 1 v
    go true v = refl
    go false v = refl
