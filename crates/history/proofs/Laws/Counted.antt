-- Which nodes are linked, by how often each is held: what a node more, or a node less, does to it. Assumes nothing.
use mathlib.Core.Path.{◌≡◌, sym, ap, ◌∙◌}
use mathlib.Core.Logic.{◌≢◌, ⊎_elim}
use mathlib.Core.Bool.{Bool}
use Prim.Native.Nat.{ℕ, ◌+◌, ◌<◌, ◌≤◌}
use native.Mathlib.Omega.{arith}
use lib.Dec.{eqb, ltb}
use borrow.Author.Tests.{eq-eqb, ne_eqb}
use Rattle.words.proofs.Laws.Cases.{same_or_not}
use Rattle.cursor.specs.Does.{linking, unlinking}
use Rattle.audit.specs.Audit.{bit}

-- H says how often each node is held; f says which are linked.
pub record Counted (n : ℕ) (H : ℕ → ℕ) (f : ℕ → Bool) : Type 0 where
  pub once : (x : ℕ) → H x ≤ 1
  pub ranged : (x : ℕ) → n ≤ x → H x ≡ 0
  pub linked : (x : ℕ) → x < n → f x ≡ ltb 0 (H x)

-- the same counts
pub same-counted : (n : ℕ) (H H' : ℕ → ℕ) (f : ℕ → Bool) → ((x : ℕ) → H' x ≡ H x) → Counted n H f → Counted n H' f
same-counted n H H' f e k =
    record {
      once = λ x. rw (e x) (k.once x);
      ranged = λ x r. e x ∙ k.ranged x r;
      linked = λ x r. k.linked x r ∙ ap (ltb 0) (sym (e x));
    }

-- a node more, which was not held
pub more-counted : (n : ℕ) (H H' : ℕ → ℕ) (f : ℕ → Bool) (i : ℕ) → i < n → H i ≡ 0 → ((x : ℕ) → H' x ≡ H x + bit (eqb x i))
    → Counted n H f → Counted n H' (linking i f)
unfolding bit
more-counted n H H' f i r z e k =
    record {
      once = λ x. ⊎_elim (here1 x) (there1 x) (same_or_not x i);
      ranged = λ x b. there2 x b;
      linked = λ x b. ⊎_elim (here3 x) (there3 x b) (same_or_not x i);
    }
  where
    here0 : (x : ℕ) → x ≡ i → H' x ≡ 1
    here0 x p =
        let a : H' x ≡ H x + bit (eqb x i) = e x in
        let b : bit (eqb x i) ≡ 1 = rw (eq-eqb x i p) in
        let c : H x ≡ 0 = ap H p ∙ z in
        omega arith

    there0 : (x : ℕ) → x ≢ i → H' x ≡ H x
    there0 x ne =
        let a : H' x ≡ H x + bit (eqb x i) = e x in
        let b : bit (eqb x i) ≡ 0 = rw (ne_eqb x i ne) in
        omega arith

    here1 : (x : ℕ) → x ≡ i → H' x ≤ 1
    here1 x p = let a : H' x ≡ 1 = here0 x p in omega arith

    there1 : (x : ℕ) → x ≢ i → H' x ≤ 1
    there1 x ne = rw (there0 x ne) (k.once x)

    there2 : (x : ℕ) → n ≤ x → H' x ≡ 0
    there2 x b = there0 x (λ p. omega arith) ∙ k.ranged x b

    here3 : (x : ℕ) → x ≡ i → linking i f x ≡ ltb 0 (H' x)
    here3 x p = rw (eq-eqb x i p, here0 x p)

    there3 : (x : ℕ) → x < n → x ≢ i → linking i f x ≡ ltb 0 (H' x)
    there3 x b ne = rw (ne_eqb x i ne, there0 x ne) (k.linked x b)

-- a node less
pub less-counted : (n : ℕ) (H H' : ℕ → ℕ) (f : ℕ → Bool) (y : ℕ) → ((x : ℕ) → H' x + bit (eqb x y) ≡ H x)
    → Counted n H f → Counted n H' (unlinking y f)
unfolding bit
less-counted n H H' f y e k =
    record {
      once = λ x. low x (e x) (k.once x);
      ranged = λ x b. zero' x (e x) (k.ranged x b);
      linked = λ x b. ⊎_elim (here3 x) (there3 x b) (same_or_not x y);
    }
  where
    low : (x : ℕ) → H' x + bit (eqb x y) ≡ H x → H x ≤ 1 → H' x ≤ 1
    low x a b = omega arith

    zero' : (x : ℕ) → H' x + bit (eqb x y) ≡ H x → H x ≡ 0 → H' x ≡ 0
    zero' x a b = omega arith

    here0 : (x : ℕ) → x ≡ y → H' x ≡ 0
    here0 x p =
        let a : H' x + bit (eqb x y) ≡ H x = e x in
        let b : bit (eqb x y) ≡ 1 = rw (eq-eqb x y p) in
        let c : H x ≤ 1 = k.once x in
        omega arith

    there0 : (x : ℕ) → x ≢ y → H' x ≡ H x
    there0 x ne =
        let a : H' x + bit (eqb x y) ≡ H x = e x in
        let b : bit (eqb x y) ≡ 0 = rw (ne_eqb x y ne) in
        omega arith

    here3 : (x : ℕ) → x ≡ y → unlinking y f x ≡ ltb 0 (H' x)
    here3 x p = rw (eq-eqb x y p, here0 x p)

    there3 : (x : ℕ) → x < n → x ≢ y → unlinking y f x ≡ ltb 0 (H' x)
    there3 x b ne = rw (ne_eqb x y ne, there0 x ne) (k.linked x b)
