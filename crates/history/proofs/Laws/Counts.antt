-- How often a node stands in a sequence, and on all lists: laws of the count. Assumes nothing.
use mathlib.Core.Path.{◌≡◌, refl, sym, ap}
use mathlib.Core.Logic.{◌≢◌, ⊎_elim}
use mathlib.Core.List.{List, [], ◌∷◌, ◌++◌, reverse, reverse-cons}
use Prim.Native.Nat.{ℕ, zero, suc, ◌+◌, ◌<◌, ◌≤◌}
use native.Mathlib.Omega.{arith}
use lib.Dec.{eqb}
use lib.ListN.{length, get_or, set}
use borrow.Author.Tests.{eq-eqb, ne_eqb}
use Rattle.words.specs.Listing.{Off, Distinct, Apart}
use Rattle.words.proofs.Laws.Cases.{same_or_not}
use Rattle.cursor.specs.Plain.{Place, nodes}
use Rattle.audit.specs.Audit.{bit}
use Rattle.history.specs.History.{times, on_lists}

-- ---- one sequence

pub times-append : (x : ℕ) (xs ys : List ℕ) → times x (xs ++ ys) ≡ times x xs + times x ys
unfolding times
times-append x [] ys = omega arith
times-append x (y ∷ xs) ys = let k : times x (xs ++ ys) ≡ times x xs + times x ys = times-append x xs ys in omega arith

pub times-reverse : (x : ℕ) (xs : List ℕ) → times x (reverse xs) ≡ times x xs
unfolding times
times-reverse x [] = refl
times-reverse x (y ∷ xs) =
    let a : times x (reverse xs ++ y ∷ []) ≡ times x (reverse xs) + (bit (eqb x y) + 0) = times-append x (reverse xs) (y ∷ []) in
    let b : times x (reverse xs) ≡ times x xs = times-reverse x xs in
    rw (reverse-cons y xs) (omega arith)

-- one node
pub times-here : (x : ℕ) → times x (x ∷ []) ≡ 1
unfolding times bit
times-here x = rw (eq-eqb x x refl)

pub times-not : (x y : ℕ) → x ≢ y → times x (y ∷ []) ≡ 0
unfolding times bit
times-not x y ne = rw (ne_eqb x y ne)

-- none is as good as off
pub off-times : (x : ℕ) (xs : List ℕ) → Off x xs → times x xs ≡ 0
unfolding times bit
off-times x [] o = refl
off-times x (y ∷ xs) o =
    let k : times x xs ≡ 0 = off-times x xs o.1 in
    let b : bit (eqb x y) ≡ 0 = rw (ne_eqb x y (λ e. o.0 (sym e))) in
    omega arith

pub times-off : (x : ℕ) (xs : List ℕ) → times x xs ≡ 0 → Off x xs
unfolding times bit
times-off x [] z = tt
times-off x (y ∷ xs) z = ⊎_elim here (there (times-off x xs)) (same_or_not x y)
  where
    here : x ≡ y → Off x (y ∷ xs)
    here e = absurd (let b : bit (eqb x y) ≡ 1 = rw (eq-eqb x y e) in omega arith)

    there : (times x xs ≡ 0 → Off x xs) → x ≢ y → Off x (y ∷ xs)
    there f ne = (λ e. ne (sym e), f (omega arith))

-- sequences that together have no node twice
pub times-distinct : (xs : List ℕ) → ((x : ℕ) → times x xs ≤ 1) → Distinct xs
unfolding times bit
times-distinct [] h = tt
times-distinct (y ∷ xs) h = (times-off y xs (none (h y)), times-distinct xs (λ x. rest x (h x)))
  where
    none : bit (eqb y y) + times y xs ≤ 1 → times y xs ≡ 0
    none k = let b : bit (eqb y y) ≡ 1 = rw (eq-eqb y y refl) in omega arith

    rest : (x : ℕ) → bit (eqb x y) + times x xs ≤ 1 → times x xs ≤ 1
    rest x k = omega arith

pub times-apart : (vs xs : List ℕ) → ((x : ℕ) → times x vs + times x xs ≤ 1) → Apart vs xs
unfolding times bit
times-apart [] xs h = tt
times-apart (v ∷ vs) xs h = (times-off v xs (none (h v)), times-apart vs xs (λ x. rest x (h x)))
  where
    none : (bit (eqb v v) + times v vs) + times v xs ≤ 1 → times v xs ≡ 0
    none k = let b : bit (eqb v v) ≡ 1 = rw (eq-eqb v v refl) in omega arith

    rest : (x : ℕ) → (bit (eqb x v) + times x vs) + times x xs ≤ 1 → times x vs + times x xs ≤ 1
    rest x k = omega arith

-- ---- all lists

-- a sequence that is put in the place of another
pub on-set : (x : ℕ) (zs : List Place) (l : ℕ) (z d : Place) → l < length zs
    → on_lists x (set zs l z) + times x (nodes (get_or zs l d)) ≡ on_lists x zs + times x (nodes z)
unfolding on_lists
on-set x [] l z d h = absurd (omega arith)
on-set x (y ∷ zs) zero z d h = omega arith
on-set x (y ∷ zs) (suc l) z d h =
    let k : on_lists x (set zs l z) + times x (nodes (get_or zs l d)) ≡ on_lists x zs + times x (nodes z) = on-set x zs l z d (omega arith) in omega arith

-- one of the sequences, and two of them
pub on_one : (x : ℕ) (zs : List Place) (l : ℕ) (d : Place) → l < length zs → times x (nodes (get_or zs l d)) ≤ on_lists x zs
unfolding on_lists
on_one x [] l d h = absurd (omega arith)
on_one x (y ∷ zs) zero d h = omega arith
on_one x (y ∷ zs) (suc l) d h = let k : times x (nodes (get_or zs l d)) ≤ on_lists x zs = on_one x zs l d (omega arith) in omega arith

pub on-two : (x : ℕ) (zs : List Place) (i l : ℕ) (d : Place) → i < length zs → l < length zs → i ≢ l
    → times x (nodes (get_or zs i d)) + times x (nodes (get_or zs l d)) ≤ on_lists x zs
unfolding on_lists
on-two x [] i l d h k ne = absurd (omega arith)
on-two x (y ∷ zs) zero zero d h k ne = absurd (ne refl)
on-two x (y ∷ zs) zero (suc l) d h k ne = let o : times x (nodes (get_or zs l d)) ≤ on_lists x zs = on_one x zs l d (omega arith) in omega arith
on-two x (y ∷ zs) (suc i) zero d h k ne = let o : times x (nodes (get_or zs i d)) ≤ on_lists x zs = on_one x zs i d (omega arith) in omega arith
on-two x (y ∷ zs) (suc i) (suc l) d h k ne =
    let o : times x (nodes (get_or zs i d)) + times x (nodes (get_or zs l d)) ≤ on_lists x zs =
    on-two x zs i l d (omega arith) (omega arith) (λ e. ne (ap suc e)) in
    omega arith
