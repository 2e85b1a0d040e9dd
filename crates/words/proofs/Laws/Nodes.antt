-- Laws of sequences of nodes: what holds of every one, and what two of them share. Assumes nothing.
use mathlib.Core.Path.{sym, subst}
use mathlib.Core.Logic.{◌≢◌, ◌⊎◌, inl, inr, ⊎_elim}
use mathlib.Core.List.{List, [], ◌∷◌, ◌++◌, reverse, reverse-cons}
use Prim.Native.Nat.{ℕ}
use Rattle.words.specs.Listing.{All, Off, Distinct, Apart}
use Rattle.words.proofs.Laws.Cases.{same_or_not}

-- ---- every element

pub all_map : (P Q : ℕ → Type 0) → ((x : ℕ) → P x → Q x) → (xs : List ℕ) → All P xs → All Q xs
all_map P Q f [] h = tt
all_map P Q f (x ∷ xs) h = (f x h.0, all_map P Q f xs h.1)

pub all_both : (P Q : ℕ → Type 0) (xs : List ℕ) → All P xs → All Q xs → All (λ x. P x × Q x) xs
all_both P Q [] h k = tt
all_both P Q (x ∷ xs) h k = ((h.0, k.0), all_both P Q xs h.1 k.1)

pub all_append : (P : ℕ → Type 0) (xs ys : List ℕ) → All P xs → All P ys → All P (xs ++ ys)
all_append P [] ys h k = k
all_append P (x ∷ xs) ys h k = (h.0, all_append P xs ys h.1 k)

pub all_left : (P : ℕ → Type 0) (xs ys : List ℕ) → All P (xs ++ ys) → All P xs
all_left P [] ys h = tt
all_left P (x ∷ xs) ys h = (h.0, all_left P xs ys h.1)

pub all_right : (P : ℕ → Type 0) (xs ys : List ℕ) → All P (xs ++ ys) → All P ys
all_right P [] ys h = h
all_right P (x ∷ xs) ys h = all_right P xs ys h.1

pub all-reverse : (P : ℕ → Type 0) (xs : List ℕ) → All P xs → All P (reverse xs)
all-reverse P [] h = tt
all-reverse P (x ∷ xs) h = rw reverse-cons (all_append P (reverse xs) (x ∷ []) (all-reverse P xs h.1) (h.0, tt))

-- ---- what two sequences share

pub apart-sym : (xs ys : List ℕ) → Apart xs ys → Apart ys xs
apart-sym xs [] h = tt
apart-sym xs (y ∷ ys) h = (
  all_map (λ x. Off x (y ∷ ys)) (λ x. x ≢ y) (λ x o e. o.0 (sym e)) xs h,
  apart-sym xs ys (all_map (λ x. Off x (y ∷ ys)) (λ x. Off x ys) (λ x o. o.1) xs h),
)

-- a node that is off a sequence shares nothing with it
pub off-apart : (i : ℕ) (xs : List ℕ) → Off i xs → Apart xs (i ∷ [])
off-apart i xs h = apart-sym (i ∷ []) xs (h, tt)

pub distinct_append : (xs ys : List ℕ) → Distinct xs → Distinct ys → Apart xs ys → Distinct (xs ++ ys)
distinct_append [] ys h k a = k
distinct_append (x ∷ xs) ys h k a = (all_append (λ y. y ≢ x) xs ys h.0 a.0, distinct_append xs ys h.1 k a.1)

pub distinct-left : (xs ys : List ℕ) → Distinct (xs ++ ys) → Distinct xs
distinct-left [] ys h = tt
distinct-left (x ∷ xs) ys h = (all_left (λ y. y ≢ x) xs ys h.0, distinct-left xs ys h.1)

pub distinct-right : (xs ys : List ℕ) → Distinct (xs ++ ys) → Distinct ys
distinct-right [] ys h = h
distinct-right (x ∷ xs) ys h = distinct-right xs ys h.1

pub distinct_apart : (xs ys : List ℕ) → Distinct (xs ++ ys) → Apart xs ys
distinct_apart [] ys h = tt
distinct_apart (x ∷ xs) ys h = (all_right (λ y. y ≢ x) xs ys h.0, distinct_apart xs ys h.1)

pub distinct-reverse : (xs : List ℕ) → Distinct xs → Distinct (reverse xs)
distinct-reverse [] h = tt
distinct-reverse (x ∷ xs) h =
    rw (reverse-cons x xs)
    (distinct_append (reverse xs) (x ∷ []) (distinct-reverse xs h.1) (tt, tt)
    (off-apart x (reverse xs) (all-reverse (λ y. y ≢ x) xs h.0)))

-- what holds of every element, or else the number is none of them
pub holds-or-off : (P : ℕ → Type 0) (xs : List ℕ) → All P xs → (j : ℕ) → P j ⊎ Off j xs
holds-or-off P [] h j = inr tt
holds-or-off P (x ∷ xs) h j =
    ⊎_elim (λ e. inl (subst P e h.0)) (λ ne. ⊎_elim (λ p. inl p) (λ o. inr (ne, o)) (holds-or-off P xs h.1 j)) (same_or_not x j)
