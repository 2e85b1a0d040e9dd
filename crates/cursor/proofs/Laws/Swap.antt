-- The ends of a list whose node at the cursor gives way to another, or to none. Assumes nothing.
use mathlib.Core.Path.{◌≡◌, refl, sym, ◌∙◌}
use mathlib.Core.Logic.{◌≢◌}
use mathlib.Core.Bool.{cond}
use mathlib.Core.List.{List, [], ◌∷◌, ◌++◌}
use Prim.Native.Nat.{ℕ}
use lib.Dec.{eqb}
use borrow.Author.Tests.{eq-eqb}
use Rattle.words.specs.declared.names.Name.{Name}
use Rattle.words.specs.Names.{name}
use Rattle.words.specs.Listing.{All, Off, front, back}
use Rattle.words.proofs.Laws.Nodes.{all_right, all_left, all_append}
use Rattle.words.proofs.Laws.Chain.{back-append, last_of, back_last, all-last}
use Rattle.ends.proofs.Laws.Holds.{name-null, name-other}

-- the head: v takes the place of x, if that was the first
pub head-swap : (L : List ℕ) (x : ℕ) (R : List ℕ) (head current v : Name) → Off x L → head.0 ≡ front (L ++ x ∷ R) 0 → current.0 ≡ name x
    → (cond (eqb head.0 current.0) v head).0 ≡ front L v.0
head-swap [] x R head current v o h c = rw (h, c, eq-eqb (name x) (name x) refl)
head-swap (y ∷ L) x R head current v o h c = rw (h, c, name-other y x (λ e. o.0 (sym e)))

-- the tail: v takes the place of x, if that was the last
pub tail-swap : (L : List ℕ) (x : ℕ) (R : List ℕ) (tail current v : Name) → Off x R → tail.0 ≡ back 0 (L ++ x ∷ R) → current.0 ≡ name x
    → (cond (eqb tail.0 current.0) v tail).0 ≡ back v.0 R
tail-swap L x [] tail current v o t c = rw (t, c, back-append 0 L (x ∷ []), eq-eqb (name x) (name x) refl)
tail-swap L x (y ∷ R) tail current v o t c =
    let e : tail.0 ≡ name (last_of y R) = t ∙ back-append 0 L (x ∷ y ∷ R) ∙ back_last (name x) y R in
    rw (e, c, name-other (last_of y R) x (λ q. all-last (λ z. z ≢ x) y R o (sym q))) (sym (back_last v.0 y R))

-- a node of a sequence, taken to its front
pub all-out : (P : ℕ → Type 0) (L : List ℕ) (x : ℕ) (R : List ℕ) → All P (L ++ x ∷ R) → All P (x ∷ (L ++ R))
all-out P L x R h = let r = all_right P L (x ∷ R) h in (r.0, all_append P L R (all_left P L (x ∷ R) h) r.1)

-- the tail of a list that something with the tail v is put in front of
pub tail-null : (xs : List ℕ) (tail current v : Name) → tail.0 ≡ back 0 xs → current.0 ≡ 0
    → (cond (eqb tail.0 current.0) v tail).0 ≡ back v.0 xs
tail-null [] tail current v t c = rw (t, c)
tail-null (x ∷ xs) tail current v t c =
    let e : tail.0 ≡ name (last_of x xs) = t ∙ back_last 0 x xs in rw (e, c, name-null (last_of x xs)) (sym (back_last v.0 x xs))
