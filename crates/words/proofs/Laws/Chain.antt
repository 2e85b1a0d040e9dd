-- Laws of chains, whatever a word is made of. Assumes nothing.
use mathlib.Core.Path.{◌≡◌, refl, sym, ap, ◌∙◌}
use mathlib.Core.List.{List, [], ◌∷◌, ◌++◌, reverse, reverse-cons, reverse-reverse}
use Prim.Native.Nat.{ℕ, ◌+◌, ◌%◌}
use native.Mathlib.Omega.{arith}
use lib.ListN.{get_or}
use Rattle.words.specs.Names.{name}
use Rattle.words.specs.Listing.{All, Off, front, back, Chain}
use Rattle.words.specs.Changes.{Changes}

-- ---- the ends of parts

pub front-append : (xs ys : List ℕ) (q : ℕ) → front (xs ++ ys) q ≡ front xs (front ys q)
front-append [] ys q = refl
front-append (x ∷ xs) ys q = refl

pub back-append : (p : ℕ) (xs ys : List ℕ) → back p (xs ++ ys) ≡ back (back p xs) ys
back-append p [] ys = refl
back-append p (x ∷ xs) ys = back-append (name x) xs ys

pub back-reverse : (q : ℕ) (xs : List ℕ) → back q (reverse xs) ≡ front xs q
back-reverse q [] = refl
back-reverse q (x ∷ xs) = rw (reverse-cons x xs, back-append q (reverse xs) (x ∷ []))

pub front-reverse : (q : ℕ) (xs : List ℕ) → front (reverse xs) q ≡ back q xs
front-reverse q xs = sym (back-reverse q (reverse xs)) ∙ ap (back q) (reverse-reverse xs)

-- the last node of a part that is not empty
unfoldable pub last_of : ℕ → List ℕ → ℕ
last_of x [] = x
last_of x (y ∷ ys) = last_of y ys

pub back_last : (p x : ℕ) (xs : List ℕ) → back p (x ∷ xs) ≡ name (last_of x xs)
unfolding last_of
back_last p x [] = refl
back_last p x (y ∷ ys) = back_last (name x) y ys

pub all-last : (P : ℕ → Type 0) (x : ℕ) (xs : List ℕ) → All P (x ∷ xs) → P (last_of x xs)
unfolding last_of
all-last P x [] h = h.0
all-last P x (y ∷ ys) h = all-last P y ys h.1

-- ---- chains

-- a word, with the name on its one side, settles the name on the other
abbrev pub Settles : (ℕ → ℕ → ℕ) → Type 0
Settles word = (p a b : ℕ) → word p a ≡ word p b → a ≡ b

-- a word is made of its two names in either order
abbrev pub Symmetric : (ℕ → ℕ → ℕ) → Type 0
Symmetric word = (p q : ℕ) → word p q ≡ word q p

-- even names make an even word
abbrev pub Evens : (ℕ → ℕ → ℕ) → Type 0
Evens word = (p q : ℕ) → p % 2 ≡ 0 → q % 2 ≡ 0 → word p q % 2 ≡ 0

module _ (word : ℕ → ℕ → ℕ) where
  -- the seam: a chain splits anywhere, and joins there
  pub chain-split : (ws : List ℕ) (p : ℕ) (xs ys : List ℕ) (q : ℕ) → Chain word ws p (xs ++ ys) q
      → Chain word ws p xs (front ys q) × Chain word ws (back p xs) ys q
  chain-split ws p [] ys q h = (tt, h)
  chain-split ws p (x ∷ xs) ys q h =
      let r = chain-split ws (name x) xs ys q h.1 in ((h.0 ∙ ap (word p) (front-append xs ys q), r.0), r.1)

  pub chain-join : (ws : List ℕ) (p : ℕ) (xs ys : List ℕ) (q : ℕ) → Chain word ws p xs (front ys q)
      → Chain word ws (back p xs) ys q → Chain word ws p (xs ++ ys) q
  chain-join ws p [] ys q h k = k
  chain-join ws p (x ∷ xs) ys q h k =
      (h.0 ∙ ap (word p) (sym (front-append xs ys q)), chain-join ws (name x) xs ys q h.1 k)

  -- the frame: what changes elsewhere keeps the chain
  pub chain-frame : (ns ws ws' : List ℕ) → Changes ns ws ws' → (p : ℕ) (xs : List ℕ) (q : ℕ) → All (λ x. Off (name x) ns) xs
      → Chain word ws p xs q → Chain word ws' p xs q
  chain-frame ns ws ws' k p [] q o h = tt
  chain-frame ns ws ws' k p (x ∷ xs) q o h =
      (k.same x o.0 ∙ h.0, chain-frame ns ws ws' k (name x) xs q o.1 h.1)

  -- the words and the first name settle the nodes
  pub chain-unique : Settles word → (ws : List ℕ) (p : ℕ) (xs ys : List ℕ) → Chain word ws p xs 0 → Chain word ws p ys 0
      → front xs 0 ≡ front ys 0 → xs ≡ ys
  chain-unique far ws p [] [] h k e = refl
  chain-unique far ws p [] (y ∷ ys) h k e = absurd (omega arith)
  chain-unique far ws p (x ∷ xs) [] h k e = absurd (omega arith)
  chain-unique far ws p (x ∷ xs) (y ∷ ys) h k e =
      let d : x ≡ y = omega arith in
      let f = far p (front xs 0) (front ys 0) (sym h.0 ∙ ap (λ (i : ℕ). get_or ws i 0) d ∙ k.0) in
      let k' : Chain word ws (name x) ys 0 = rw d k.1 in
      both x y xs ys d (chain-unique far ws (name x) xs ys h.1 k' f)
    where
      both : (x y : ℕ) (xs ys : List ℕ) → x ≡ y → xs ≡ ys → x ∷ xs ≡ y ∷ ys
      both x y xs ys p q = cc

  -- read from its other side, a chain is the reverse
  pub chain-reverse : Symmetric word → (ws : List ℕ) (p : ℕ) (xs : List ℕ) (q : ℕ) → Chain word ws p xs q
      → Chain word ws q (reverse xs) p
  chain-reverse comm ws p [] q h = tt
  chain-reverse comm ws p (x ∷ xs) q h =
      rw (reverse-cons x xs)
      (chain-join ws q (reverse xs) (x ∷ []) p (chain-reverse comm ws (name x) xs q h.1)
      (h.0 ∙ comm p (front xs q) ∙ ap (λ (n : ℕ). word n p) (sym (back-reverse q xs)), tt))

  -- the words of a chain between even names are even
  pub chain-even : Evens word → (ws : List ℕ) (p : ℕ) (xs : List ℕ) (q : ℕ) → p % 2 ≡ 0 → q % 2 ≡ 0 → Chain word ws p xs q
      → All (λ x. get_or ws x 0 % 2 ≡ 0) xs
  chain-even even ws p [] q hp hq c = tt
  chain-even even ws p (x ∷ xs) q hp hq c =
      (rw c.0 (even p (front xs q) hp (front-even xs)), chain-even even ws (name x) xs q (omega arith) hq c.1)
    where
      front-even : (xs : List ℕ) → front xs q % 2 ≡ 0
      front-even [] = hq
      front-even (y ∷ ys) = omega arith
