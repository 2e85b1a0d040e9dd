-- The listing rule (document 01, 'Words'), over what a word is made of: `word p q` is the word of a node between p and q.
-- For xor lists it is `bit_xor`; a list that is read forward only would take `q` alone.
use Rattle.std.specs.Prelude.{◌≡◌, ◌≢◌, List, [], ◌∷◌, ℕ, ◌<◌, length, get_or}
use Rattle.words.specs.Names.{name}

-- P holds of every element.
abbrev pub All : (ℕ → Type 0) → List ℕ → Type 0
All P [] = Unit
All P (x ∷ xs) = P x × All P xs

-- No element is i.
abbrev pub Off : ℕ → List ℕ → Type 0
Off i xs = All (λ x. x ≢ i) xs

-- No two elements are the same.
abbrev pub Distinct : List ℕ → Type 0
Distinct [] = Unit
Distinct (x ∷ xs) = Off x xs × Distinct xs

-- No element of the one is in the other.
abbrev pub Apart : List ℕ → List ℕ → Type 0
Apart xs ys = All (λ x. Off x ys) xs

-- The first name of a part of a list; of an empty part, the name after it.
abbrev pub front : List ℕ → ℕ → ℕ
front [] q = q
front (x ∷ xs) q = name x

-- The last name of a part of a list; of an empty part, the name before it.
abbrev pub back : ℕ → List ℕ → ℕ
back p [] = p
back p (x ∷ xs) = back (name x) xs

module _ (word : ℕ → ℕ → ℕ) where
  -- The nodes xs stand in this order, p named before the first of them and q after the last: each word is made of its two neighbours' names.
  abbrev pub Chain : List ℕ → ℕ → List ℕ → ℕ → Type 0
  Chain ws p [] q = Unit
  Chain ws p (x ∷ xs) q = (get_or ws x 0 ≡ word p (front xs q)) × Chain ws (name x) xs q

  -- xs is a listing of the ends h and t: nodes of the pool, distinct, the first and the last at the ends, the words by
  -- the rule with null outside. Where both ends are null it is empty.
  pub record Listing (ws : List ℕ) (h t : ℕ) (xs : List ℕ) : Type 0 where
    pub distinct : Distinct xs
    pub ranged : All (λ x. x < length ws) xs
    pub first : front xs 0 ≡ h
    pub last : back 0 xs ≡ t
    pub chain : Chain ws 0 xs 0
