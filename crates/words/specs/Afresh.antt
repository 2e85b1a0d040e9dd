-- Words written afresh from sequences of nodes (demand 3).
use Rattle.std.specs.Prelude.{List, [], ◌∷◌, ◌++◌, ℕ, set}
use Rattle.words.specs.Names.{name}
use Rattle.words.specs.Listing.{front}

-- The nodes of all the sequences.
abbrev pub joined : List (List ℕ) → List ℕ
joined [] = []
joined (xs ∷ xss) = xs ++ joined xss

module _ (word : ℕ → ℕ → ℕ) where
  -- The pool with the words of xs written into it, from the first to the last, p named before the first and q after the last.
  abbrev pub afresh : List ℕ → ℕ → List ℕ → ℕ → List ℕ
  afresh ws p [] q = ws
  afresh ws p (x ∷ xs) q = afresh (set ws x (word p (front xs q))) (name x) xs q

  -- The pool with the words of each sequence written into it, null outside.
  abbrev pub afresh_all : List ℕ → List (List ℕ) → List ℕ
  afresh_all ws [] = ws
  afresh_all ws (xs ∷ xss) = afresh_all (afresh ws 0 xs 0) xss
