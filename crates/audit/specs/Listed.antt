-- What is promised of the audit speaks of sequences of nodes, one a list. Here and in all that follows xss are such sequences.
use Rattle.std.specs.Prelude.{◌≡◌, ℕ, ◌+◌, Bool, true, not, ◌&&◌, List, [], ◌∷◌, bit_xor, slice_index}
use Rattle.words.specs.Names.{is_linked}
use Rattle.words.specs.Listing.{Apart, Listing}
use Rattle.ends.specs.declared.Ends.{Ends}
use Rattle.ends.specs.Tests.{ends_hold}
use Rattle.walk.specs.Marks.{elem, paint}

-- The ends of every list hold.
abbrev pub AllHold : List ℕ → List Ends → Type 0
AllHold ws [] = Unit
AllHold ws (e ∷ es) = (ends_hold ws e ≡ true) × AllHold ws es

-- Every list has its sequence for a listing.
abbrev pub Listed : List ℕ → List Ends → List (List ℕ) → Type 0
Listed ws [] [] = Unit
Listed ws [] (xs ∷ xss) = ⊥
Listed ws (e ∷ es) [] = ⊥
Listed ws (e ∷ es) (xs ∷ xss) = Listing bit_xor ws e.head.0 e.tail.0 xs × Listed ws es xss

-- A sequence shares no node with any of the others.
abbrev pub ApartFrom : List ℕ → List (List ℕ) → Type 0
ApartFrom xs [] = Unit
ApartFrom xs (ys ∷ xss) = Apart xs ys × ApartFrom xs xss

-- No two of the sequences share a node.
abbrev pub AllApart : List (List ℕ) → Type 0
AllApart [] = Unit
AllApart (xs ∷ xss) = ApartFrom xs xss × AllApart xss

-- The marks with k + 1 at each node of the first sequence, k + 2 at each of the second, and so on.
unfoldable pub paint_all : List ℕ → ℕ → List (List ℕ) → List ℕ
paint_all ms k [] = ms
paint_all ms k (xs ∷ xss) = paint_all (paint ms (k + 1) xs) (k + 1) xss

-- Node i is none of the nodes, and its word is that of a linked node.
unfoldable pub is_stray : List ℕ → List ℕ → ℕ → Bool
is_stray ws xs i = not (elem i xs) && is_linked (slice_index ws i)
