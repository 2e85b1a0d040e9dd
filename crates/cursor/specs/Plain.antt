-- Plain sequences and places: what the moves stand for, with no word in it (document 01, 'Edits').
use Rattle.std.specs.Prelude.{ℕ, ◌≡◌, List, [], ◌∷◌, ◌++◌, reverse}
use Rattle.std.specs.Int.Bits.{bit_xor}
use Rattle.words.specs.Names.{name}
use Rattle.words.specs.Listing.{front, back, Listing}
use Rattle.ends.specs.declared.Ends.{Ends}
use Rattle.cursor.specs.declared.Cursor.{Cursor}

-- A place on a sequence of nodes: at a node, with those ahead of it and those beyond it; or at null, with all of them.
pub data Place : Type 0 where
  at : List ℕ → ℕ → List ℕ → Place
  at_null : List ℕ → Place

-- The whole sequence.
abbrev pub nodes : Place → List ℕ
nodes (at L x R) = L ++ x ∷ R
nodes (at_null xs) = xs

-- The same place, of the sequence read from its other side.
abbrev pub mirror : Place → Place
mirror (at L x R) = at (reverse R) x (reverse L)
mirror (at_null xs) = at_null (reverse xs)

-- To the neighbour, or null past the end; from null to the first, or null if there is none.
abbrev pub next_place : Place → Place
next_place (at L x []) = at_null (L ++ x ∷ [])
next_place (at L x (y ∷ R)) = at (L ++ x ∷ []) y R
next_place (at_null []) = at_null []
next_place (at_null (x ∷ xs)) = at [] x xs

-- The same towards the other side.
abbrev pub prev_place : Place → Place
prev_place z = mirror (next_place (mirror z))

-- A true cursor: at the node of the place, with its real neighbours; or at null, with the last node and the first.
abbrev pub TrueAt : Cursor → Place → Type 0
TrueAt c (at L x R) = (c.current.0 ≡ name x) × (c.prev.0 ≡ back 0 L) × (c.next.0 ≡ front R 0)
TrueAt c (at_null xs) = (c.current.0 ≡ 0) × (c.prev.0 ≡ back 0 xs) × (c.next.0 ≡ front xs 0)

-- The premise of every sequence promise: the sequence is the listing of the ends, and the cursor is true at its place.
pub record Sound (ws : List ℕ) (e : Ends) (c : Cursor) (z : Place) : Type 0 where
  pub listing : Listing bit_xor ws e.head.0 e.tail.0 (nodes z)
  pub place : TrueAt c z
