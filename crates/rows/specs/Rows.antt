-- The lists of a desk, each with its cursor (document 01, 'Command lines'), in one lent slice of words, five words a list. That they
-- lie so, and in which order, is our choice.
use Rattle.std.specs.Prelude.{ℕ, List, [], ◌∷◌, ◌++◌, drop}
use Rattle.ends.specs.Ends.{ends_of}
use Rattle.cursor.specs.Cursor.{cursor_of}
use Rattle.desk.specs.declared.Row.{Row}
use Rattle.desk.specs.Work.{row}

-- The list with these words: head, tail, and its cursor's current, prev and next.
abbrev pub row_of : ℕ → ℕ → ℕ → ℕ → ℕ → Row
row_of h t c p n =
    row (ends_of (record { 0 = h }) (record { 0 = t })) (cursor_of (record { 0 = c }) (record { 0 = p }) (record { 0 = n }))

-- The words of a list, in the same order.
abbrev pub words_of : Row → List ℕ
words_of r =
    r.ends.head.0 ∷ r.ends.tail.0 ∷ r.cursor.current.0 ∷ r.cursor.prev.0 ∷ r.cursor.next.0 ∷ []

-- The lists in a slice. Fewer than five words at its end are no list.
unfoldable pub rows_of : List ℕ → List Row
rows_of [] = []
rows_of (h ∷ []) = []
rows_of (h ∷ t ∷ []) = []
rows_of (h ∷ t ∷ c ∷ []) = []
rows_of (h ∷ t ∷ c ∷ p ∷ []) = []
rows_of (h ∷ t ∷ c ∷ p ∷ n ∷ ws) = row_of h t c p n ∷ rows_of ws

-- A slice with these lists stored in it from its beginning. Beyond them it is as it was.
unfoldable pub laid : List Row → List ℕ → List ℕ
laid [] ws = ws
laid (r ∷ rs) ws = words_of r ++ laid rs (drop 5 ws)
