-- The lines of an input (document 01, 'Command lines'): each ends with a line feed, which is no part of it, and an unended last
-- line of one byte or more counts.
use Rattle.std.specs.Prelude.{ℕ, cond, List, [], ◌∷◌, ◌++◌, eqb, length}

-- The lines of the rest of an input, where xs are the bytes of the line so far.
unfoldable pub lines_from : List ℕ → List ℕ → List (List ℕ)
lines_from xs [] = cond (eqb (length xs) 0) [] (xs ∷ [])
lines_from xs (b ∷ bs) = cond (eqb b 10) (xs ∷ lines_from [] bs) (lines_from (xs ++ b ∷ []) bs)

unfoldable pub lines_of : List ℕ → List (List ℕ)
lines_of bs = lines_from [] bs
