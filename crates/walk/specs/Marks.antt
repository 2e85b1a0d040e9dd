-- Marks: one byte a node, 0 for none (document 01, 'Walk and audit').
-- Here and in all that follows ms are marks and m is a mark; xs, ys and met are nodes.
use Rattle.std.specs.Prelude.{ℕ, Bool, false, ◌&&◌, ◌||◌, not, List, [], ◌∷◌, eqb, length, get_or, set, replicate}
use Rattle.words.specs.Names.{pool_fits}

-- x is one of the nodes.
abbrev pub elem : ℕ → List ℕ → Bool
elem x [] = false
elem x (y ∷ ys) = eqb x y || elem x ys

-- Node x has a mark.
unfoldable pub is_marked : List ℕ → ℕ → Bool
is_marked ms x = not (eqb (get_or ms x 0) 0)

-- The same numbers, but v at each of the nodes.
unfoldable pub paint : List ℕ → ℕ → List ℕ → List ℕ
paint ns v [] = ns
paint ns v (x ∷ xs) = set (paint ns v xs) x v

-- Marks of which none is set.
abbrev pub unmarked : List ℕ → List ℕ
unmarked ms = replicate (length ms) 0

-- The pool is within the limit, and there is one mark a node.
unfoldable pub sizes_fit : List ℕ → List ℕ → Bool
sizes_fit ws ms = pool_fits (length ws) && eqb (length ms) (length ws)

-- What a call with lent marks leaves: the marks, and what it hands back. A contract says both in one equation.
pub record Marking (A : Type 0) : Type 0 where
  pub marks : List ℕ
  pub result : A

abbrev pub marking : {A : Type 0} → List ℕ → A → Marking A
marking ms a = record { marks = ms; result = a }
