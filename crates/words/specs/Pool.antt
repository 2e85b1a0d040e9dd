-- A pool's words, read and stored by name, and what a call leaves behind (document 01, 'Words').
use Rattle.std.specs.Prelude.{ℕ, cond, List, length, get_or, set}
use Rattle.words.specs.Names.{is_name, node_of}

-- The word of the node that w names; 0 where w names no node of the pool: null, odd, or past the last.
unfoldable pub word_at : List ℕ → ℕ → ℕ
word_at ws w = cond (is_name (length ws) w) (get_or ws (node_of w) 0) 0

-- The pool with v as the word of the node that w names; the same pool where w names none.
unfoldable pub put_at : List ℕ → ℕ → ℕ → List ℕ
put_at ws w v = cond (is_name (length ws) w) (set ws (node_of w) v) ws

-- What a call leaves: the pool's words, and what it hands back. A contract says both in one equation.
pub record Outcome (A : Type 0) : Type 0 where
  pub words : List ℕ
  pub result : A

abbrev pub outcome : {A : Type 0} → List ℕ → A → Outcome A
outcome ws a = record { words = ws; result = a }
