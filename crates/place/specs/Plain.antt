-- The real neighbours of a node of a sequence (document 01, 'Edits'): what a claim has to name to be true. No word is in them.
use Rattle.std.specs.Prelude.{ℕ, List, [], ◌∷◌, reverse, Option, Some, None}
use Rattle.words.specs.declared.names.Node.{Node}

-- The first of the nodes beyond it, none past the last.
abbrev pub next_node : List ℕ → Option Node
next_node [] = None
next_node (y ∷ R) = Some (record { 0 = y })

-- The last of the nodes ahead of it, none before the first.
abbrev pub prev_node : List ℕ → Option Node
prev_node L = next_node (reverse L)
