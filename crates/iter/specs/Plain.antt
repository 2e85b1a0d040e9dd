-- What iterating stands for: a plain sequence that nodes are taken from at both ends (demand 2). No word is in it.
use Rattle.std.specs.Prelude.{ℕ, Bool, true, false, List, [], ◌∷◌, reverse, Some, Ok}
use Rattle.answers.specs.Answer.{Answer, done}
use Rattle.iter.specs.declared.Iter.{Iter}
use Rattle.iter.specs.Iter.{next, next_back}

-- The node taken from the front, nothing if there is none, and what is left.
abbrev pub first : List ℕ → Answer
first [] = done
first (x ∷ xs) = Ok (Some (record { 0 = x }))

abbrev pub rest : List ℕ → List ℕ
rest [] = []
rest (x ∷ xs) = xs

-- The answers to any mix of steps, `true` from the front and `false` from the back, of a sequence.
abbrev pub plain_run : List Bool → List ℕ → List Answer
plain_run [] xs = []
plain_run (true ∷ bs) xs = first xs ∷ plain_run bs (rest xs)
plain_run (false ∷ bs) xs = first (reverse xs) ∷ plain_run bs (reverse (rest (reverse xs)))

-- The answers of the iterator to the same steps.
abbrev pub iter_run : List ℕ → List Bool → Iter → List Answer
iter_run ws [] it = []
iter_run ws (true ∷ bs) it = (next ws it).answer ∷ iter_run ws bs (next ws it).iter
iter_run ws (false ∷ bs) it = (next_back ws it).answer ∷ iter_run ws bs (next_back ws it).iter

-- As many steps as there are nodes, all from the one side; and all the nodes handed out in order.
abbrev pub steps : Bool → List ℕ → List Bool
steps b [] = []
steps b (x ∷ xs) = b ∷ steps b xs

abbrev pub handed_all : List ℕ → List Answer
handed_all [] = []
handed_all (x ∷ xs) = Ok (Some (record { 0 = x })) ∷ handed_all xs
