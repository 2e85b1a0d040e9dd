-- Nodes pushed one after the other.
use Rattle.std.specs.Prelude.{ℕ, zero, suc, List}
use Rattle.words.specs.Pool.{Outcome, outcome}
use Rattle.answers.specs.Answer.{done}
use Rattle.ends.specs.declared.ListEdited.{ListEdited}
use Rattle.ends.specs.Ends.{empty_ends, list_edited}
use Rattle.list.specs.Lists.{push_back}

-- The nodes below n, each at the back, on a list that starts empty.
unfoldable pub pushed_all : ℕ → List ℕ → Outcome ListEdited
pushed_all zero ws = outcome ws (list_edited done empty_ends)
pushed_all (suc i) ws = let o = pushed_all i ws in push_back o.words o.result.ends (record { 0 = i })
