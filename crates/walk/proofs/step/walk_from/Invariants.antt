-- `walk_from` meets its contract. After each turn the walk from the head is the walk from here, over the nodes that are left. Assumes nothing.
use lib.Bits.{bit_xor}
use Rattle.walk.specs.Walk.{at_tail}
use Rattle.walk.proofs.Laws.Loop.{Walks}
use Rattle.walk.proofs.step.walk_from.Given as goal

abbrev pub invariant-loop-count : goal.invariant-loop-count
invariant-loop-count l = Walks bit_xor (at_tail l.ends.tail.0) l.words l.initial.marks l.mark l.initial.at.0 l.marks l.at.0 l.prev.0 l.count
