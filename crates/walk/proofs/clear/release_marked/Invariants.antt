-- `release_marked` meets its contract: the nodes passed are done, the others as they were. Assumes nothing.
use Rattle.walk.proofs.Laws.Passes.{Passing}
use Rattle.walk.proofs.clear.release_marked.Given as goal

abbrev pub invariant-loop-i : goal.invariant-loop-i
invariant-loop-i l = Passing l.initial.words l.marks l.words l.i
