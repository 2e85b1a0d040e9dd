-- `count_nodes` meets its contract: the nodes passed are counted. Assumes nothing.
use Rattle.std.proofs.Common.{length}
use Rattle.audit.proofs.Laws.Tally.{Counts}
use Rattle.audit.proofs.count.count_nodes.Given as goal

abbrev pub invariant-loop-word : goal.invariant-loop-word
invariant-loop-word l = Counts l.words l.marks (length l.yielded) l.on_lists l.stranded
