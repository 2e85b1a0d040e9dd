-- `walk_lists` meets its contract: what is left of the directory gives the whole. Assumes nothing.
use Rattle.std.proofs.Common.{◌≡◌, drop}
use Rattle.audit.specs.Audit.{walks_of}
use Rattle.audit.proofs.walk_lists.Given as goal

abbrev pub invariant-loop-list : goal.invariant-loop-list
invariant-loop-list g l =
    walks_of l.words 0 (g.D.Directory.lists l.dir) l.initial.marks ≡ walks_of l.words l.list (drop l.list (g.D.Directory.lists l.dir)) l.marks
