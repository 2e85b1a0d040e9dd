-- `test_ends` meets its contract: what is left of the directory gives the whole. Assumes nothing.
use Rattle.std.proofs.Common.{◌≡◌, drop}
use Rattle.audit.specs.Audit.{lowest_unheld}
use Rattle.audit.proofs.test_ends.Given as goal

abbrev pub invariant-loop-list : goal.invariant-loop-list
invariant-loop-list g l =
    lowest_unheld l.words 0 (g.D.Directory.lists l.dir) ≡ lowest_unheld l.words l.list (drop l.list (g.D.Directory.lists l.dir))
