-- `count_lists` meets its contract: where the sizes fit, the lists are few enough for the passes. Assumes nothing.
use Rattle.std.proofs.Common.{sym, ◌∙◌}
use Rattle.audit.proofs.Laws.Passes.{few}
use Rattle.audit.proofs.count_lists.Goals as goal

pub test_ends-requires : goal.test_ends-requires
test_ends-requires g c = few _ _ _ (sym c.fits.ensures ∙ c.if-not-fits.false)

pub walk_lists-requires : goal.walk_lists-requires
walk_lists-requires g c = few _ _ _ (sym c.fits.ensures ∙ c.if-not-fits.false)
