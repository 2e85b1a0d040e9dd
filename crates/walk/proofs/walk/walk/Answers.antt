-- `walk` meets its contract. Assumes nothing.
use mathlib.Core.Path.{sym, ◌∙◌}
use Rattle.walk.specs.Marks.{sizes_fit}
use Rattle.walk.proofs.Laws.Calls.{walk-size, walk_ends, step-done, step-fault}
use Rattle.walk.proofs.walk.walk.Goals as goal

pub returns-then-not-pool_fits-marks : goal.returns-then-not-pool_fits-marks
unfolding sizes_fit
returns-then-not-pool_fits-marks c = sym (walk-size _ _ _ (rw (← c.pool_fits.ensures) (c.if-not-pool_fits-marks.true)))

pub returns-then-not-ends_hold : goal.returns-then-not-ends_hold
unfolding sizes_fit
returns-then-not-ends_hold c = sym (walk_ends _ _ _ (rw (← c.pool_fits.ensures) (c.if-not-pool_fits-marks.false)) (sym c.ends_hold.ensures ∙ c.if-not-ends_hold.true))

pub returns-then-stood : goal.returns-then-stood
unfolding sizes_fit
returns-then-stood c = step-done _ _ _ (rw (← c.pool_fits.ensures) (c.if-not-pool_fits-marks.false)) (sym c.ends_hold.ensures ∙ c.if-not-ends_hold.false) _ _ _ c.zero_marks.ensures c.walk_list-stood.ensures c.if-stood.true

pub returns : goal.returns
unfolding sizes_fit
returns c =
    rw c.zero_marks-2.ensures
    (step-fault _ _ _ (rw (← c.pool_fits.ensures) (c.if-not-pool_fits-marks.false)) (sym c.ends_hold.ensures ∙ c.if-not-ends_hold.false) _ _ _ c.zero_marks.ensures c.walk_list-stood.ensures c.if-stood.false)
