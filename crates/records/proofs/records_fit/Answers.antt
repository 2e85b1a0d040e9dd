-- `records_fit` meets its contract: the product fits a word. Assumes nothing.
use Rattle.std.proofs.Common.{sym, ◌∙◌, arith, leb, leb-true}
use Rattle.words.proofs.Laws.Cases.{both}
use Rattle.records.proofs.Laws.Read.{small-pool}
use Rattle.records.proofs.records_fit.Goals as goal

pub overflow_mul-result : goal.overflow_mul-result
overflow_mul-result c =
    let a = both c.pool_fits.result (leb c.args.width 256) c.if-pool_fits-width.true in
    omega (arith, small-pool _ _ (sym c.pool_fits.ensures ∙ a.0) (leb-true _ _ a.1))
