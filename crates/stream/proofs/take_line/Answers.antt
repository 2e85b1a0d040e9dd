-- `take_line` meets its contract. Assumes nothing.
use native.Mathlib.Omega.{arith}
use Rattle.stream.proofs.Laws.Take.{at-whole}
use Rattle.stream.proofs.take_line.Goals as goal

pub returns-then-line-eq10 : goal.returns-then-line-eq10
returns-then-line-eq10 c =
    let s = c.before in
    at-whole s.args.before s.args.input.now s.args.at (omega arith) c.if-input-end-eq10.true _ c.feed_all-line.ensures c.if-line-eq10.true
