-- `test_ends` meets its contract: what is left of the directory gives the whole. Assumes nothing.
use Rattle.std.proofs.Common.{sym, ◌∙◌, arith}
use Rattle.audit.proofs.Laws.Passes.{test-next, test-stop, test-done}
use Rattle.audit.proofs.test_ends.Goals as goal

pub loop-list-preserved : goal.loop-list-preserved
loop-list-preserved g c = c.loop-list.invariant ∙ test-next _ _ _ _ c.ends_at.ensures (omega arith) (sym c.ends_hold.ensures ∙ c.if-not-ends_hold.false)

pub returns-then-not-ends_hold : goal.returns-then-not-ends_hold
returns-then-not-ends_hold g c = rw (c.loop-list.invariant ∙ test-stop _ _ _ _ c.ends_at.ensures (omega arith) (sym c.ends_hold.ensures ∙ c.if-not-ends_hold.true))

pub returns : goal.returns
returns g c = rw (c.loop-list.invariant ∙ test-done _ _ _ (omega arith))
