-- `walk_lists` meets its contract: what is left of the directory gives the whole. Assumes nothing.
use Rattle.std.proofs.Common.{◌∙◌, arith}
use borrow.Author.Tests.{not-true, not-false}
use Rattle.audit.proofs.Laws.Passes.{walk-next, walk-stop, walk-done}
use Rattle.audit.proofs.walk_lists.Goals as goal

pub loop-list-preserved : goal.loop-list-preserved
loop-list-preserved g c = c.loop-list.invariant ∙ walk-next _ _ _ _ c.ends_at.ensures (omega arith) _ _ _ c.walk_list.ensures (not-false _ c.if-not-walk_list.false)

pub returns-then-not-walk_list : goal.returns-then-not-walk_list
returns-then-not-walk_list g c =
    rw (c.loop-list.invariant ∙ walk-stop _ _ _ _ c.ends_at.ensures (omega arith) _ _ _ c.walk_list.ensures (not-true _ c.if-not-walk_list.true), c.zero_marks.ensures)

pub returns : goal.returns
returns g c = rw (c.loop-list.invariant ∙ walk-done _ _ _ (omega arith) _)
