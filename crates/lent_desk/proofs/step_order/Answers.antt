-- `step_order` meets its contract. Assumes nothing.
use Rattle.std.proofs.Common.{ap, not}
use Rattle.lent_desk.proofs.Laws.Steps.{few-lists, too-big, audit-left, no-list, command-left}
use Rattle.lent_desk.specs.Lent.{lent}
use Rattle.lent_desk.proofs.step_order.Goals as goal

pub returns-then-not-sizes_fit : goal.returns-then-not-sizes_fit
returns-then-not-sizes_fit c = too-big _ _ _ c.row_count-k.ensures _ c.sizes_fit.ensures (ap not c.if-not-sizes_fit.true) _ c.unread.ensures

pub audit_lists-requires : goal.audit_lists-requires
audit_lists-requires c = few-lists (lent c.args.words.now c.args.lists.now c.args.marks.now) c.args.order _ c.row_count-k.ensures _ c.sizes_fit.ensures (ap not c.if-not-sizes_fit.false)

pub returns-then-order-eq-AUDIT : goal.returns-then-order-eq-AUDIT
returns-then-order-eq-AUDIT c = audit-left _ _ _ c.row_count-k.ensures _ c.sizes_fit.ensures (ap not c.if-not-sizes_fit.false) c.if-order-eq-AUDIT.true _ _ c.audit_lists.ensures

pub returns-then-k-order : goal.returns-then-k-order
returns-then-k-order c = no-list _ _ _ c.row_count-k.ensures _ c.sizes_fit.ensures (ap not c.if-not-sizes_fit.false) c.if-order-eq-AUDIT.false c.if-k-order.true _ c.unread-then-k-order.ensures

pub returns : goal.returns
returns c = command-left _ _ _ c.row_count-k.ensures _ c.sizes_fit.ensures (ap not c.if-not-sizes_fit.false) c.if-order-eq-AUDIT.false c.if-k-order.false _ c.step_command.ensures
