-- `step_rows` meets its contract. Assumes nothing.
use Rattle.batch_desk.specs.Steps.{desk_on}
use Rattle.batch_desk.proofs.Laws.Step.{at-malformed, at-audit, at-no-list, at-command}
use Rattle.batch_desk.proofs.step_rows.Goals as goal

pub returns-in_default : goal.returns-in_default
returns-in_default c =
    at-malformed (desk_on c.args.words.now c.args.rows.now) c.told-words c.told-rows _ c.in_default.is _ c.unread.ensures

pub returns-then-order-eq-AUDIT : goal.returns-then-order-eq-AUDIT
returns-then-order-eq-AUDIT c =
    at-audit (desk_on c.args.words.now c.args.rows.now) c.told-words c.told-rows _ _ c.in-Some.is c.if-order-eq-AUDIT.true _ c.audit_in.ensures

pub returns-then-l-m : goal.returns-then-l-m
returns-then-l-m c =
    at-no-list (desk_on c.args.words.now c.args.rows.now) c.told-words c.told-rows _ _ c.in-Some.is c.if-order-eq-AUDIT.false c.if-l-m.true _ c.unread-then-l-m.ensures

pub returns : goal.returns
returns c =
    at-command (desk_on c.args.words.now c.args.rows.now) c.told-words c.told-rows _ _ c.in-Some.is c.if-order-eq-AUDIT.false c.if-l-m.false _ _ _ c.work_in-w.ensures c.to_work.ensures
