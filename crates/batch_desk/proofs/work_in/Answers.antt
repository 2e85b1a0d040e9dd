-- `work_in` meets its contract. Assumes nothing.
use mathlib.Core.Path.{ap, ◌∙◌}
use borrow.Author.Rules.{rules}
use borrow.Author.Tests.{eq-eqb}
use Rattle.desk.specs.Step.{command}
use Rattle.batch_desk.specs.Steps.{unmarking}
use Rattle.batch_desk.proofs.Laws.Step.{unread-marks}
use Rattle.batch_desk.proofs.work_in.Goals as goal

pub returns-then-order-eq-CLEAR : goal.returns-then-order-eq-CLEAR
unfolding command
returns-then-order-eq-CLEAR c = rw (eq-eqb _ _ c.if-order-eq-CLEAR.true) c.clear_in.ensures

pub returns : goal.returns
returns c = ap unmarking c.command.ensures ∙ unread-marks _ _ _ _ _ c.if-order-eq-CLEAR.false
