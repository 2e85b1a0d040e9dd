-- `step` meets its contract. Assumes nothing.
use Rattle.lent_desk.proofs.Laws.Steps.{malformed, tested-first}
use Rattle.lent_desk.proofs.step.Goals as goal

pub returns-in_default : goal.returns-in_default
returns-in_default c = tested-first _ _ _ _ _ c.tested.ensures c.in_default.is (malformed _ _ c.unread.ensures)

pub returns : goal.returns
returns c =
    tested-first _ _ _ _ _ c.tested.ensures c.in-Some.is c.step_order.ensures
