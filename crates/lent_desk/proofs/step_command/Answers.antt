-- `step_command` meets its contract. Assumes nothing.
use Rattle.lent_desk.proofs.Laws.Steps.{command-stored}
use Rattle.lent_desk.proofs.step_command.Goals as goal

pub returns : goal.returns
returns c = command-stored _ _ _ _ c.row_at-named.ensures c.row_at-other.ensures _ _ _ c.command-w.ensures _ _ c.put_row.ensures c.put_row-2.ensures _ c.to_work.ensures
