-- `step` meets its contract. Assumes nothing.
use Rattle.batch_desk.specs.Step.{desk_of}
use Rattle.batch_desk.proofs.Laws.Step.{tested-first}
use Rattle.batch_desk.proofs.step.Goals as goal

pub returns : goal.returns
returns c = tested-first (desk_of c.args.desk) c.args.line _ _ c.tested.ensures c.step_rows-desk.ensures
