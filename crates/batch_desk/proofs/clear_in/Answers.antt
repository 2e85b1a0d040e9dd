-- `clear_in` meets its contract. Assumes nothing.
use Rattle.batch_desk.specs.Steps.{unmarking}
use Rattle.batch_desk.specs.Step.{no_marks}
use mathlib.Core.Path.{ap}
use borrow.Author.Rules.{rules}
use Rattle.batch_desk.proofs.clear_in.Goals as goal

pub returns : goal.returns
unfolding no_marks
returns c = ap unmarking c.clear.ensures
