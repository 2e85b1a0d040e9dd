-- The steps that the batch desk's code is made of. The desk itself is in Step; a law says that the steps come to it.
use Rattle.std.specs.Prelude.{ℕ, List, Option}
use Rattle.words.specs.Pool.{Outcome, outcome}
use Rattle.walk.specs.Marks.{Marking}
use Rattle.lines.specs.declared.line.Order.{Order}
use Rattle.desk.specs.declared.Row.{Row}
use Rattle.desk.specs.declared.Worked.{Worked}
use Rattle.desk.specs.Step.{Desk, DeskStepped, step_tested}
use Rattle.batch_desk.specs.Step.{no_marks}

-- What a command leaves, without the marks.
abbrev pub unmarking : Outcome (Marking Worked) → Outcome Worked
unmarking o = outcome o.words o.result.result

-- The desk of these words and these lists.
abbrev pub desk_on : List ℕ → List Row → Desk
desk_on ws rs = record { words = ws; lists = rs }

-- A line that was tested for 11.
unfoldable pub batch_tested : Desk → Option Order → DeskStepped
batch_tested d p = (step_tested d no_marks p).result
