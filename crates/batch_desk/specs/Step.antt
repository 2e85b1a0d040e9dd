-- The batch desk of 1,024 words and eight lists (document 01, 'Command lines'): the desk that it holds, and one line on it,
-- which is the desk's step over marks of its own.
use Rattle.std.specs.Prelude.{ℕ, List, replicate, Option}
use Rattle.lines.specs.declared.line.Order.{Order}
use Rattle.desk.specs.Step.{Desk, DeskStepped, desk_stepped, step}
use Rattle.batch_desk.specs.declared.BatchDesk.{BatchDesk}

abbrev pub desk_of : BatchDesk → Desk
desk_of b = record { words = b.words; lists = b.rows }

-- The desk, with its answer to the line before.
abbrev pub kept_of : BatchDesk → DeskStepped
kept_of b = desk_stepped (desk_of b) b.reply

-- Marks for 1,024 nodes, of which none is set.
unfoldable pub no_marks : List ℕ
no_marks = replicate 1024 0

-- What a line leaves of the desk, and its answer.
unfoldable pub batch_step : Desk → Option Order → DeskStepped
batch_step d p = (step d no_marks p).result
