-- The steps that the lent desk's private functions are. The desk itself is in Lent; laws say that the steps come to it.
use Rattle.std.specs.Prelude.{ℕ, List, Option}
use Rattle.walk.specs.Marks.{Marking, marking}
use Rattle.audit.specs.Audit.{audit_all}
use Rattle.lines.specs.declared.line.Order.{Order}
use Rattle.lines.specs.declared.answer.Reply.{Reply}
use Rattle.desk.specs.declared.Row.{Row}
use Rattle.desk.specs.Reply.{reply_to_audit}
use Rattle.desk.specs.Step.{row_at, ends_of_all, command, put_back, step_tested}
use Rattle.lent_desk.specs.Lent.{Lent, LentStepped, desk_of, left_by}

-- The answer to an audit of these lists, and its marks.
unfoldable pub audit_reply : List ℕ → List Row → List ℕ → Marking Reply
audit_reply ws rs ms = let a = audit_all ws (ends_of_all rs) ms in marking a.marks (reply_to_audit a.result)

-- A command on lists, once 11, 1 and 2 are tested.
unfoldable pub command_step : Lent → Order → LentStepped
command_step s o =
    let d = desk_of s in
    left_by s (put_back d o (command s.words s.marks (row_at d o.list) (row_at d o.other) o))

-- A line that was tested for 11.
unfoldable pub lent_tested : Lent → Option Order → LentStepped
lent_tested s p = left_by s (step_tested (desk_of s) s.marks p)
