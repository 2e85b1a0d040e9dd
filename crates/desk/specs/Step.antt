-- One step of a desk (document 01, 'Command lines'), of any number of nodes and of lists. Marks are lent for the commands
-- that follow a chain.
use Rattle.std.specs.Prelude.{ℕ, Bool, ◌&&◌, cond, List, map, ltb, leb, eqb, length, get_or, set, replicate, Option, Some, None}
use Rattle.words.specs.Names.{directory_fits, unlinked_marker}
use Rattle.words.specs.Pool.{Outcome, outcome}
use Rattle.answers.specs.declared.Refusal.{Refusal}
use Rattle.answers.specs.declared.Refusal.TheVariants.{Size, NoSuchList, Malformed}
use Rattle.ends.specs.declared.Ends.{Ends}
use Rattle.ends.specs.Ends.{empty_ends}
use Rattle.cursor.specs.Cursor.{null_cursor}
use Rattle.walk.specs.Marks.{Marking, marking}
use Rattle.audit.specs.Audit.{audit_all}
use Rattle.lines.specs.declared.line.Order.{Order}
use Rattle.lines.specs.Lines.{tested}
use Rattle.lines.specs.declared.answer.Reply.{Reply}
use Rattle.desk.specs.declared.Row.{Row}
use Rattle.desk.specs.declared.Worked.{Worked}
use Rattle.desk.specs.Work.{row, on_rows, clearing}
use Rattle.desk.specs.Reply.{reply_to, reply_to_audit, reply_unread}

-- A desk: the words of its nodes, and its lists in order, each with its ends and the cursor that is kept.
pub record Desk : Type 0 where
  pub words : List ℕ
  pub lists : List Row

-- What a line leaves: the desk, and the answer.
pub record DeskStepped : Type 0 where
  pub desk : Desk
  pub reply : Reply

abbrev pub desk_stepped : Desk → Reply → DeskStepped
desk_stepped d a = record { desk = d; reply = a }

-- An empty list, its cursor at null.
abbrev pub fresh_row : Row
fresh_row = row empty_ends (null_cursor empty_ends)

-- A fresh desk of n nodes and k lists: every node unlinked, every list empty, every cursor null.
unfoldable pub fresh_desk : ℕ → ℕ → Desk
fresh_desk n k = record { words = replicate n unlinked_marker; lists = replicate k fresh_row }

-- List l of a desk.
abbrev pub row_at : Desk → ℕ → Row
row_at d l = get_or d.lists l fresh_row

-- The desk with another list l, and with other words.
abbrev pub put_row : Desk → ℕ → Row → Desk
put_row d l r = record { words = d.words; lists = set d.lists l r }

abbrev pub put_words : Desk → List ℕ → Desk
put_words d ws = record { words = ws; lists = d.lists }

-- The ends of all lists, which is what an audit takes.
abbrev pub ends_of_all : List Row → List Ends
ends_of_all rs = map (λ r. r.ends) rs

-- The most nodes that a desk may have, however many a pool may (document 02, T-01). No other definition says so.
unfoldable pub desk_limit : ℕ
desk_limit = 4096

-- 1: nodes and lists are within their limits, and there is one mark a node.
unfoldable pub desk_fits : Desk → List ℕ → Bool
desk_fits d ms =
    leb (length d.words) desk_limit && eqb (length ms) (length d.words) && directory_fits (length d.lists)

-- 2: there are such lists. A field that is not used is zero, and there is a list 0 if there is any.
unfoldable pub lists_there : Desk → Order → Bool
lists_there d o = ltb o.list (length d.lists) && ltb o.other (length d.lists)

-- A command on lists, once 11, 1 and 2 are tested: clear, or one that follows no chain.
unfoldable pub command : List ℕ → List ℕ → Row → Row → Order → Outcome (Marking Worked)
command ws ms r q o =
    let w = on_rows ws r q o in cond (eqb o.code 13) (clearing ws ms r q) (outcome w.words (marking ms w.result))

-- What a command comes to goes back to the desk: the words, the other list, then the named one; and it is answered.
unfoldable pub put_back : Desk → Order → Outcome (Marking Worked) → Marking DeskStepped
put_back d o w =
    let r = w.result.result in
    let d1 = put_row (put_row (put_words d w.words) o.other r.other) o.list r.named in
    marking w.result.marks (desk_stepped d1 (reply_to (length d.words) r))

-- An audit changes no list.
unfoldable pub audited : Desk → List ℕ → Marking DeskStepped
audited d ms =
    let a = audit_all d.words (ends_of_all d.lists) ms in marking a.marks (desk_stepped d (reply_to_audit a.result))

-- A line that comes to no command on a list changes nothing.
unfoldable pub unread : Desk → List ℕ → Refusal → Marking DeskStepped
unread d ms r = marking ms (desk_stepped d (reply_unread r))

-- A line that was tested for 11: 1, the audit, 2, and then the command.
abbrev pub step_tested : Desk → List ℕ → Option Order → Marking DeskStepped
step_tested d ms None = unread d ms Malformed
step_tested d ms (Some o) =
    let done = put_back d o (command d.words ms (row_at d o.list) (row_at d o.other) o) in
    cond (desk_fits d ms)
    (cond (eqb o.code 20) (audited d ms) (cond (lists_there d o) done (unread d ms NoSuchList)))
    (unread d ms Size)

-- One line, whoever hands it in: 11 is tested first.
abbrev pub step : Desk → List ℕ → Option Order → Marking DeskStepped
step d ms p = step_tested d ms (tested p)
