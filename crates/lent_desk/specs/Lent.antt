-- The lent desk (document 01, 'Words' and 'Command lines'): a pool of any length, and a list directory with a cursor for each
-- list, in slices that the caller lends. One line on it is the desk's step on the lists that are there.
use Rattle.std.specs.Prelude.{ℕ, List, Option}
use Rattle.walk.specs.Marks.{Marking}
use Rattle.lines.specs.declared.line.Order.{Order}
use Rattle.lines.specs.declared.answer.Reply.{Reply}
use Rattle.desk.specs.Step.{Desk, DeskStepped, step}
use Rattle.rows.specs.Rows.{rows_of, laid}

-- All that is lent: a word a node, five words a list, a mark a node.
pub record Lent : Type 0 where
  pub words : List ℕ
  pub lists : List ℕ
  pub marks : List ℕ

abbrev pub lent : List ℕ → List ℕ → List ℕ → Lent
lent ws ls ms = record { words = ws; lists = ls; marks = ms }

-- What a line leaves: all that is lent, and the answer.
pub record LentStepped : Type 0 where
  pub lent : Lent
  pub reply : Reply

abbrev pub lent_stepped : Lent → Reply → LentStepped
lent_stepped s a = record { lent = s; reply = a }

-- The desk that is lent: its lists are those that are there.
unfoldable pub desk_of : Lent → Desk
desk_of s = record { words = s.words; lists = rows_of s.lists }

-- What a step of the desk leaves of all that is lent, and its answer. The lists go back to their places in the slice.
unfoldable pub left_by : Lent → Marking DeskStepped → LentStepped
left_by s m =
    let d = m.result.desk in lent_stepped (lent d.words (laid d.lists s.lists) m.marks) m.result.reply

-- One line on the lent desk.
unfoldable pub lent_step : Lent → Option Order → LentStepped
lent_step s p = left_by s (step (desk_of s) s.marks p)
