-- The two desks of the code, line after line (demand 3): slices that are lent at each call, and the batch desk.
use Rattle.std.specs.Prelude.{ℕ, ◌≡◌, List, [], ◌∷◌, replicate}
use Rattle.words.specs.Names.{unlinked_marker}
use Rattle.lines.specs.Lines.{line_of}
use Rattle.desk.specs.Step.{Desk, DeskStepped, desk_stepped, fresh_row}
use Rattle.rows.specs.Rows.{rows_of}
use Rattle.lent_desk.specs.Lent.{Lent, lent, desk_of, lent_step}
use Rattle.batch_desk.specs.Step.{no_marks, batch_step}
use Rattle.history.specs.Runs.{MarkedLine}

-- ---- lent slices

-- Fresh slices for n nodes and k lists: every word the unlinked marker; every list empty, with its cursor at null. Fewer than five
-- words more, and the marks, may be anything.
pub record FreshSlices (n k : ℕ) (s : Lent) : Type 0 where
  pub words : s.words ≡ replicate n unlinked_marker
  pub lists : rows_of s.lists ≡ replicate k fresh_row

-- The same words and lists, lent with other marks.
abbrev pub lent_with : Lent → List ℕ → Lent
lent_with s ms = lent s.words s.lists ms

-- The slices after these lines. Each line finds the words and the lists as the one before it left them.
unfoldable pub slices_after : Lent → List MarkedLine → Lent
slices_after s [] = s
slices_after s (g ∷ gs) = slices_after (lent_step (lent_with s g.marks) (line_of g.line)).lent gs

-- The desk that the slices hold after one line more, and the answer to it.
unfoldable pub held_after : Lent → MarkedLine → DeskStepped
held_after s v =
    let t = lent_step (lent_with s v.marks) (line_of v.line) in desk_stepped (desk_of t.lent) t.reply

-- ---- the batch desk

-- A line, with the marks that the batch desk has for it.
abbrev pub own_marks : List ℕ → MarkedLine
own_marks bs = record { line = bs; marks = no_marks }

-- The batch desk after these lines.
unfoldable pub batch_after : Desk → List (List ℕ) → Desk
batch_after d [] = d
batch_after d (g ∷ gs) = batch_after (batch_step d (line_of g)).desk gs
