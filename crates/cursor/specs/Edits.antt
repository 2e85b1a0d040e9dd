-- What the edits of one list at a cursor have in common (document 01, 'Edits').
use Rattle.std.specs.Prelude.{ℕ, List, Err}
use Rattle.words.specs.Pool.{Outcome, outcome}
use Rattle.ends.specs.declared.Ends.{Ends}
use Rattle.answers.specs.Answer.{Tested, if_refused}
use Rattle.cursor.specs.declared.Cursor.{Cursor}
use Rattle.cursor.specs.declared.Edited.{Edited}
use Rattle.cursor.specs.Cursor.{edited}

-- A refused call hands back what it was given; any other makes its edit.
abbrev pub unless_refused : Tested → List ℕ → Ends → Cursor → Outcome Edited → Outcome Edited
unless_refused t ws e c o = if_refused t (λ r. outcome ws (edited (Err r) e c)) o
