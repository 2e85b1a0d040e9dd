-- A run of the batch desk over bytes (document 01, 'Command lines'): one answer a line, in the order of the lines.
use Rattle.std.specs.Prelude.{ℕ, cond, List, [], ◌∷◌, ◌++◌, eqb}
use Rattle.desk.specs.Step.{DeskStepped}
use Rattle.lines.specs.declared.line.Line.{Line}
use Rattle.lines.specs.Lines.{fresh, fed, parsed}
use Rattle.lines.specs.declared.answer.Reply.{Reply}
use Rattle.stream.specs.Stream.{bytes_of, placed_at}
use Rattle.batch_desk.specs.Step.{batch_step}

-- How far a run has come: the lent bytes as they are then, the desk with its last answer, the line that is not ended yet, and
-- how many bytes of answers were written.
pub record Running : Type 0 where
  pub out : List ℕ
  pub kept : DeskStepped
  pub line : Line
  pub wrote : ℕ

abbrev pub running : List ℕ → DeskStepped → Line → ℕ → Running
running out d l w = record { out = out; kept = d; line = l; wrote = w }

-- A byte that is no line feed belongs to the line.
abbrev pub fed_to : Running → ℕ → Running
fed_to s b = running s.out s.kept (fed s.line b) s.wrote

-- A line that has ended is run and answered, and the next one is fresh.
unfoldable pub ended : Running → Running
ended s =
    let d = batch_step s.kept.desk (parsed s.line) in
    let p = placed_at s.out s.wrote d.reply in
    running p.out d fresh p.next

-- Bytes in turn.
unfoldable pub run_from : Running → List ℕ → Running
run_from s [] = s
run_from s (b ∷ bs) = run_from (cond (eqb b 10) (ended s) (fed_to s b)) bs

-- `run`: from a desk and a line that may be begun, with the answers from the front of out.
unfoldable pub run_of : DeskStepped → Line → List ℕ → List ℕ → Running
run_of d l input out = run_from (running out d l 0) input

-- `finish`: a line of one byte or more that is not ended counts.
unfoldable pub finish_of : DeskStepped → Line → List ℕ → ℕ → Running
finish_of d l out at =
    let s = running out d l at in cond (eqb l.count 0) s (ended s)

-- ---- a whole input

-- The bytes of answers in turn.
unfoldable pub bytes_of_all : List Reply → List ℕ
bytes_of_all [] = []
bytes_of_all (r ∷ rs) = bytes_of r ++ bytes_of_all rs

-- A run that is finished.
unfoldable pub finished : Running → Running
finished s = finish_of s.kept s.line s.out s.wrote
