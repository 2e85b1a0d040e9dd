-- Bytes that come in pieces (document 01, 'Command lines'): where an input is cut shows neither in the desk nor in the answers.
use Rattle.std.specs.Prelude.{ℕ, ◌≤◌, ◌≡◌, List, ◌++◌, map, length}
use Rattle.lines.specs.declared.line.Line.{Line}
use Rattle.lines.specs.declared.answer.Reply.{Reply}
use Rattle.lines.specs.Lines.{line_of, fresh}
use Rattle.lines.specs.Inputs.{lines_of}
use Rattle.desk.specs.Step.{DeskStepped, desk_stepped, fresh_desk}
use Rattle.history.specs.History.{start}
use Rattle.history.specs.Runs.{plain_answers}
use Rattle.batch_desk.specs.Run.{run_of, finished, bytes_of_all}
use Rattle.batch_desk.specs.Pieces.{Room, written, Piece, whole_of, AllRoom, left_by, in_pieces, answers_in}
use Rattle.promises.specs.Desks.{batch_after}

pub record InPieces : Type 0 where
  -- two runs, each with room for its answers, the second from the desk and the line that the first left
  pub two : (d : DeskStepped) (l : Line) (xs ys out out1 out2 : List ℕ) → Room xs out1 → Room ys out2 → Room (xs ++ ys) out
      → (let a = run_of d l xs out1 in
      let b = run_of a.kept a.line ys out2 in
      let c = run_of d l (xs ++ ys) out in
      (b.kept ≡ c.kept) × (b.line ≡ c.line) × (written a ++ written b ≡ written c))
  -- any pieces
  pub many : (d : DeskStepped) (l : Line) (ps : List Piece) → AllRoom ps → (out : List ℕ) → Room (whole_of ps) out
      → in_pieces d l ps ≡ left_by (run_of d l (whole_of ps) out)
  -- a run to the end of the input leaves the desk that its lines leave
  pub desk : (d : DeskStepped) (bs out : List ℕ) → (finished (run_of d fresh bs out)).kept.desk ≡ batch_after d.desk (lines_of bs)
  -- from a fresh desk to the end of the input, in pieces: the answers are the history's, to the lines of the whole
  pub answers : (r : Reply) (ps : List Piece) → AllRoom ps → (last : List ℕ) → 11 ≤ length last
      → answers_in (desk_stepped (fresh_desk 1024 8) r) ps last ≡ bytes_of_all (plain_answers 1024 (start 8) (map line_of (lines_of (whole_of ps))))
