-- An input that comes in pieces (document 01, 'Command lines'): one run for each piece, from the desk and the unended line that
-- the run before it left.
use Rattle.std.specs.Prelude.{ℕ, ◌+◌, ◌*◌, ◌≤◌, cond, List, [], ◌∷◌, ◌++◌, eqb, length, take}
use Rattle.desk.specs.Step.{DeskStepped}
use Rattle.lines.specs.declared.line.Line.{Line}
use Rattle.lines.specs.Lines.{fresh}
use Rattle.batch_desk.specs.Run.{Running, run_of, finish_of}

-- How many lines end in these bytes.
unfoldable pub feeds : List ℕ → ℕ
feeds [] = 0
feeds (b ∷ bs) = cond (eqb b 10) (1 + feeds bs) (feeds bs)

-- There is room for the answers to these bytes: eleven bytes for each line that ends.
abbrev pub Room : List ℕ → List ℕ → Type 0
Room bs out = 11 * feeds bs ≤ length out

-- The bytes of answers that a run wrote.
abbrev pub written : Running → List ℕ
written s = take s.wrote s.out

-- A piece of an input, and the bytes that are lent for its answers.
pub record Piece : Type 0 where
  pub bytes : List ℕ
  pub out : List ℕ

-- The input that the pieces make, and room for each.
unfoldable pub whole_of : List Piece → List ℕ
whole_of [] = []
whole_of (p ∷ ps) = p.bytes ++ whole_of ps

abbrev pub AllRoom : List Piece → Type 0
AllRoom [] = Unit
AllRoom (p ∷ ps) = Room p.bytes p.out × AllRoom ps

-- What runs leave: the desk with its last answer, the line that is not ended yet, and all bytes of answers in turn.
pub record Left : Type 0 where
  pub kept : DeskStepped
  pub line : Line
  pub answers : List ℕ

abbrev pub left_by : Running → Left
left_by s = record { kept = s.kept; line = s.line; answers = written s }

-- A run for each piece.
unfoldable pub in_pieces : DeskStepped → Line → List Piece → Left
in_pieces d l [] = record { kept = d; line = l; answers = [] }
in_pieces d l (p ∷ ps) =
    let a = run_of d l p.bytes p.out in
    let r = in_pieces a.kept a.line ps in record { kept = r.kept; line = r.line; answers = written a ++ r.answers }

-- The answers to a whole input: a run for each piece, and at its end the line that is not ended, answered in bytes of its own.
unfoldable pub answers_in : DeskStepped → List Piece → List ℕ → List ℕ
answers_in d ps last =
    let r = in_pieces d fresh ps in r.answers ++ written (finish_of r.kept r.line last 0)
