-- Pieces of an input and of its answers (document 01, 'Command lines').
use Rattle.std.specs.Prelude.{ℕ, ◌+◌, Bool, true, false, cond, List, [], ◌∷◌, ◌++◌, leb, eqb, length, take, drop}
use Rattle.lines.specs.declared.line.Line.{Line}
use Rattle.lines.specs.Lines.{fed}
use Rattle.lines.specs.Answers.{answer_line}
use Rattle.lines.specs.declared.answer.Reply.{Reply}
use Rattle.stream.specs.declared.Took.{Took}

-- ---- an answer

-- The eleven bytes of an answer.
abbrev pub bytes_of : Reply → List ℕ
bytes_of r = answer_line r.number r.first r.second

-- What a call that writes to lent bytes leaves of them, and the place after what it wrote.
pub record Placing : Type 0 where
  pub out : List ℕ
  pub next : ℕ

abbrev pub placing : List ℕ → ℕ → Placing
placing out n = record { out = out; next = n }

-- An answer at a place, if there is room for its eleven bytes; else nothing is written.
unfoldable pub placed_at : List ℕ → ℕ → Reply → Placing
placed_at out at r =
    cond (leb (at + 11) (length out))
    (placing (take at out ++ (bytes_of r ++ drop (at + 11) out)) (at + 11))
    (placing out at)

-- ---- the rest of a line

abbrev pub took : Line → ℕ → Bool → Took
took l i e = record { line = l; next = i; ended = e }

-- The rest of a line, from place i.
unfoldable pub take_from : Line → ℕ → List ℕ → Took
take_from l i [] = took l i false
take_from l i (b ∷ bs) = cond (eqb b 10) (took l (i + 1) true) (take_from (fed l b) (i + 1) bs)
