-- The C entry (document 01, 'Command lines'; refusal 12): the history's answers to the lines of an input.
use Rattle.std.specs.Prelude.{ℕ, ◌*◌, List, ◌++◌, map, leb, length, drop}
use Rattle.answers.specs.declared.Refusal.TheVariants.{NoRoom}
use Rattle.answers.specs.Answer.{Tested, passed, need, if_refused}
use Rattle.lines.specs.Lines.{line_of}
use Rattle.lines.specs.Inputs.{lines_of}
use Rattle.history.specs.History.{start}
use Rattle.history.specs.Runs.{plain_answers}
use Rattle.batch_desk.specs.Run.{bytes_of_all}

-- What the call leaves: the answer bytes, and what it returns.
pub record Entered : Type 0 where
  pub out : List ℕ
  pub count : ℕ

abbrev pub entered : List ℕ → ℕ → Entered
entered out n = record { out = out; count = n }

-- 12, before any line is run: the input has at most 65,536 bytes, and there are eleven bytes of room a line.
unfoldable pub entry_test : List ℕ → List ℕ → Tested
entry_test cs out = need (leb (length cs) 65536) NoRoom (need (leb (11 * length (lines_of cs)) (length out)) NoRoom passed)

-- The bytes that answer an input: what the history of 1,024 nodes and eight lists tells of each line in turn, from its start.
unfoldable pub answers_to : List ℕ → List ℕ
answers_to cs = bytes_of_all (plain_answers 1024 (start 8) (map line_of (lines_of cs)))

-- They are written to the front, the rest stays as it was, and their number is returned. Refused, nothing changes, and the one
-- number that says so is returned.
unfoldable pub entry_of : List ℕ → List ℕ → Entered
entry_of cs out =
    let bs = answers_to cs in
    if_refused (entry_test cs out) (λ r. entered out 4294967295) (entered (bs ++ drop (length bs) out) (length bs))
