-- Answers (document 01, 'Command lines'): number, first field, second field, line feed.
use Rattle.std.specs.Prelude.{ℕ, ◌+◌, ◌/◌, ◌%◌, cond, List, [], ◌∷◌, ◌++◌, ltb, leb, length, drop}
use Rattle.lines.specs.declared.answer.Reply.{Reply}

-- An answer: its number and its two fields.
abbrev pub reply : ℕ → ℕ → ℕ → Reply
reply a f s = record { number = a; first = f; second = s }

-- The digit of a number below 16.
unfoldable pub hex_of : ℕ → ℕ
hex_of n = cond (ltb (n % 16) 10) (n % 16 + 48) (n % 16 + 87)

-- The eleven bytes of an answer.
unfoldable pub answer_line : ℕ → ℕ → ℕ → List ℕ
answer_line a f s =
    hex_of (a / 16) ∷ hex_of a
    ∷ hex_of (f / 4096) ∷ hex_of (f / 256) ∷ hex_of (f / 16) ∷ hex_of f
    ∷ hex_of (s / 4096) ∷ hex_of (s / 256) ∷ hex_of (s / 16) ∷ hex_of s
    ∷ 10 ∷ []

-- They go to the front of what is lent; where there is no room for them, nothing is written.
unfoldable pub put_answer : List ℕ → ℕ → ℕ → ℕ → List ℕ
put_answer out a f s = cond (leb 11 (length out)) (answer_line a f s ++ drop 11 out) out
