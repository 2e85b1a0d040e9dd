-- An answer that is written to a part of lent bytes stands at its place. Assumes nothing.
use Prim.Native.Nat.{ℕ, ◌+◌, ◌-◌, ◌<◌, ◌≤◌}
use mathlib.Core.Path.{◌≡◌}
use mathlib.Core.List.{List, ◌++◌}
use native.Mathlib.Omega.{arith}
use lib.ListN.{length, take, drop, length-drop, drop_of_length-le}
use lib.Seq.{drop-drop, length-take-le}
use borrow.Author.Tests.{le-leb, lt-leb}
use Rattle.lines.specs.Answers.{answer_line, put_answer}
use Rattle.lines.specs.declared.answer.Reply.{Reply}
use Rattle.stream.specs.Stream.{placing, placed_at}

-- eleven bytes of room are filled
filled : (part : List ℕ) (a f s : ℕ) → length part ≡ 11 → put_answer part a f s ≡ answer_line a f s
unfolding put_answer answer_line
filled part a f s h = rw (h, drop_of_length-le part {i = 11} (omega arith))

pub no-room : (out : List ℕ) (at : ℕ) (r : Reply) → length out < at + 11 → placing out at ≡ placed_at out at r
unfolding placed_at
no-room out at r h = rw (lt-leb (at + 11) (length out) h)

pub placed : (out : List ℕ) (at : ℕ) (r : Reply) (part : List ℕ) → at + 11 ≤ length out
    → part ≡ put_answer (take ((at + 11) - at) (drop at out)) r.number r.first r.second
    → placing (take at out ++ (part ++ drop ((at + 11) - at) (drop at out))) (at + 11) ≡ placed_at out at r
unfolding placed_at
placed out at r part h e =
    let n : (at + 11) - at ≡ 11 = omega arith in
    let g : part ≡ put_answer (take 11 (drop at out)) r.number r.first r.second = rw n at e in
    let w : length (take 11 (drop at out)) ≡ 11 = length-take-le 11 (drop at out) (simp length-drop (omega arith)) in
    rw (n, le-leb (at + 11) (length out) h, g, filled (take 11 (drop at out)) r.number r.first r.second w, drop-drop 11 at out)
