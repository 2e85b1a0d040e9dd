-- What the entry writes are the history's answers. Assumes nothing.
use Prim.Native.Nat.{ℕ, suc, ◌*◌, ◌<◌, ◌≤◌}
use mathlib.Core.Path.{◌≡◌, refl, sym, ap, ◌∙◌}
use mathlib.Core.List.{List, [], ◌∷◌, ◌++◌, map}
use native.Mathlib.Omega.{arith}
use lib.Dec.{lit≤}
use lib.ListN.{length, drop, length-append, length-map}
use borrow.Author.Tests.{le-leb, lt-leb}
use Rattle.words.specs.Names.{directory_limit}
use Rattle.lines.specs.declared.line.Line.{Line}
use Rattle.lines.specs.declared.line.Order.{Order}
use Rattle.std.specs.Prelude.{Option}
use Rattle.lines.specs.Lines.{line_of, fresh}
use Rattle.lines.specs.Inputs.{lines_of}
use Rattle.lines.specs.Answers.{reply, answer_line}
use Rattle.lines.specs.declared.answer.Reply.{Reply}
use Rattle.desk.specs.Step.{DeskStepped, desk_stepped, fresh_desk, desk_limit}
use Rattle.history.specs.History.{History, start, plain_step}
use Rattle.history.specs.Runs.{answer_all, plain_answers}
use Rattle.history.proofs.Laws.Runs.{answers-are}
use Rattle.batch_desk.specs.Step.{no_marks}
use Rattle.stream.specs.Stream.{bytes_of}
use Rattle.batch_desk.specs.Run.{bytes_of_all, Running, running, run_of, finish_of, finished}
use Rattle.batch_desk.proofs.Laws.Whole.{whole-answered}
use Rattle.rewzhanok.specs.Entry.{entered, entry_test, answers_to, entry_of}

-- ---- as many bytes as eleven a line

bytes-length : (rs : List Reply) → length (bytes_of_all rs) ≡ 11 * length rs
unfolding bytes_of_all answer_line
bytes-length [] = refl
bytes-length (r ∷ rs) = rw (length-append (bytes_of r) (bytes_of_all rs)) (omega (arith, bytes-length rs))

answers-counted : (ps : List (Option Order)) (h : History) → length (plain_answers 1024 h ps) ≡ length ps
unfolding plain_answers
answers-counted [] h = refl
answers-counted (p ∷ ps) h = ap suc (answers-counted ps (plain_step 1024 h p).history)

answers-length : (cs : List ℕ) → length (answers_to cs) ≡ 11 * length (lines_of cs)
unfolding answers_to
answers-length cs =
    let ps = map line_of (lines_of cs) in
    let b = bytes-length (plain_answers 1024 (start 8) ps) in
    let t = answers-counted ps (start 8) in
    omega (arith, b, t, length-map (lines_of cs) line_of)

-- ---- the desk's answers are the history's

answers-told : (ps : List (Option Order)) → answer_all (fresh_desk 1024 8) no_marks ps ≡ plain_answers 1024 (start 8) ps
unfolding desk_limit directory_limit no_marks
answers-told ps = answers-are 1024 (lit≤ tt) 8 (lit≤ tt) no_marks refl ps

-- ---- the call, by what it comes to

-- what a run starts with
abbrev fresh_kept : DeskStepped
fresh_kept = desk_stepped (fresh_desk 1024 8) (reply 0 0 0)

pub too_long : (cs out : List ℕ) → 65536 < length cs → entered out 4294967295 ≡ entry_of cs out
unfolding entry_of entry_test
too_long cs out h = rw (lt-leb (length cs) 65536 h)

pub no-room : (cs out : List ℕ) → length cs ≤ 65536 → length out < 11 * length (lines_of cs) → entered out 4294967295 ≡ entry_of cs out
unfolding entry_of entry_test
no-room cs out h r = rw (le-leb (length cs) 65536 h, lt-leb (11 * length (lines_of cs)) (length out) r)

module _ (cs out : List ℕ) (long : length cs ≤ 65536) (room : 11 * length (lines_of cs) ≤ length out) (w : Running)
    (runs : w ≡ finished (run_of fresh_kept fresh cs out)) where
  pub wrote-is : w.wrote ≡ 11 * length (lines_of cs)
  wrote-is = rw runs (omega (arith, (whole-answered fresh_kept cs out room).wrote))

  out-is : w.out ≡ answers_to cs ++ drop (length (answers_to cs)) out
  unfolding answers_to
  out-is =
      ap (λ (x : Running). x.out) runs
      ∙ (whole-answered fresh_kept cs out room).out
      ∙ rw (answers-told (map line_of (lines_of cs)), answers-length cs)

  pub runs_entry : entered w.out w.wrote ≡ entry_of cs out
  unfolding entry_of entry_test
  runs_entry =
      rw (le-leb (length cs) 65536 long, le-leb (11 * length (lines_of cs)) (length out) room, ← out-is)
      (ap (entered w.out) (wrote-is ∙ sym (answers-length cs)))

-- the calls that make a whole run
pub run-whole : (cs out : List ℕ) (d : DeskStepped) (l : Line) (mid : List ℕ) (d1 : DeskStepped) (l1 : Line) (w1 : ℕ) (x : Running) → d ≡ fresh_kept → l ≡ fresh
    → running mid d1 l1 w1 ≡ run_of d l cs out → x ≡ finish_of d1 l1 mid w1 → x ≡ finished (run_of fresh_kept fresh cs out)
unfolding finished
run-whole cs out d l mid d1 l1 w1 x hd hl hr he = he ∙ ap finished (hr ∙ rw (hd, hl))
