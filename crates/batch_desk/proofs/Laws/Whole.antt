-- What `run` and `finish` write over a whole input: the answers to its lines in turn. Assumes nothing.
use Prim.Native.Nat.{ℕ, suc, ◌+◌, ◌*◌, ◌%◌, ◌≤◌}
use mathlib.Core.Path.{◌≡◌, refl, sym, ◌∙◌}
use mathlib.Core.Bool.{Bool, true, false, ◌&&◌, cond}
use mathlib.Core.List.{List, [], ◌∷◌, ◌++◌, map, append_assoc}
use native.Mathlib.Nat.{add-zero}
use native.Mathlib.Omega.{arith}
use lib.Dec.{eqb, ltb}
use lib.ListN.{length, drop, length-append, length-drop}
use lib.Seq.{take-append_seam, drop-append-add, drop-drop}
use borrow.Author.Tests.{le-leb, ne_eqb}
use Rattle.lines.specs.declared.line.Line.{Line}
use Rattle.lines.specs.Lines.{digit_of, line_of, fresh, fed, fed_all, parsed}
use Rattle.lines.specs.Inputs.{lines_from, lines_of}
use Rattle.lines.specs.Answers.{answer_line}
use Rattle.lines.proofs.Laws.Lines.{fed-says}
use Rattle.lines.specs.declared.answer.Reply.{Reply}
use Rattle.desk.specs.Step.{DeskStepped}
use Rattle.history.specs.Runs.{answer_all}
use Rattle.batch_desk.specs.Step.{no_marks, batch_step}
use Rattle.stream.specs.Stream.{bytes_of, placed_at}
use Rattle.batch_desk.specs.Run.{Running, running, ended, run_from, run_of, finish_of, bytes_of_all, finished}
use Rattle.batch_desk.proofs.Laws.Take.{run-feed, run-other}

-- ---- a line that is begun has a digit, or is malformed

pub fed-counts : (l : Line) (b : ℕ) → (fed l b).count ≡ 0 → ⊥
unfolding fed
fed-counts l b h = go (ltb l.count 10 && ltb (digit_of b) 16) h
  where
    go : (t : Bool) → (cond {A = Line} t (record { value = l.value % 68719476736 * 16 + digit_of b; count = l.count + 1 }) (record { value = 0; count = 11 })).count ≡ 0 → ⊥
    go true e = omega arith
    go false e = omega arith

pub all-counts : (bs : List ℕ) (l : Line) → (l.count ≡ 0 → ⊥) → (fed_all l bs).count ≡ 0 → ⊥
unfolding fed_all
all-counts [] l h e = h e
all-counts (b ∷ bs) l h e = all-counts bs (fed l b) (fed-counts l b) e

pub fed-last : (bs : List ℕ) (l : Line) (b : ℕ) → fed_all l (bs ++ b ∷ []) ≡ fed (fed_all l bs) b
unfolding fed_all
fed-last [] l b = refl
fed-last (a ∷ bs) l b = fed-last bs (fed l a) b

-- ---- one answer

bytes-length : (r : Reply) → length (bytes_of r) ≡ 11
unfolding answer_line
bytes-length r = refl

-- after the bytes that are written, and with room for another answer
pub ended-room : (d : DeskStepped) (l : Line) (front rest : List ℕ) → 11 ≤ length rest
    → ended (running (front ++ rest) d l (length front))
    ≡ running ((front ++ bytes_of (batch_step d.desk (parsed l)).reply) ++ drop 11 rest) (batch_step d.desk (parsed l)) fresh (length front + 11)
unfolding ended placed_at
ended-room d l front rest h =
    let room : length front + 11 ≤ length (front ++ rest) = simp length-append (omega arith) in
    rw (le-leb (length front + 11) (length (front ++ rest)) room, take-append_seam front rest, drop-append-add front rest 11, append_assoc)

-- ---- all answers

-- How a run ends that has written front, with lines ls to come and the bytes rest to write to.
pub record Answered (d : DeskStepped) (front rest : List ℕ) (ls : List (List ℕ)) (w : Running) : Type 0 where
  pub out : w.out ≡ front ++ (bytes_of_all (answer_all d.desk no_marks (map line_of ls)) ++ drop (11 * length ls) rest)
  pub wrote : w.wrote ≡ length front + 11 * length ls

none : (d : DeskStepped) (l : Line) (front rest : List ℕ) → Answered d front rest [] (running (front ++ rest) d l (length front))
unfolding bytes_of_all answer_all
none d l front rest = record { out = refl; wrote = sym (add-zero (length front)) }

one : (d : DeskStepped) (line front rest : List ℕ) (ls : List (List ℕ)) (w : Running)
    → Answered (batch_step d.desk (line_of line)) (front ++ bytes_of (batch_step d.desk (line_of line)).reply) (drop 11 rest) ls w → Answered d front rest (line ∷ ls) w
unfolding bytes_of_all answer_all batch_step
one d line front rest ls w a =
    let n : 11 + 11 * length ls ≡ 11 * suc (length ls) = omega arith in
    record {
      out = a.out ∙ rw (← n, ← drop-drop (11 * length ls) 11 rest) (simp append_assoc);
      wrote = a.wrote ∙ simp length-append (omega (arith, bytes-length (batch_step d.desk (line_of line)).reply));
    }

pub more-length : (front : List ℕ) (r : Reply) → length (front ++ bytes_of r) ≡ length front + 11
more-length front r = simp length-append (omega (arith, bytes-length r))

pub lines_none : lines_from [] [] ≡ []
unfolding lines_from
lines_none = refl

pub lines-last : (b : ℕ) (bs : List ℕ) → lines_from (b ∷ bs) [] ≡ (b ∷ bs) ∷ []
unfolding lines_from
lines-last b bs = rw (ne_eqb (suc (length bs)) 0 (λ e. omega arith))

-- a line that has ended, and those after it
then : (d : DeskStepped) (line front rest : List ℕ) (ls : List (List ℕ)) (f : Running → Running) → 11 ≤ length rest
    → (let e = batch_step d.desk (line_of line) in
    let more = front ++ bytes_of e.reply in
    Answered e more (drop 11 rest) ls (f (running (more ++ drop 11 rest) e fresh (length more))))
    → Answered d front rest (line ∷ ls) (f (ended (running (front ++ rest) d (fed_all fresh line) (length front))))
then d line front rest ls f h a =
    rw (ended-room d (fed_all fresh line) front rest h, fed-says line)
    (one d line front rest ls _ (rw (more-length front (batch_step d.desk (line_of line)).reply) at a))

-- the last line: none, or one that is not ended
last : (line : List ℕ) (d : DeskStepped) (front rest : List ℕ) → 11 * length (lines_from line []) ≤ length rest
    → Answered d front rest (lines_from line []) (finished (running (front ++ rest) d (fed_all fresh line) (length front)))
unfolding finished finish_of fed_all
last [] d front rest h = rw lines_none (none d fresh front rest)
last (b ∷ bs) d front rest h =
    let room : 11 * length ((b ∷ bs) ∷ []) ≤ length rest = rw (lines-last b bs) at h in
    let e = batch_step d.desk (line_of (b ∷ bs)) in
    rw (lines-last b bs, ne_eqb (fed_all (fed fresh b) bs).count 0 (all-counts bs (fed fresh b) (fed-counts fresh b)))
    (then d (b ∷ bs) front rest [] (λ (s : Running). s) (omega arith) (none e fresh (front ++ bytes_of e.reply) (drop 11 rest)))

pub lines-feed : (line : List ℕ) (b : ℕ) (bs : List ℕ) → eqb b 10 ≡ true → lines_from line (b ∷ bs) ≡ line ∷ lines_from [] bs
unfolding lines_from
lines-feed line b bs e = rw e

pub lines_other : (line : List ℕ) (b : ℕ) (bs : List ℕ) → eqb b 10 ≡ false → lines_from line (b ∷ bs) ≡ lines_from (line ++ b ∷ []) bs
unfolding lines_from
lines_other line b bs e = rw e

-- what is left of an input, from a line that is begun
rest-answered : (bs line : List ℕ) (d : DeskStepped) (front rest : List ℕ) → 11 * length (lines_from line bs) ≤ length rest
    → Answered d front rest (lines_from line bs) (finished (run_from (running (front ++ rest) d (fed_all fresh line) (length front)) bs))
unfolding run_from fed_all
rest-answered [] line d front rest h = last line d front rest h
rest-answered (b ∷ bs) line d front rest h = go (rest-answered bs) (eqb b 10) refl
  where
    s : Running
    s = running (front ++ rest) d (fed_all fresh line) (length front)

    go : ((line : List ℕ) (d : DeskStepped) (front rest : List ℕ) → 11 * length (lines_from line bs) ≤ length rest
        → Answered d front rest (lines_from line bs) (finished (run_from (running (front ++ rest) d (fed_all fresh line) (length front)) bs)))
        → (t : Bool) → eqb b 10 ≡ t → Answered d front rest (lines_from line (b ∷ bs)) (finished (run_from s (b ∷ bs)))
    go ih true e =
        let room : 11 * length (line ∷ lines_from [] bs) ≤ length rest = rw (lines-feed line b bs e) at h in
        let d1 = batch_step d.desk (line_of line) in
        rw (lines-feed line b bs e, run-feed s b bs e)
        (then d line front rest (lines_from [] bs) (λ (r : Running). finished (run_from r bs)) (omega arith)
        (ih [] d1 (front ++ bytes_of d1.reply) (drop 11 rest) (simp length-drop (omega arith))))
    go ih false e =
        let room : 11 * length (lines_from (line ++ b ∷ []) bs) ≤ length rest = rw (lines_other line b bs e) at h in
        rw (lines_other line b bs e, run-other s b bs e, ← fed-last line fresh b) (ih (line ++ b ∷ []) d front rest room)

-- With room for eleven bytes a line, the whole run writes the answers to the lines, and leaves the rest of out as it was.
pub whole-answered : (d : DeskStepped) (input out : List ℕ) → 11 * length (lines_of input) ≤ length out → Answered d [] out (lines_of input) (finished (run_of d fresh input out))
unfolding lines_of run_of fed_all
whole-answered d input out h = rest-answered input [] d [] out h
