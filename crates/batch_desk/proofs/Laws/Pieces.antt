-- An input that comes in pieces is one input: the same desk, the same unended line and the same answers. Assumes nothing.
use Prim.Native.Nat.{ℕ, ◌+◌, ◌*◌, ◌≤◌}
use mathlib.Core.Path.{◌≡◌, refl, sym, ap, ◌∙◌}
use mathlib.Core.Bool.{Bool, true, false, cond}
use mathlib.Core.List.{List, [], ◌∷◌, ◌++◌, map, append_assoc, append-nil}
use native.Mathlib.Omega.{arith}
use lib.Dec.{eqb}
use lib.ListN.{length, drop, length-drop}
use lib.Seq.{take-append_seam, drop-drop}
use borrow.Author.Tests.{ne_eqb}
use Rattle.lines.specs.declared.line.Line.{Line}
use Rattle.lines.specs.Lines.{line_of, fresh, fed, fed_all, parsed}
use Rattle.lines.specs.Inputs.{lines_from, lines_of}
use Rattle.lines.specs.Answers.{answer_line}
use Rattle.lines.specs.declared.line.Order.{Order}
use Rattle.std.specs.Prelude.{Option}
use Rattle.lines.proofs.Laws.Lines.{fed-says}
use Rattle.desk.specs.Step.{DeskStepped}
use Rattle.history.specs.Runs.{answer_all}
use Rattle.stream.specs.Stream.{bytes_of}
use Rattle.batch_desk.specs.Step.{no_marks, batch_step}
use Rattle.batch_desk.specs.Run.{Running, running, run_from, run_of, finish_of, bytes_of_all}
use Rattle.batch_desk.specs.Pieces.{feeds, Room, written, Piece, whole_of, AllRoom, Left, left_by, in_pieces, answers_in}
use Rattle.batch_desk.proofs.Laws.Take.{run-feed, run-other}
use Rattle.batch_desk.proofs.Laws.Whole.{fed-counts, all-counts, fed-last, ended-room, more-length, lines_none, lines-last, lines-feed, lines_other}

-- ---- what bytes come to, whatever is lent for the answers

abbrev left : DeskStepped → Line → List ℕ → Left
left d l xs = record { kept = d; line = l; answers = xs }

unfoldable said : DeskStepped → Line → List ℕ → Left
said d l [] = left d l []
said d l (b ∷ bs) =
    let e = batch_step d.desk (parsed l) in
    let r = said e fresh bs in
    cond (eqb b 10) (left r.kept r.line (bytes_of e.reply ++ r.answers)) (said d (fed l b) bs)

-- the second of two, with what was answered before it
abbrev behind : List ℕ → Left → Left
behind xs r = left r.kept r.line (xs ++ r.answers)

said-feed : (d : DeskStepped) (l : Line) (b : ℕ) (bs : List ℕ) → eqb b 10 ≡ true
    → said d l (b ∷ bs) ≡ behind (bytes_of (batch_step d.desk (parsed l)).reply) (said (batch_step d.desk (parsed l)) fresh bs)
unfolding said
said-feed d l b bs e = rw e

said-other : (d : DeskStepped) (l : Line) (b : ℕ) (bs : List ℕ) → eqb b 10 ≡ false → said d l (b ∷ bs) ≡ said d (fed l b) bs
unfolding said
said-other d l b bs e = rw e

feeds-feed : (b : ℕ) (bs : List ℕ) → eqb b 10 ≡ true → feeds (b ∷ bs) ≡ 1 + feeds bs
unfolding feeds
feeds-feed b bs e = rw e

feeds-other : (b : ℕ) (bs : List ℕ) → eqb b 10 ≡ false → feeds (b ∷ bs) ≡ feeds bs
unfolding feeds
feeds-other b bs e = rw e

said-nil : (ys : List ℕ) (d : DeskStepped) (l : Line) → said d l ys ≡ behind (said d l []).answers (said (said d l []).kept (said d l []).line ys)
unfolding said
said-nil ys d l = refl

-- bytes and then more bytes
said-append : (xs ys : List ℕ) (d : DeskStepped) (l : Line)
    → said d l (xs ++ ys) ≡ behind (said d l xs).answers (said (said d l xs).kept (said d l xs).line ys)
said-append [] ys d l = said-nil ys d l
said-append (b ∷ xs) ys d l = go (said-append xs ys) (eqb b 10) refl
  where
    e : DeskStepped
    e = batch_step d.desk (parsed l)

    go : ((d : DeskStepped) (l : Line) → said d l (xs ++ ys) ≡ behind (said d l xs).answers (said (said d l xs).kept (said d l xs).line ys))
        → (t : Bool) → eqb b 10 ≡ t
        → said d l (b ∷ xs ++ ys) ≡ behind (said d l (b ∷ xs)).answers (said (said d l (b ∷ xs)).kept (said d l (b ∷ xs)).line ys)
    go ih true t =
        rw (said-feed d l b (xs ++ ys) t, said-feed d l b xs t, ih e fresh, append_assoc)
    go ih false t = rw (said-other d l b (xs ++ ys) t, said-other d l b xs t) (ih d (fed l b))

-- ---- a run with room says it

abbrev says : List ℕ → List ℕ → Left → Running
says front rest r = running ((front ++ r.answers) ++ rest) r.kept r.line (length (front ++ r.answers))

run_none : (d : DeskStepped) (l : Line) (front rest : List ℕ)
    → run_from (running (front ++ rest) d l (length front)) [] ≡ says front (drop (11 * feeds []) rest) (said d l [])
unfolding run_from said feeds
run_none d l front rest = rw (append-nil front)

run-says : (bs : List ℕ) (d : DeskStepped) (l : Line) (front rest : List ℕ) → Room bs rest
    → run_from (running (front ++ rest) d l (length front)) bs ≡ says front (drop (11 * feeds bs) rest) (said d l bs)
run-says [] d l front rest h = run_none d l front rest
run-says (b ∷ bs) d l front rest h = go (run-says bs) (eqb b 10) refl
  where
    e : DeskStepped
    e = batch_step d.desk (parsed l)

    joined : (r : Left) (rest : List ℕ) → says (front ++ bytes_of e.reply) rest r ≡ says front rest (behind (bytes_of e.reply) r)
    joined r rest =
        ap (λ (xs : List ℕ). running (xs ++ rest) r.kept r.line (length xs)) (append_assoc front (bytes_of e.reply) r.answers)

    go : ((d : DeskStepped) (l : Line) (front rest : List ℕ) → Room bs rest
        → run_from (running (front ++ rest) d l (length front)) bs ≡ says front (drop (11 * feeds bs) rest) (said d l bs))
        → (t : Bool) → eqb b 10 ≡ t
        → run_from (running (front ++ rest) d l (length front)) (b ∷ bs) ≡ says front (drop (11 * feeds (b ∷ bs)) rest) (said d l (b ∷ bs))
    go ih true t =
        let room : 11 * (1 + feeds bs) ≤ length rest = rw (feeds-feed b bs t) at h in
        let n : 11 + 11 * feeds bs ≡ 11 * (1 + feeds bs) = omega arith in
        let more = front ++ bytes_of e.reply in
        rw (
          run-feed (running (front ++ rest) d l (length front)) b bs t,
          ended-room d l front rest (omega arith),
          said-feed d l b bs t,
          feeds-feed b bs t,
          ← n,
          ← drop-drop (11 * feeds bs) 11 rest,
          ← more-length front e.reply,
        )
        (ih e fresh more (drop 11 rest) (simp length-drop (omega arith)) ∙ joined (said e fresh bs) (drop (11 * feeds bs) (drop 11 rest)))
    go ih false t =
        let room : Room bs rest = rw (feeds-other b bs t) at h in
        rw (run-other (running (front ++ rest) d l (length front)) b bs t, said-other d l b bs t, feeds-other b bs t) (ih d (fed l b) front rest room)

one-run : (d : DeskStepped) (l : Line) (bs out : List ℕ) → Room bs out → left_by (run_of d l bs out) ≡ said d l bs
unfolding run_of
one-run d l bs out h =
    let r = said d l bs in
    ap left_by (run-says bs d l [] out h) ∙ ap (left r.kept r.line) (take-append_seam r.answers (drop (11 * feeds bs) out))

-- ---- two pieces, and any number of them

module _ (d : DeskStepped) (l : Line) where
  -- two runs, each with room, the second from the desk and the line that the first left
  pub two_runs : (xs ys out out1 out2 : List ℕ) → Room xs out1 → Room ys out2 → Room (xs ++ ys) out
      → (let a = run_of d l xs out1 in
      let b = run_of a.kept a.line ys out2 in
      let c = run_of d l (xs ++ ys) out in
      (b.kept ≡ c.kept) × (b.line ≡ c.line) × (written a ++ written b ≡ written c))
  two_runs xs ys out out1 out2 h1 h2 h =
      let p = one-run d l xs out1 h1 in
      let a = run_of d l xs out1 in
      let q = one-run a.kept a.line ys out2 h2 in
      let e : behind (written a) (left_by (run_of a.kept a.line ys out2)) ≡ left_by (run_of d l (xs ++ ys) out) =
      ap (behind (written a)) q
      ∙ ap (λ (r : Left). behind r.answers (said r.kept r.line ys)) p
      ∙ sym (said-append xs ys d l)
      ∙ sym (one-run d l (xs ++ ys) out h) in
      (ap (λ (r : Left). r.kept) e, ap (λ (r : Left). r.line) e, ap (λ (r : Left). r.answers) e)

pieces-said : (ps : List Piece) (d : DeskStepped) (l : Line) → AllRoom ps → in_pieces d l ps ≡ said d l (whole_of ps)
unfolding in_pieces whole_of said
pieces-said [] d l h = refl
pieces-said (p ∷ ps) d l h =
    let a = run_of d l p.bytes p.out in
    ap (behind (written a)) (pieces-said ps a.kept a.line h.1)
    ∙ ap (λ (r : Left). behind r.answers (said r.kept r.line (whole_of ps))) (one-run d l p.bytes p.out h.0)
    ∙ sym (said-append p.bytes (whole_of ps) d l)

-- an input in pieces leaves what one run over it leaves
pub pieces-are-one : (d : DeskStepped) (l : Line) (ps : List Piece) → AllRoom ps → (out : List ℕ) → Room (whole_of ps) out
    → in_pieces d l ps ≡ left_by (run_of d l (whole_of ps) out)
pieces-are-one d l ps h out k = pieces-said ps d l h ∙ sym (one-run d l (whole_of ps) out k)

-- ---- to the end of the input

-- the answer to a line that is not ended, if it counts
abbrev last_said : DeskStepped → Line → List ℕ
last_said d l = cond (eqb l.count 0) [] (bytes_of (batch_step d.desk (parsed l)).reply)

abbrev said_all : Left → List ℕ
said_all r = r.answers ++ last_said r.kept r.line

finish-says : (d : DeskStepped) (l : Line) (out : List ℕ) → 11 ≤ length out → written (finish_of d l out 0) ≡ last_said d l
unfolding finish_of answer_line
finish-says d l out h = go (eqb l.count 0) refl
  where
    go : (t : Bool) → eqb l.count 0 ≡ t → written (finish_of d l out 0) ≡ last_said d l
    go true t = rw t
    go false t =
        let r = bytes_of (batch_step d.desk (parsed l)).reply in
        rw t (ap written (ended-room d l [] out h) ∙ take-append_seam r (drop 11 out))

abbrev answers_to : DeskStepped → List (List ℕ) → List ℕ
answers_to d ls = bytes_of_all (answer_all d.desk no_marks (map line_of ls))

answers_one : (d : DeskStepped) (line : List ℕ) (ls : List (List ℕ))
    → answers_to d (line ∷ ls) ≡ bytes_of (batch_step d.desk (line_of line)).reply ++ answers_to (batch_step d.desk (line_of line)) ls
unfolding bytes_of_all answer_all batch_step
answers_one d line ls = refl

last-answers : (line : List ℕ) (d : DeskStepped) → said_all (said d (fed_all fresh line) []) ≡ answers_to d (lines_from line [])
unfolding said fed_all bytes_of_all answer_all batch_step
last-answers [] d = rw lines_none
last-answers (b ∷ bs) d =
    let told : Option Order → List ℕ = λ p. bytes_of (batch_step d.desk p).reply in
    rw (lines-last b bs, ne_eqb (fed_all (fed fresh b) bs).count 0 (all-counts bs (fed fresh b) (fed-counts fresh b)))
    (ap told (fed-says (b ∷ bs)) ∙ sym (append-nil (told (line_of (b ∷ bs)))))

said-answers : (bs line : List ℕ) (d : DeskStepped) → said_all (said d (fed_all fresh line) bs) ≡ answers_to d (lines_from line bs)
unfolding fed_all
said-answers [] line d = last-answers line d
said-answers (b ∷ bs) line d = go (said-answers bs) (eqb b 10) refl
  where
    e : DeskStepped
    e = batch_step d.desk (line_of line)

    go : ((line : List ℕ) (d : DeskStepped) → said_all (said d (fed_all fresh line) bs) ≡ answers_to d (lines_from line bs))
        → (t : Bool) → eqb b 10 ≡ t → said_all (said d (fed_all fresh line) (b ∷ bs)) ≡ answers_to d (lines_from line (b ∷ bs))
    go ih true t =
        rw (lines-feed line b bs t, said-feed d (fed_all fresh line) b bs t, fed-says line, answers_one d line (lines_from [] bs), append_assoc)
        (ap (λ (xs : List ℕ). bytes_of e.reply ++ xs) (ih [] e))
    go ih false t =
        rw (lines_other line b bs t, said-other d (fed_all fresh line) b bs t, ← fed-last line fresh b) (ih (line ++ b ∷ []) d)

-- an input in pieces, to its end, is answered line by line
pub pieces-answered : (d : DeskStepped) (ps : List Piece) → AllRoom ps → (last : List ℕ) → 11 ≤ length last
    → answers_in d ps last ≡ bytes_of_all (answer_all d.desk no_marks (map line_of (lines_of (whole_of ps))))
unfolding answers_in lines_of fed_all
pieces-answered d ps h last k =
    let r = in_pieces d fresh ps in
    ap (λ (xs : List ℕ). r.answers ++ xs) (finish-says r.kept r.line last k)
    ∙ ap said_all (pieces-said ps d fresh h)
    ∙ said-answers (whole_of ps) [] d
