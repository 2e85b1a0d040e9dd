-- The desks of the code hold what the desk of the definitions is after the same lines. Assumes nothing.
use mathlib.Core.Path.{◌≡◌, refl, ap, ◌∙◌}
use mathlib.Core.Bool.{Bool, true, false}
use mathlib.Core.List.{List, [], ◌∷◌, ◌++◌, map}
use borrow.Author.Tests.{ne_eqb}
use lib.Dec.{eqb}
use Prim.Native.Nat.{ℕ, zero, suc, ◌*◌, ◌<◌}
use native.Mathlib.Omega.{arith}
use lib.ListN.{replicate, length, length-replicate}
use Rattle.std.specs.Prelude.{Option}
use Rattle.lines.specs.Lines.{line_of, fresh, fed, fed_all, parsed}
use Rattle.lines.specs.Inputs.{lines_from, lines_of}
use Rattle.lines.proofs.Laws.Lines.{fed-says}
use Rattle.lines.specs.declared.line.Order.{Order}
use Rattle.desk.specs.declared.Row.{Row}
use Rattle.words.specs.Names.{unlinked_marker}
use Rattle.rows.specs.Rows.{rows_of}
use Rattle.desk.specs.Step.{Desk, DeskStepped, desk_stepped, fresh_row, fresh_desk, step}
use Rattle.lent_desk.specs.Lent.{Lent, lent, desk_of, left_by, lent_step}
use Rattle.lent_desk.proofs.Laws.Kept.{desk-kept}
use Rattle.stream.specs.Stream.{placed_at}
use Rattle.batch_desk.specs.Step.{no_marks, batch_step}
use Rattle.batch_desk.specs.Run.{Running, running, ended, run_from, run_of, finish_of, finished}
use Rattle.batch_desk.proofs.Laws.Take.{run-feed, run-other}
use Rattle.batch_desk.proofs.Laws.Whole.{fed-counts, all-counts, fed-last, lines_none, lines-last, lines-feed, lines_other}
use Rattle.history.specs.Runs.{MarkedLine, AllMarked, desk_after}
use Rattle.promises.specs.Desks.{FreshSlices, lent_with, slices_after, held_after, own_marks, batch_after}

-- ---- lent slices

-- marks are no part of the desk
same-desk : (s : Lent) (ms : List ℕ) → desk_of (lent_with s ms) ≡ desk_of s
unfolding desk_of
same-desk s ms = refl

reply-kept : (s : Lent) (p : Option Order) → (lent_step s p).reply ≡ (step (desk_of s) s.marks p).result.reply
unfolding lent_step left_by
reply-kept s p = refl

pub held-is : (s : Lent) (v : MarkedLine) → held_after s v ≡ (step (desk_of s) v.marks (line_of v.line)).result
unfolding held_after
held-is s v =
    let t = lent_with s v.marks in
    let p = line_of v.line in
    let r = (step (desk_of t) v.marks p).result in
    ap (λ (d : Desk). desk_stepped d (lent_step t p).reply) (desk-kept t p)
    ∙ ap (desk_stepped r.desk) (reply-kept t p)
    ∙ ap (λ (d : Desk). (step d v.marks p).result) (same-desk s v.marks)

pub slices-are : (gs : List MarkedLine) (s : Lent) → desk_of (slices_after s gs) ≡ desk_after (desk_of s) gs
unfolding slices_after desk_after
slices-are [] s = refl
slices-are (g ∷ gs) s =
    let t = lent_with s g.marks in
    slices-are gs (lent_step t (line_of g.line)).lent
    ∙ ap (λ (d : Desk). desk_after d gs) (desk-kept t (line_of g.line))
    ∙ ap (λ (d : Desk). desk_after (step d g.marks (line_of g.line)).result.desk gs) (same-desk s g.marks)

pub slices-fresh : (n k : ℕ) (s : Lent) → FreshSlices n k s → desk_of s ≡ fresh_desk n k
unfolding desk_of fresh_desk
slices-fresh n k s f = rw (f.words, f.lists)

-- words of 0, five a list, are fresh lists, with or without fewer than five words more
five-more : (k : ℕ) (spare : List ℕ) → rows_of (replicate (5 * suc k) 0 ++ spare) ≡ fresh_row ∷ rows_of (replicate (5 * k) 0 ++ spare)
unfolding rows_of
five-more k spare =
    let n : 5 * suc k ≡ suc (suc (suc (suc (suc (5 * k))))) = omega arith in
    rw n

few-more : (spare : List ℕ) → length spare < 5 → rows_of spare ≡ []
unfolding rows_of
few-more [] h = refl
few-more (a ∷ []) h = refl
few-more (a ∷ b ∷ []) h = refl
few-more (a ∷ b ∷ c ∷ []) h = refl
few-more (a ∷ b ∷ c ∷ d ∷ []) h = refl
few-more (a ∷ b ∷ c ∷ d ∷ e ∷ ws) h = absurd (omega arith)

zero-rows : (k : ℕ) (spare : List ℕ) → length spare < 5 → rows_of (replicate (5 * k) 0 ++ spare) ≡ replicate k fresh_row
zero-rows zero spare h = few-more spare h
zero-rows (suc k) spare h = five-more k spare ∙ ap (λ (rs : List Row). fresh_row ∷ rs) (zero-rows k spare h)

pub zeros-fresh : (n k : ℕ) (spare ms : List ℕ) → length spare < 5 → FreshSlices n k (lent (replicate n unlinked_marker) (replicate (5 * k) 0 ++ spare) ms)
zeros-fresh n k spare ms h = record { words = refl; lists = zero-rows k spare h }

-- ---- the batch desk

pub batch-is : (gs : List (List ℕ)) (d : Desk) → batch_after d gs ≡ desk_after d (map own_marks gs)
unfolding batch_after desk_after batch_step
batch-is [] d = refl
batch-is (g ∷ gs) d = batch-is gs (batch_step d (line_of g)).desk

-- a run to the end of its input
ended_is : (s : Running) → (let p = placed_at s.out s.wrote (batch_step s.kept.desk (parsed s.line)).reply in
    ended s ≡ running p.out (batch_step s.kept.desk (parsed s.line)) fresh p.next)
unfolding ended
ended_is s = refl

last_line : (line : List ℕ) (d : DeskStepped) (out : List ℕ) (w : ℕ)
    → (finished (running out d (fed_all fresh line) w)).kept.desk ≡ batch_after d.desk (lines_from line [])
unfolding finished finish_of fed_all ended batch_after
last_line [] d out w = rw lines_none
last_line (b ∷ bs) d out w =
    rw (lines-last b bs, ne_eqb (fed_all (fed fresh b) bs).count 0 (all-counts bs (fed fresh b) (fed-counts fresh b)))
    (ap (λ (p : Option Order). (batch_step d.desk p).desk) (fed-says (b ∷ bs)))

rest-run : (bs line : List ℕ) (d : DeskStepped) (out : List ℕ) (w : ℕ)
    → (finished (run_from (running out d (fed_all fresh line) w) bs)).kept.desk ≡ batch_after d.desk (lines_from line bs)
unfolding run_from fed_all batch_after
rest-run [] line d out w = last_line line d out w
rest-run (b ∷ bs) line d out w = go (rest-run bs) (eqb b 10) refl
  where
    s : Running
    s = running out d (fed_all fresh line) w

    go : ((line : List ℕ) (d : DeskStepped) (out : List ℕ) (w : ℕ)
        → (finished (run_from (running out d (fed_all fresh line) w) bs)).kept.desk ≡ batch_after d.desk (lines_from line bs))
        → (t : Bool) → eqb b 10 ≡ t → (finished (run_from s (b ∷ bs))).kept.desk ≡ batch_after d.desk (lines_from line (b ∷ bs))
    go ih true t = rw (lines-feed line b bs t, run-feed s b bs t, ended_is s, fed-says line) (ih [] (batch_step d.desk (line_of line)) _ _)
    go ih false t = rw (lines_other line b bs t, run-other s b bs t, ← fed-last line fresh b) (ih (line ++ b ∷ []) d out w)

pub whole_run : (d : DeskStepped) (bs out : List ℕ) → (finished (run_of d fresh bs out)).kept.desk ≡ batch_after d.desk (lines_of bs)
unfolding run_of lines_of fed_all
whole_run d bs out = rest-run bs [] d out 0

pub own-marks : length no_marks ≡ 1024
unfolding no_marks
own-marks = length-replicate {A = ℕ} 1024 0

pub all_own : (gs : List (List ℕ)) → AllMarked 1024 (map own_marks gs)
all_own [] = tt
all_own (g ∷ gs) = (own-marks, all_own gs)
