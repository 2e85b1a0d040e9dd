-- The end of a run: nothing is left, or a line that is not ended. Assumes nothing.
use Prim.Native.Nat.{ℕ}
use mathlib.Core.Path.{◌≡◌, sym, ap, ◌∙◌}
use mathlib.Core.List.{List, [], ◌∷◌}
use borrow.Author.Tests.{eq-eqb, ne_eqb}
use Rattle.desk.specs.Step.{DeskStepped}
use Rattle.lines.specs.declared.line.Line.{Line}
use Rattle.lines.specs.declared.line.Order.{Order}
use Rattle.std.specs.Prelude.{Option}
use Rattle.lines.specs.Lines.{fresh, parsed}
use Rattle.lines.proofs.Laws.Tested.{tested-parsed}
use Rattle.batch_desk.specs.Step.{batch_step}
use Rattle.batch_desk.specs.Steps.{batch_tested}
use Rattle.stream.specs.Stream.{Placing, placing, placed_at}
use Rattle.batch_desk.specs.Run.{Running, running, ended, run_from, finish_of}
use Rattle.batch_desk.proofs.Laws.Step.{tested-first}

-- a line that is run and answered, by the calls that do it: it was read, so it was tested for 11
pub ended_is : (s : Running) (l : Line) (out : List ℕ) (p : Option Order) (d : DeskStepped) (w : ℕ) → p ≡ parsed s.line → d ≡ batch_tested s.kept.desk p
    → placing out w ≡ placed_at s.out s.wrote d.reply → l ≡ fresh → running out d l w ≡ ended s
unfolding ended
ended_is s l out p d w hp hd ho hl =
    let e : d ≡ batch_step s.kept.desk (parsed s.line) =
    tested-first s.kept.desk (parsed s.line) p d (hp ∙ sym (tested-parsed s.line)) hd in
    rw (hl, ap (λ (x : Placing). x.out) ho, ap (λ (x : Placing). x.next) ho, e)

pub rests : (d : DeskStepped) (l : Line) (out : List ℕ) (at : ℕ) → l.count ≡ 0 → running out d l at ≡ finish_of d l out at
unfolding finish_of
rests d l out at h = rw (eq-eqb l.count 0 h)

-- a line that is ended by a line feed
pub answers : (d : DeskStepped) (l : Line) (out : List ℕ) (at : ℕ) → (l.count ≡ 0 → ⊥) → (x : Running) → x ≡ run_from (running out d l at) (10 ∷ []) → x ≡ finish_of d l out at
unfolding finish_of run_from
answers d l out at h x e = rw (ne_eqb l.count 0 h) e
