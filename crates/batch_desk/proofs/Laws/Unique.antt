-- A contract that gives a run by one equation leaves one end of the lent bytes and one result: a batch desk is told by the desk that
-- it holds. Assumes nothing.
use mathlib.Core.Path.{◌≡◌, sym, ap, ◌∙◌}
use mathlib.Core.List.{List}
use Prim.Native.Nat.{ℕ}
use Rattle.lines.specs.declared.line.Line.{Line}
use Rattle.desk.specs.Step.{DeskStepped}
use Rattle.batch_desk.specs.declared.BatchDesk.{BatchDesk}
use Rattle.batch_desk.specs.Step.{kept_of}
use Rattle.batch_desk.specs.Run.{Running, running}

pub one-running : (s : Running) (out out' : List ℕ) (d d' : DeskStepped) (l l' : Line) (w w' : ℕ) → running out d l w ≡ s → running out' d' l' w' ≡ s
    → (out ≡ out') × (d ≡ d') × (l ≡ l') × (w ≡ w')
one-running s out out' d d' l l' w w' p q =
    let e : running out d l w ≡ running out' d' l' w' = p ∙ sym q in
    (ap (λ (x : Running). x.out) e, ap (λ (x : Running). x.kept) e, ap (λ (x : Running). x.line) e, ap (λ (x : Running). x.wrote) e)

-- the words, the lists and the answer of a batch desk, from the desk that it holds with its answer
pub one-desk : (a b : BatchDesk) → kept_of a ≡ kept_of b → a ≡ b
one-desk a b e = ap (λ (s : DeskStepped). record { words = s.desk.words; rows = s.desk.lists; reply = s.reply }) e
