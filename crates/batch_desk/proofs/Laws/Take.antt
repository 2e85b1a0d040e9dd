-- A run, line by line. Assumes nothing.
use Prim.Native.Nat.{ℕ, zero, suc, ◌+◌, ◌-◌, ◌<◌, ◌≤◌}
use mathlib.Core.Path.{◌≡◌, refl, ap, ◌∙◌}
use mathlib.Core.Bool.{Bool, true, false}
use mathlib.Core.List.{List, [], ◌∷◌}
use native.Mathlib.Omega.{arith}
use lib.Dec.{eqb}
use lib.ListN.{length, drop, length-drop, drop_of_length-le}
use lib.Seq.{drop-drop}
use Rattle.lines.specs.declared.line.Line.{Line}
use Rattle.lines.specs.Lines.{fed}
use Rattle.stream.specs.declared.Took.{Took}
use Rattle.stream.specs.Stream.{took, take_from}
use Rattle.stream.proofs.Laws.Take.{take-feed, take-other}
use Rattle.batch_desk.specs.Run.{Running, running, fed_to, ended, run_from}

pub run-feed : (s : Running) (b : ℕ) (bs : List ℕ) → eqb b 10 ≡ true → run_from s (b ∷ bs) ≡ run_from (ended s) bs
unfolding run_from
run-feed s b bs e = rw e

pub run-other : (s : Running) (b : ℕ) (bs : List ℕ) → eqb b 10 ≡ false → run_from s (b ∷ bs) ≡ run_from (fed_to s b) bs
unfolding run_from
run-other s b bs e = rw e

-- a run that has come so far, with another line
abbrev pub lined : Running → Line → Running
lined s l = running s.out s.kept l s.wrote

-- a line that ends: it is run, and what comes after it
pub record Ended (s : Running) (bs : List ℕ) (i : ℕ) (t : Took) : Type 0 where
  pub more : i < t.next
  pub within : t.next ≤ i + length bs
  pub runs : run_from s bs ≡ run_from (ended (lined s t.line)) (drop (t.next - i) bs)

one_on : (i : ℕ) → (i + 1) - i ≡ suc zero
one_on i = omega arith

pub ends : (bs : List ℕ) (s : Running) (i : ℕ) (t : Took) → t ≡ take_from s.line i bs → t.ended ≡ true → Ended s bs i t
unfolding take_from
ends [] s i t q h = let z : ◌≡◌ {A = Bool} true false = cc in let y : ◌≡◌ {A = ℕ} 0 1 = cc in absurd (omega arith)
ends (b ∷ bs) s i t q h = go (λ w. ends bs (fed_to s b) (i + 1) t w h) (eqb b 10) refl
  where
    go : (t ≡ take_from (fed s.line b) (i + 1) bs → Ended (fed_to s b) bs (i + 1) t) → (v : Bool) → eqb b 10 ≡ v → Ended s (b ∷ bs) i t
    go ih true e =
        let r : t ≡ took s.line (i + 1) true = q ∙ take-feed s.line i b bs e in
        rw r (record { more = omega arith; within = omega arith; runs = rw (one_on i) (run-feed s b bs e) })
    go ih false e =
        let r = ih (q ∙ take-other s.line i b bs e) in
        let n : t.next - i ≡ suc (t.next - (i + 1)) = omega (arith, r.more) in
        record { more = omega (arith, r.more); within = omega (arith, r.within); runs = rw n (run-other s b bs e ∙ r.runs) }

-- a line that does not end is all that is left
pub opens : (bs : List ℕ) (s : Running) (i : ℕ) (t : Took) → t ≡ take_from s.line i bs → t.ended ≡ false → run_from s bs ≡ lined s t.line
unfolding take_from run_from
opens [] s i t q h = rw q
opens (b ∷ bs) s i t q h = go (λ w. opens bs (fed_to s b) (i + 1) t w h) (eqb b 10) refl
  where
    go : (t ≡ take_from (fed s.line b) (i + 1) bs → run_from (fed_to s b) bs ≡ lined s t.line) → (v : Bool) → eqb b 10 ≡ v → run_from s (b ∷ bs) ≡ lined s t.line
    go ih true e = let r : t ≡ took s.line (i + 1) true = q ∙ take-feed s.line i b bs e in let z : ◌≡◌ {A = Bool} true false = cc in cc
    go ih false e = run-other s b bs e ∙ ih (q ∙ take-other s.line i b bs e)

-- at a place of an input
pub on : (xs : List ℕ) (s : Running) (i : ℕ) (t : Took) → i ≤ length xs → t ≡ take_from s.line i (drop i xs) → t.ended ≡ true
    → (i < t.next) × (t.next ≤ length xs) × (run_from s (drop i xs) ≡ run_from (ended (lined s t.line)) (drop t.next xs))
on xs s i t h q e =
    let r = ends (drop i xs) s i t q e in
    let n : i + (t.next - i) ≡ t.next = omega (arith, r.more) in (
      r.more,
      omega (arith, simp length-drop at r.within),
      r.runs ∙ ap (run_from (ended (lined s t.line))) (drop-drop (t.next - i) i xs ∙ ap (λ (k : ℕ). drop k xs) n),
    )

-- past its end there is nothing to run
pub run_out : (xs : List ℕ) (s : Running) (i : ℕ) → length xs ≤ i → run_from s (drop i xs) ≡ s
unfolding run_from
run_out xs s i h = rw (drop_of_length-le xs h)
