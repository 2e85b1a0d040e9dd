-- Where a contract gives what a call leaves as one equation, no second answer fits it. Assumes nothing.
use mathlib.Core.Path.{◌≡◌, sym, ap, ◌∙◌}
use mathlib.Core.List.{List}
use Prim.Native.Nat.{ℕ}
use Rattle.words.specs.Pool.{Outcome, outcome}

pub one-outcome : {A : Type 0} (o : Outcome A) (ws ws' : List ℕ) (a a' : A) → outcome ws a ≡ o → outcome ws' a' ≡ o → (ws ≡ ws') × (a ≡ a')
one-outcome {A} o ws ws' a a' p q =
    let e : outcome ws a ≡ outcome ws' a' = p ∙ sym q in
    (ap (λ (r : Outcome A). r.words) e, ap (λ (r : Outcome A). r.result) e)

pub one_answer : {A : Type 0} (o a a' : A) → a ≡ o → a' ≡ o → a ≡ a'
one_answer o a a' p q = p ∙ sym q
