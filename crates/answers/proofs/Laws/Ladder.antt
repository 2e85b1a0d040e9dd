-- What passing a ladder of tests tells: every test on it holds. Assumes nothing.
use mathlib.Core.Path.{◌≡◌, refl, ap}
use mathlib.Core.Bool.{Bool, true, false, cond}
use Prim.Native.Nat.{ℕ}
use native.Mathlib.Omega.{arith}
use Rattle.answers.specs.declared.Refusal.{Refusal}
use Rattle.std.specs.Prelude.{Result, Ok, Err, is_err}
use Rattle.answers.specs.Answer.{need, and_then}

pub not-both : true ≡ false → ⊥
not-both e = let z : ◌≡◌ {A = ℕ} 1 0 = ap (λ (b : Bool). cond {A = ℕ} b 1 0) e in omega arith

-- a rung that was passed
pub passed : {A : Type 0} (holds : Bool) (r : Refusal) (rest : Result A Refusal) → is_err (need holds r rest) ≡ false
    → (holds ≡ true) × (is_err rest ≡ false)
passed true r rest e = (refl, e)
passed false r rest e = absurd (not-both e)

-- two ladders that were passed
pub passed-both : {A B : Type 0} (a : Result A Refusal) (b : Result B Refusal) → is_err (and_then a b) ≡ false → (is_err a ≡ false) × (is_err b ≡ false)
passed-both (Ok u) b e = (refl, e)
passed-both (Err r) b e = absurd (not-both e)
