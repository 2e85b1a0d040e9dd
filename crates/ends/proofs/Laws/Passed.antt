-- What it tells that the tests of a call that takes ends were passed. Assumes nothing.
use mathlib.Core.Path.{◌≡◌}
use mathlib.Core.Bool.{true, false}
use mathlib.Core.List.{List}
use Prim.Native.Nat.{ℕ}
use lib.ListN.{length}
use Rattle.words.specs.Names.{pool_fits}
use Rattle.answers.specs.declared.Refusal.TheVariants.{Size, EndsDoNotHold}
use Rattle.ends.specs.declared.Ends.{Ends}
use Rattle.std.specs.Prelude.{is_err}
use Rattle.answers.specs.Answer.{passed as ladder_end}
use Rattle.ends.specs.Tests.{ends_hold, ends_test}
use Rattle.answers.proofs.Laws.Ladder.{passed}

pub record EndsPassed (ws : List ℕ) (e : Ends) : Type 0 where
  pub fits : pool_fits (length ws) ≡ true
  pub held : ends_hold ws e ≡ true

pub ends-passed : (ws : List ℕ) (e : Ends) → is_err (ends_test ws e) ≡ false → EndsPassed ws e
unfolding ends_test
ends-passed ws e h =
    let a = passed (pool_fits (length ws)) Size _ h in
    let b = passed (ends_hold ws e) EndsDoNotHold ladder_end a.1 in
    record { fits = a.0; held = b.0 }
