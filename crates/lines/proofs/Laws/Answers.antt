-- Eleven bytes stored one by one are the front of what is lent. Assumes nothing.
use mathlib.Core.Path.{◌≡◌}
use mathlib.Core.List.{List, ◌++◌}
use Prim.Native.Nat.{ℕ, ◌+◌, ◌≤◌}
use native.Mathlib.Nat.{zero-add}
use native.Mathlib.Omega.{arith}
use lib.ListN.{length, drop}
use lib.Seq.{sets, sets-eq}

pub written : (vs xs : List ℕ) → length vs ≤ length xs → sets xs 0 vs ≡ vs ++ drop (length vs) xs
written vs xs h = rw zero-add at (sets-eq vs xs 0 (omega arith))
