-- The desk's limit beside the pool's. Assumes nothing.
use mathlib.Core.Path.{◌≡◌}
use mathlib.Core.Bool.{true}
use Prim.Native.Nat.{ℕ, ◌≤◌}
use native.Mathlib.Omega.{arith}
use borrow.Author.Tests.{le-leb}
use Rattle.words.specs.Names.{pool_limit, pool_fits}
use Rattle.desk.specs.Step.{desk_limit}

-- a desk within its limit is a pool within its own, so that no call refuses 1 on it
pub desk-in-pool : (n : ℕ) → n ≤ desk_limit → pool_fits n ≡ true
unfolding pool_fits pool_limit desk_limit
desk-in-pool n h = le-leb n pool_limit (omega arith)
