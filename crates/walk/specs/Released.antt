-- The pass over the marks by which clear releases a list's nodes.
use Rattle.std.specs.Prelude.{◌≡◌, cond, List, ℕ, ◌<◌, eqb, length, get_or}
use Rattle.words.specs.Names.{unlinked_marker}

-- The word of each node that has the mark 1 is the unlinked marker now, and every other is as it was.
pub record Released (ws ms ws' : List ℕ) : Type 0 where
  pub long : length ws' ≡ length ws
  pub each : (i : ℕ) → i < length ws → get_or ws' i 0 ≡ cond (eqb (get_or ms i 0) 1) unlinked_marker (get_or ws i 0)
