-- How much of a pool an edit may change.
use Rattle.std.specs.Prelude.{◌≡◌, List, ℕ, ◌≤◌, length, get_or}
use Rattle.words.specs.Names.{name}
use Rattle.words.specs.Listing.{Off}

-- The pool is as long as it was, and no word differs but of nodes whose names are in the list.
pub record Changes (names ws ws' : List ℕ) : Type 0 where
  pub long : length ws' ≡ length ws
  pub same : (i : ℕ) → Off (name i) names → get_or ws' i 0 ≡ get_or ws i 0

-- At most m words differ, and the pool is as long as it was.
pub record AtMost (m : ℕ) (ws ws' : List ℕ) : Type 0 where
  pub names : List ℕ
  pub few : length names ≤ m
  pub changes : Changes names ws ws'

abbrev pub AtMostFour : List ℕ → List ℕ → Type 0
AtMostFour ws ws' = AtMost 4 ws ws'
