-- The word steps of `LinkOps` that do not look at what a word is made of, so that lists of every kind share them.
-- A step at null or at a word that is no name reads 0 and stores nothing, so the source's tests for `None` need no case.
use Rattle.std.specs.Prelude.{ℕ, Bool, true, false, cond, List}
use Rattle.words.specs.Names.{unlinked_marker, is_linked}
use Rattle.words.specs.Pool.{word_at, put_at, Outcome, outcome}

-- `is_linked`, of the node that w names.
unfoldable pub linked_at : List ℕ → ℕ → Bool
linked_at ws w = is_linked (word_at ws w)

-- `acquire_link`: an unlinked node gets the word 0, and the answer is true; nothing is done with any other.
unfoldable pub acquire_link : List ℕ → ℕ → Outcome Bool
acquire_link ws w = cond (linked_at ws w) (outcome ws false) (outcome (put_at ws w 0) true)

-- `release_link`: the node gets the unlinked marker.
unfoldable pub release_link : List ℕ → ℕ → List ℕ
release_link ws w = put_at ws w unlinked_marker
