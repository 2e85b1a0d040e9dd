-- Heads and tails as the records of lists. Assumes nothing.
use Rattle.std.proofs.Common.{◌≡◌, ℕ, zero, suc, ◌<◌, List, [], ◌∷◌, length, get_or, min, refl, arith}
use Rattle.ends.specs.Ends.{ends_of, empty_ends}
use Rattle.audit.specs.Audit.{zip_ends}

pub zip_length : (hs ts : List ℕ) → length (zip_ends hs ts) ≡ min (length hs) (length ts)
zip_length [] ts = grind arith
zip_length (h ∷ hs) [] = grind arith
zip_length (h ∷ hs) (t ∷ ts) = let k = zip_length hs ts in omega arith

pub zip-at : (hs ts : List ℕ) (i : ℕ) → i < length (zip_ends hs ts)
    → get_or (zip_ends hs ts) i empty_ends ≡ ends_of (record { 0 = get_or hs i 0 }) (record { 0 = get_or ts i 0 })
zip-at [] ts i h = absurd (omega arith)
zip-at (x ∷ hs) [] i h = absurd (omega arith)
zip-at (x ∷ hs) (t ∷ ts) zero h = refl
zip-at (x ∷ hs) (t ∷ ts) (suc i) h = zip-at hs ts i (omega arith)

pub below-heads : (hs ts : List ℕ) (i : ℕ) → i < length (zip_ends hs ts) → i < length hs
below-heads [] ts i h = absurd (omega arith)
below-heads (x ∷ hs) [] i h = absurd (omega arith)
below-heads (x ∷ hs) (t ∷ ts) zero h = omega arith
below-heads (x ∷ hs) (t ∷ ts) (suc i) h = let k = below-heads hs ts i (omega arith) in omega arith

pub below-tails : (hs ts : List ℕ) (i : ℕ) → i < length (zip_ends hs ts) → i < length ts
below-tails [] ts i h = absurd (omega arith)
below-tails (x ∷ hs) [] i h = absurd (omega arith)
below-tails (x ∷ hs) (t ∷ ts) zero h = omega arith
below-tails (x ∷ hs) (t ∷ ts) (suc i) h = let k = below-tails hs ts i (omega arith) in omega arith

pub ruleset columns = (zip-at, below-heads, below-tails)
