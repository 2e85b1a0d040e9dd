-- In a pool within the limit names, and xors of names, stay below one power of two. Assumes nothing.
use mathlib.Core.Path.{◌≡◌, refl}
use mathlib.Core.Logic.{inl, inr}
use mathlib.Core.Bool.{true}
use mathlib.Core.List.{List, [], ◌∷◌}
use Prim.Native.Nat.{ℕ, ◌*◌, ◌<◌, ◌≤◌}
use native.Mathlib.Omega.{arith}
use lib.Bits.{bit_xor, xor_lt}
use lib.ListN.{length, get_or}
use borrow.Author.Tests.{leb-true}
use Rattle.words.specs.Names.{name, pool_limit, pool_fits}
use Rattle.words.specs.Listing.{All, front, Chain, Listing}
use Rattle.words.proofs.Laws.Names.{name-is, named}
use Rattle.links.specs.Reach.{NameOrNull, limit_power}

-- ---- the power, computed once: it is above the greatest name, and half of it is not

pub power-above : 2 * pool_limit < limit_power
unfolding pool_limit limit_power
power-above = omega arith

pub power-first : limit_power ≤ 2 * (2 * pool_limit)
unfolding pool_limit limit_power
power-first = omega arith

-- ---- names and xors

pub name-reach : (n w : ℕ) → pool_fits n ≡ true → NameOrNull n w → w ≤ 2 * pool_limit
unfolding pool_fits
name-reach n w f (inl e) = omega arith
name-reach n w f (inr e) =
    let k = named n w e in
    let l = leb-true n pool_limit f in
    omega arith

pub xor-reach : (n p q : ℕ) → pool_fits n ≡ true → NameOrNull n p → NameOrNull n q → bit_xor p q < limit_power
unfolding limit_power
xor-reach n p q f a b =
    let above = power-above in
    let i = name-reach n p f a in
    let j = name-reach n q f b in
    xor_lt 21 p q (omega arith) (omega arith)

-- ---- the words of a list

front-known : (n : ℕ) (xs : List ℕ) → All (λ x. x < n) xs → NameOrNull n (front xs 0)
front-known n [] r = inl refl
front-known n (x ∷ xs) r = inr (name-is n x r.0)

chain-reach : (n : ℕ) → pool_fits n ≡ true → (ws : List ℕ) (p : ℕ) → NameOrNull n p → (xs : List ℕ) → All (λ x. x < n) xs
    → Chain bit_xor ws p xs 0 → All (λ x. get_or ws x 0 < limit_power) xs
chain-reach n f ws p k [] r c = tt
chain-reach n f ws p k (x ∷ xs) r c = (
  rw c.0 (xor-reach n p (front xs 0) f k (front-known n xs r.1)),
  chain-reach n f ws (name x) (inr (name-is n x r.0)) xs r.1 c.1,
)

pub words-reach : (ws : List ℕ) (h t : ℕ) (xs : List ℕ) → pool_fits (length ws) ≡ true → Listing bit_xor ws h t xs
    → All (λ x. get_or ws x 0 < limit_power) xs
words-reach ws h t xs f l = chain-reach (length ws) f ws 0 (inl refl) xs l.ranged l.chain
