-- How large pools and desks may be, and how far the words of lists then reach (document 02, T-01).
use Rattle.std.specs.Prelude.{ℕ, ◌<◌, ◌≤◌, ◌≡◌, true, false, List, length, get_or}
use Rattle.std.specs.Int.Bits.{bit_xor}
use Rattle.words.specs.Names.{name, pool_fits}
use Rattle.words.specs.Listing.{All, Listing}
use Rattle.links.specs.Reach.{NameOrNull, limit_power}
use Rattle.desk.specs.Step.{Desk, desk_fits}

pub record Limits : Type 0 where
  -- a pool has 1,000,000 nodes at the most
  pub pool-fits : (n : ℕ) → n ≤ 1000000 → pool_fits n ≡ true
  pub pool-past : (n : ℕ) → 1000000 < n → pool_fits n ≡ false
  -- a desk has 4,096; one mark a node is lent, and there are 64 lists at the most
  pub desk-fits : (d : Desk) (ms : List ℕ) → length d.words ≤ 4096 → length ms ≡ length d.words → length d.lists ≤ 64 → desk_fits d ms ≡ true
  pub desk-past : (d : Desk) (ms : List ℕ) → 4096 < length d.words → desk_fits d ms ≡ false
  -- names reach 2,000,000; a xor of two names or nulls stays below one power of two, and with it each word of a list
  pub names : (n w : ℕ) → pool_fits n ≡ true → NameOrNull n w → w ≤ 2000000
  pub xors : (n p q : ℕ) → pool_fits n ≡ true → NameOrNull n p → NameOrNull n q → bit_xor p q < limit_power
  pub words : (ws : List ℕ) (h t : ℕ) (xs : List ℕ) → pool_fits (length ws) ≡ true → Listing bit_xor ws h t xs → All (λ x. get_or ws x 0 < limit_power) xs
  pub power : limit_power ≡ 2097152
  -- 2,097,150 is a word of a list: that of a node between 999,999 and 48,574
  pub reached : bit_xor (name 999999) (name 48574) ≡ 2097150
