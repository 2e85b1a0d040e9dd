-- The listings of xor lists: there is one at most, its reverse is the listing of the exchanged ends, and its nodes are linked.
-- Assumes nothing.
use mathlib.Core.Path.{◌≡◌}
use mathlib.Core.List.{List, reverse}
use Prim.Native.Nat.{ℕ}
use mathlib.Core.Bool.{true}
use lib.Bits.{bit_xor}
use lib.ListN.{get_or}
use Rattle.words.specs.Names.{is_linked}
use Rattle.words.specs.Listing.{All, Off, Listing}
use Rattle.links.proofs.Laws.Xor.{xor_comm, xor-even, xor-inj-l}
use Rattle.words.proofs.Laws.Listing.{listing-unique, listing-mirror, unlinked-off}
use Rattle.words.proofs.Laws.Outside.{listing-linked}

pub xor-listing-unique : (ws : List ℕ) (h t t' : ℕ) (xs ys : List ℕ) → Listing bit_xor ws h t xs → Listing bit_xor ws h t' ys → (xs ≡ ys) × (t ≡ t')
xor-listing-unique = listing-unique bit_xor xor-inj-l

pub xor-listing-reverse : (ws : List ℕ) (h t : ℕ) (xs : List ℕ) → Listing bit_xor ws h t xs → Listing bit_xor ws t h (reverse xs)
xor-listing-reverse = listing-mirror bit_xor xor_comm

pub xor-unlinked-off : (ws : List ℕ) (h t : ℕ) (xs : List ℕ) (i : ℕ) → Listing bit_xor ws h t xs → get_or ws i 0 ≡ 1 → Off i xs
xor-unlinked-off = unlinked-off bit_xor xor-even

pub xor-listing-linked : (ws : List ℕ) (h t : ℕ) (xs : List ℕ) → Listing bit_xor ws h t xs → All (λ x. is_linked (get_or ws x 0) ≡ true) xs
xor-listing-linked = listing-linked bit_xor xor-even
