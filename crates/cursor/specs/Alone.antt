-- What every call has to leave alone (document 01, 'Edits'), whatever it does to the lists that it is given.
use Rattle.std.specs.Prelude.{ℕ, ◌≡◌, List, length, get_or}
use Rattle.std.specs.Int.Bits.{bit_xor}
use Rattle.words.specs.Listing.{Off, Apart, Listing}

-- From the words ws to the words ws', of a call on lists with the nodes `before` that leaves them with the nodes `after`:
-- every listing that shares no node with them is as it was, and so is the word of every node that is on neither.
pub record LeavesAlone (ws ws' before after : List ℕ) : Type 0 where
  pub others : (h t : ℕ) (ys : List ℕ) → Listing bit_xor ws h t ys → Apart ys before → Listing bit_xor ws' h t ys
  pub kept : (j : ℕ) → Off j before → Off j after → get_or ws' j 0 ≡ get_or ws j 0
  pub long : length ws' ≡ length ws
