-- Which list a refused audit names (document 01, 'Walk and audit'), said of the lists and not of the walks that find it.
use Rattle.std.specs.Prelude.{ℕ, ◌≡◌, false, List, [], ◌∷◌, ◌++◌, length, Err}
use Rattle.std.specs.Int.Bits.{bit_xor}
use Rattle.words.specs.Listing.{Apart, Listing}
use Rattle.words.specs.Afresh.{joined}
use Rattle.answers.specs.declared.Refusal.TheVariants.{EndsDoNotHold, NoListing}
use Rattle.ends.specs.declared.Ends.{Ends}
use Rattle.ends.specs.Tests.{ends_hold}
use Rattle.audit.specs.Listed.{AllHold, Listed, AllApart}
use Rattle.table.specs.Calls.{audit, calls}

-- List k is the lowest whose ends do not hold.
pub record Unheld (ws : List ℕ) (es : List Ends) (k : ℕ) : Type 0 where
  pub lower : List Ends
  pub this : Ends
  pub beyond : List Ends
  pub parts : es ≡ lower ++ this ∷ beyond
  pub number : length lower ≡ k
  pub hold : AllHold ws lower
  pub fails : ends_hold ws this ≡ false

-- List k is the lowest that has no listing or shares a node with a lower one: the lower ones have listings that share no node,
-- and it has none that shares no node with those.
pub record Unlisted (ws : List ℕ) (es : List Ends) (k : ℕ) : Type 0 where
  pub lower : List Ends
  pub this : Ends
  pub beyond : List Ends
  pub parts : es ≡ lower ++ this ∷ beyond
  pub number : length lower ≡ k
  pub nodes : List (List ℕ)
  pub listed : Listed ws lower nodes
  pub apart : AllApart nodes
  pub fails : (xs : List ℕ) → Listing bit_xor ws this.head.0 this.tail.0 xs → Apart xs (joined nodes) → ⊥

-- A refused audit names that list, and its other numbers are 0.
pub record Names (ws ms : List ℕ) (es : List Ends) : Type 0 where
  pub under-4 : (calls ws ms (audit es)).answer ≡ Err EndsDoNotHold
      → (k : ℕ) × ((calls ws ms (audit es)).numbers ≡ k ∷ 0 ∷ 0 ∷ []) × Unheld ws es k
  pub under-10 : (calls ws ms (audit es)).answer ≡ Err NoListing
      → (k : ℕ) × ((calls ws ms (audit es)).numbers ≡ k ∷ 0 ∷ 0 ∷ []) × Unlisted ws es k
