-- A call leaves alone what it changes no word of. Assumes nothing.
use mathlib.Core.Path.{refl}
use mathlib.Core.Logic.{◌≢◌}
use mathlib.Core.List.{List}
use Prim.Native.Nat.{ℕ}
use lib.Bits.{bit_xor}
use Rattle.words.specs.Listing.{All, Off}
use Rattle.words.proofs.Laws.Nodes.{all_map}
use Rattle.words.proofs.Laws.Outside.{Outside, listing-outside}
use Rattle.cursor.specs.Alone.{LeavesAlone}

-- every node of the second sequence is on the first
abbrev pub Within : List ℕ → List ℕ → Type 1
Within xs ys = (P : ℕ → Type 0) → All P xs → All P ys

-- a call that changes no word
pub same-alone : (ws xs ys : List ℕ) → LeavesAlone ws ws xs ys
same-alone ws xs ys = record { others = λ h t vs l a. l; kept = λ j a b. refl; long = refl }

-- a call that changes no word but of the nodes that it is given
pub outside_alone : (ws ws' xs ys : List ℕ) → Outside xs ws ws' → LeavesAlone ws ws' xs ys
outside_alone ws ws' xs ys o =
    record { others = λ h t vs l a. listing-outside bit_xor xs ws ws' o h t vs a l; kept = λ j a b. o.same j a; long = o.long }

-- what is left alone for these nodes is left alone for more
pub more-alone : (ws ws' xs ys xs' ys' : List ℕ) → Within xs' xs → Within ys' ys → LeavesAlone ws ws' xs ys → LeavesAlone ws ws' xs' ys'
more-alone ws ws' xs ys xs' ys' f g k =
    record {
      others = λ h t vs l a. k.others h t vs l (all_map (λ v. Off v xs') (λ v. Off v xs) (λ v o. f (λ x. x ≢ v) o) vs a);
      kept = λ j a b. k.kept j (f (λ x. x ≢ j) a) (g (λ x. x ≢ j) b);
      long = k.long;
    }
