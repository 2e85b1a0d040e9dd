-- Clear on a listing: its nodes are unlinked, no other word changes, and the listings of other lists stay. Assumes nothing.
use mathlib.Core.Path.{◌≡◌, ap}
use mathlib.Core.Bool.{true}
use mathlib.Core.List.{List, [], ◌∷◌, map}
use Prim.Native.Nat.{ℕ}
use lib.Bits.{bit_xor}
use lib.ListN.{length, get_or}
use Rattle.words.specs.Names.{name, pool_fits}
use Rattle.words.specs.Pool.{outcome}
use Rattle.words.specs.Listing.{All, Off, Apart, Listing}
use Rattle.words.specs.Changes.{Changes}
use Rattle.words.proofs.Laws.Names.{name-inj}
use Rattle.words.proofs.Laws.Nodes.{all_map, apart-sym}
use Rattle.words.proofs.Laws.Listing.{listing-frame}
use Rattle.std.specs.Prelude.{is_err}
use Rattle.ends.specs.declared.Ends.{Ends}
use Rattle.answers.specs.Answer.{done}
use Rattle.ends.specs.Ends.{empty_ends}
use Rattle.walk.specs.Marks.{paint, unmarked, marking}
use Rattle.walk.specs.Calls.{walk_all, clear_all}
use Rattle.walk.proofs.Laws.Marks.{unmarked-clean, paint-length, paint-on, paint-off, paint-reverse}
use Rattle.walk.proofs.Laws.Walk.{listing-walk, walk-accepts}

-- ---- how much painting changes

names-off : (i : ℕ) (xs : List ℕ) → Off (name i) (map name xs) → Off i xs
names-off i [] o = tt
names-off i (x ∷ xs) o = (λ e. o.0 (ap name e), names-off i xs o.1)

off-names : (i : ℕ) (xs : List ℕ) → Off i xs → Off (name i) (map name xs)
off-names i [] o = tt
off-names i (x ∷ xs) o = (λ e. o.0 (name-inj x i e), off-names i xs o.1)

pub paint-changes : (ws : List ℕ) (v : ℕ) (xs : List ℕ) → Changes (map name xs) ws (paint ws v xs)
paint-changes ws v xs = record { long = paint-length ws v xs; same = λ i o. paint-off ws v xs i (names-off i xs o) }

-- a listing that shares no node with those painted stays
pub paint-keeps : (word : ℕ → ℕ → ℕ) (ws : List ℕ) (v : ℕ) (xs : List ℕ) (h t : ℕ) (ys : List ℕ) → Apart xs ys
    → Listing word ws h t ys → Listing word (paint ws v xs) h t ys
paint-keeps word ws v xs h t ys a l =
    listing-frame word (map name xs) ws (paint ws v xs) (paint-changes ws v xs) h t ys
    (all_map (λ y. Off y xs) (λ y. Off (name y) (map name xs)) (λ y o. off-names y xs o) ys (apart-sym xs ys a)) l

-- ---- clear

-- on a listing: each of its nodes gets the word 1, the marks are the walk's, and the list is empty
pub clear-listing : (ws ms : List ℕ) (e : Ends) (xs : List ℕ) → pool_fits (length ws) ≡ true → length ms ≡ length ws
    → Listing bit_xor ws e.head.0 e.tail.0 xs
    → clear_all ws ms e ≡ outcome (paint ws 1 xs) (marking (paint (unmarked ms) 1 xs) (record { answer = done; ends = empty_ends }))
unfolding clear_all
clear-listing ws ms e xs f n l =
    rw (walk-accepts ws ms e xs f n l, listing-walk ws (unmarked ms) e xs l (unmarked-clean ms xs), paint-reverse ws 1 xs)

-- every node of the list is unlinked
pub clear-unlinks : (ws : List ℕ) (h t : ℕ) (xs : List ℕ) → Listing bit_xor ws h t xs → All (λ x. get_or (paint ws 1 xs) x 0 ≡ 1) xs
clear-unlinks ws h t xs l = paint-on ws 1 xs l.ranged

-- no other word is changed
pub clear-leaves : (ws xs : List ℕ) (i : ℕ) → Off i xs → get_or (paint ws 1 xs) i 0 ≡ get_or ws i 0
clear-leaves ws xs i o = paint-off ws 1 xs i o

-- the listings of other lists stay
pub clear-keeps : (ws xs : List ℕ) (h t : ℕ) (ys : List ℕ) → Apart xs ys → Listing bit_xor ws h t ys → Listing bit_xor (paint ws 1 xs) h t ys
clear-keeps ws xs h t ys a l = paint-keeps bit_xor ws 1 xs h t ys a l

-- refused: no word is changed, and the ends are those given
pub clear-refuses : (ws ms : List ℕ) (e : Ends) → is_err (walk_all ws ms e).result.answer ≡ true
    → clear_all ws ms e ≡ outcome ws (marking (walk_all ws ms e).marks (record { answer = (walk_all ws ms e).result.answer; ends = e }))
unfolding clear_all
clear-refuses ws ms e r = rw r
