-- What keeps to the nodes of some sequences keeps every other listing, and every other node's mark. Assumes nothing.
use mathlib.Core.Path.{◌≡◌, refl, sym, ap, ◌∙◌}
use mathlib.Core.Logic.{◌≢◌, ⊎_elim}
use mathlib.Core.Bool.{Bool, true, false, not}
use mathlib.Core.List.{List, [], ◌∷◌, ◌++◌}
use Prim.Native.Nat.{ℕ, ◌+◌, ◌%◌}
use native.Mathlib.Omega.{arith}
use lib.Dec.{eqb}
use lib.ListN.{length, get_or}
use borrow.Author.Tests.{ne_eqb, eqb-true, not-false}
use Rattle.words.specs.Names.{name, is_linked}
use Rattle.words.specs.Listing.{All, Off, Apart, front, back, Chain, Listing}
use Rattle.words.specs.Changes.{Changes}
use Rattle.words.proofs.Laws.Nodes.{all_map, all_left, all_right, holds-or-off}
use Rattle.words.proofs.Laws.Names.{name-inj, name-not-null}
use Rattle.words.proofs.Laws.Chain.{Evens, chain-even, last_of, back_last, all-last}

-- the pool is as long as it was, and no word differs but of the nodes xs
pub record Outside (xs ws ws' : List ℕ) : Type 0 where
  pub long : length ws' ≡ length ws
  pub same : (j : ℕ) → Off j xs → get_or ws' j 0 ≡ get_or ws j 0

-- w is no name but of the nodes xs
abbrev pub Covered : List ℕ → ℕ → Type 0
Covered xs w = (j : ℕ) → Off j xs → w ≢ name j

pub covered-null : (xs : List ℕ) → Covered xs 0
covered-null xs j o e = name-not-null j (sym e)

pub covered-here : (x : ℕ) (xs : List ℕ) → Covered (x ∷ xs) (name x)
covered-here x xs j o e = o.0 (name-inj x j e)

pub covered_more : (x : ℕ) (xs : List ℕ) (w : ℕ) → Covered xs w → Covered (x ∷ xs) w
covered_more x xs w k j o = k j o.1

pub covered-left : (xs ys : List ℕ) (w : ℕ) → Covered xs w → Covered (xs ++ ys) w
covered-left xs ys w k j o = k j (all_left (λ y. y ≢ j) xs ys o)

pub covered-right : (xs ys : List ℕ) (w : ℕ) → Covered ys w → Covered (xs ++ ys) w
covered-right xs ys w k j o = k j (all_right (λ y. y ≢ j) xs ys o)

pub covered-front : (xs : List ℕ) → Covered xs (front xs 0)
covered-front [] = covered-null []
covered-front (x ∷ xs) = covered-here x xs

pub covered-back : (xs : List ℕ) → Covered xs (back 0 xs)
covered-back [] j o e = covered-null [] j o e
covered-back (x ∷ xs) j o e = all-last (λ y. y ≢ j) x xs o (name-inj (last_of x xs) j (sym (back_last 0 x xs) ∙ e))

pub changes-outside : (names xs ws ws' : List ℕ) → Changes names ws ws' → All (Covered xs) names → Outside xs ws ws'
changes-outside names xs ws ws' k c =
    record { long = k.long; same = λ j o. k.same j (all_map (Covered xs) (λ w. w ≢ name j) (λ w h. h j o) names c) }

-- the frame, by nodes
pub listing-outside : (word : ℕ → ℕ → ℕ) (xs ws ws' : List ℕ) → Outside xs ws ws' → (h t : ℕ) (ys : List ℕ) → Apart ys xs
    → Listing word ws h t ys → Listing word ws' h t ys
listing-outside word xs ws ws' k h t ys a l =
    record {
      distinct = l.distinct;
      ranged = rw k.long l.ranged;
      first = l.first;
      last = l.last;
      chain = kept 0 ys a l.chain;
    }
  where
    kept : (p : ℕ) (ys : List ℕ) → Apart ys xs → Chain word ws p ys 0 → Chain word ws' p ys 0
    kept p [] a c = tt
    kept p (y ∷ ys) a c = (k.same y a.0 ∙ c.0, kept (name y) ys a.1 c.1)

-- ---- linked marks

even-linked : (v : ℕ) → v % 2 ≡ 0 → is_linked v ≡ true
unfolding is_linked
even-linked v e = ap not (ne_eqb v 1 (λ z. omega arith))

-- the nodes of a listing are linked, where a word made of even ones is even
pub listing-linked : (word : ℕ → ℕ → ℕ) → Evens word → (ws : List ℕ) (h t : ℕ) (xs : List ℕ) → Listing word ws h t xs → All (λ x. is_linked (get_or ws x 0) ≡ true) xs
listing-linked word even ws h t xs l =
    all_map (λ x. get_or ws x 0 % 2 ≡ 0) (λ x. is_linked (get_or ws x 0) ≡ true) (λ x e. even-linked (get_or ws x 0) e) xs
    (chain-even word even ws 0 xs 0 refl refl l.chain)

pub unlinked-word : (v : ℕ) → is_linked v ≡ false → v ≡ 1
unfolding is_linked
unlinked-word v h = eqb-true v 1 (not-false (eqb v 1) h)

-- marks that agree on a listing's nodes and off them agree
pub marks-agree : (ws : List ℕ) (xs : List ℕ) (marks : ℕ → Bool) → All (λ x. is_linked (get_or ws x 0) ≡ true) xs → All (λ x. marks x ≡ true) xs
    → ((j : ℕ) → Off j xs → is_linked (get_or ws j 0) ≡ marks j) → (j : ℕ) → is_linked (get_or ws j 0) ≡ marks j
marks-agree ws xs marks h k off j =
    ⊎_elim (λ a. ⊎_elim (λ b. a ∙ sym b) (off j) (holds-or-off (λ x. marks x ≡ true) xs k j)) (off j)
    (holds-or-off (λ x. is_linked (get_or ws x 0) ≡ true) xs h j)
