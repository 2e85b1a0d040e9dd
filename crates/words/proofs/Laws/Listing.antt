-- Laws of listings: they are parts between nulls; there is one at most; their reverse; what keeps them. Assumes nothing.
use mathlib.Core.Path.{◌≡◌, refl, sym, ap, ◌∙◌}
use mathlib.Core.Logic.{◌≢◌}
use mathlib.Core.List.{List, reverse}
use Prim.Native.Nat.{ℕ, ◌%◌}
use native.Mathlib.Omega.{arith}
use lib.ListN.{get_or}
use Rattle.words.specs.Names.{name}
use Rattle.words.specs.Listing.{All, Off, front, back, Listing}
use Rattle.words.specs.Changes.{Changes}
use Rattle.words.proofs.Laws.Nodes.{all_map}
use Rattle.words.proofs.Laws.Chain.{Settles, Symmetric, Evens, chain-unique, chain-even, front-reverse, back-reverse}
use Rattle.words.proofs.Laws.Part.{Part, part-frame, part-reverse}

module _ (word : ℕ → ℕ → ℕ) where
  -- a listing is a part between nulls, and such a part is the listing of its own ends
  pub listing-part : (ws : List ℕ) (h t : ℕ) (xs : List ℕ) → Listing word ws h t xs → Part word ws 0 xs 0
  listing-part ws h t xs l = record { distinct = l.distinct; ranged = l.ranged; chain = l.chain }

  pub part-listing : (ws : List ℕ) (xs : List ℕ) → Part word ws 0 xs 0 → Listing word ws (front xs 0) (back 0 xs) xs
  part-listing ws xs h =
      record { distinct = h.distinct; ranged = h.ranged; first = refl; last = refl; chain = h.chain }

  -- the same listing, of words, ends and nodes that are the same
  pub listing-as : (ws ws' : List ℕ) (h h' t t' : ℕ) (xs xs' : List ℕ) → ws ≡ ws' → h ≡ h' → t ≡ t' → xs ≡ xs'
      → Listing word ws h t xs → Listing word ws' h' t' xs'
  listing-as ws ws' h h' t t' xs xs' a b c d l = rw (← a, ← b, ← c, ← d) l

  -- the words and the head settle the listing and the tail
  pub listing-unique : Settles word → (ws : List ℕ) (h t t' : ℕ) (xs ys : List ℕ) → Listing word ws h t xs → Listing word ws h t' ys
      → (xs ≡ ys) × (t ≡ t')
  listing-unique far ws h t t' xs ys l m =
      let e = chain-unique word far ws 0 xs ys l.chain m.chain (l.first ∙ sym m.first) in
      (e, sym l.last ∙ ap (back 0) e ∙ m.last)

  -- with the ends exchanged, the listing is the reverse
  pub listing-mirror : Symmetric word → (ws : List ℕ) (h t : ℕ) (xs : List ℕ) → Listing word ws h t xs → Listing word ws t h (reverse xs)
  listing-mirror comm ws h t xs l =
      let r = part-reverse word comm ws 0 xs 0 (listing-part ws h t xs l) in
      record {
        distinct = r.distinct;
        ranged = r.ranged;
        first = front-reverse 0 xs ∙ l.last;
        last = back-reverse 0 xs ∙ l.first;
        chain = r.chain;
      }

  -- what changes elsewhere keeps the listing
  pub listing-frame : (ns ws ws' : List ℕ) → Changes ns ws ws' → (h t : ℕ) (xs : List ℕ) → All (λ x. Off (name x) ns) xs
      → Listing word ws h t xs → Listing word ws' h t xs
  listing-frame ns ws ws' k h t xs o l =
      let r = part-frame word ns ws ws' k 0 xs 0 o (listing-part ws h t xs l) in
      record { distinct = r.distinct; ranged = r.ranged; first = l.first; last = l.last; chain = r.chain }

  -- an unlinked node is on no listing
  pub unlinked-off : Evens word → (ws : List ℕ) (h t : ℕ) (xs : List ℕ) (i : ℕ) → Listing word ws h t xs → get_or ws i 0 ≡ 1 → Off i xs
  unlinked-off even ws h t xs i l u =
      all_map (λ x. get_or ws x 0 % 2 ≡ 0) (λ x. x ≢ i) odd xs (chain-even word even ws 0 xs 0 refl refl l.chain)
    where
      odd : (x : ℕ) → get_or ws x 0 % 2 ≡ 0 → x ≡ i → ⊥
      odd x ev e = let v : get_or ws x 0 ≡ 1 = ap (λ (j : ℕ). get_or ws j 0) e ∙ u in omega arith
