-- The mirror: ends exchanged, neighbours exchanged, the sequence reversed. Assumes nothing.
use mathlib.Core.Path.{◌≡◌, refl, sym, ap, subst, ◌∙◌}
use mathlib.Core.List.{List, reverse, reverse-reverse}
use Prim.Native.Nat.{ℕ}
use Rattle.words.specs.Listing.{All}
use Rattle.words.proofs.Laws.Nodes.{all-reverse}
use Rattle.words.proofs.Laws.Chain.{front-reverse, back-reverse}
use Rattle.links.proofs.Laws.XorListing.{xor-listing-reverse}
use Rattle.ends.specs.declared.Ends.{Ends}
use Rattle.ends.specs.Ends.{turned}
use Rattle.ends.proofs.Laws.Stands.{turned-at}
use Rattle.cursor.specs.declared.Cursor.{Cursor}
use Rattle.cursor.specs.Cursor.{turned_cursor}
use Rattle.cursor.specs.Plain.{Place, at, at_null, nodes, mirror, TrueAt, Sound}

pub mirror-nodes : (z : Place) → nodes (mirror z) ≡ reverse (nodes z)
mirror-nodes (at L x R) = sym (turned-at L x R)
mirror-nodes (at_null xs) = refl

pub mirror-mirror : (z : Place) → mirror (mirror z) ≡ z
mirror-mirror (at L x R) = rw (reverse-reverse L, reverse-reverse R)
mirror-mirror (at_null xs) = ap at_null (reverse-reverse xs)

-- what holds of every node holds of every node of the mirror, and back
pub all-mirror : (P : ℕ → Type 0) (z : Place) → All P (nodes z) → All P (nodes (mirror z))
all-mirror P z a = rw (mirror-nodes z) (all-reverse P (nodes z) a)

pub all-unmirror : (P : ℕ → Type 0) (z : Place) → All P (nodes (mirror z)) → All P (nodes z)
all-unmirror P z a = subst (λ (y : Place). All P (nodes y)) (mirror-mirror z) (all-mirror P (mirror z) a)

pub true-mirror : (c : Cursor) (z : Place) → TrueAt c z → TrueAt (turned_cursor c) (mirror z)
true-mirror c (at L x R) t = (t.0, t.2 ∙ sym (back-reverse 0 R), t.1 ∙ sym (front-reverse 0 L))
true-mirror c (at_null xs) t = (t.0, t.2 ∙ sym (back-reverse 0 xs), t.1 ∙ sym (front-reverse 0 xs))

pub sound-mirror : (ws : List ℕ) (e : Ends) (c : Cursor) (z : Place) → Sound ws e c z → Sound ws (turned e) (turned_cursor c) (mirror z)
sound-mirror ws e c z s =
    record {
      listing = rw (mirror-nodes z) (xor-listing-reverse ws e.head.0 e.tail.0 (nodes z) s.listing);
      place = true-mirror c z s.place;
    }

-- back again
pub sound-unmirror : (ws : List ℕ) (e : Ends) (c : Cursor) (z : Place) → Sound ws (turned e) (turned_cursor c) z → Sound ws e c (mirror z)
sound-unmirror ws e c z s = sound-mirror ws (turned e) (turned_cursor c) z s
