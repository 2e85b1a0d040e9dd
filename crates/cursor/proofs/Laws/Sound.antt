-- A true cursor on a listing passes every test, so that no such call is refused 4 or 5. Assumes nothing.
use mathlib.Core.Path.{◌≡◌, ◌∙◌}
use mathlib.Core.Bool.{true}
use mathlib.Core.List.{List}
use Prim.Native.Nat.{ℕ}
use lib.Bits.{bit_xor}
use lib.ListN.{length}
use Rattle.words.specs.Names.{pool_fits}
use Rattle.words.specs.Listing.{Listing}
use Rattle.answers.specs.Answer.{passed}
use Rattle.ends.specs.declared.Ends.{Ends}
use Rattle.ends.specs.Tests.{ends_test}
use Rattle.ends.proofs.Laws.Holds.{listing-ends-hold}
use Rattle.ends.proofs.Laws.Stands.{stands_at, stands-null}
use Rattle.cursor.specs.declared.Cursor.{Cursor}
use Rattle.cursor.specs.Cursor.{cursor_stands, stand_test, pair_test}
use Rattle.cursor.specs.Plain.{Place, at, at_null, nodes, Sound}

pub sound-stands : (ws : List ℕ) (e : Ends) (c : Cursor) (z : Place) → Sound ws e c z → cursor_stands ws e c ≡ true
sound-stands ws e c (at L x R) s =
    rw (s.place.0, s.place.1, s.place.2) (stands_at ws e L x R s.listing)
sound-stands ws e c (at_null xs) s =
    rw (s.place.0, s.place.1 ∙ s.listing.last, s.place.2 ∙ s.listing.first) (stands-null ws e)

pub sound-ends-test : (ws : List ℕ) (e : Ends) (xs : List ℕ) → pool_fits (length ws) ≡ true
    → Listing bit_xor ws e.head.0 e.tail.0 xs → ends_test ws e ≡ passed
unfolding ends_test
sound-ends-test ws e xs f l = rw (f, listing-ends-hold ws e xs l)

pub sound-test : (ws : List ℕ) (e : Ends) (c : Cursor) (z : Place) → pool_fits (length ws) ≡ true → Sound ws e c z
    → stand_test ws e c ≡ passed
unfolding stand_test
sound-test ws e c z f s = rw (sound-ends-test ws e (nodes z) f s.listing, sound-stands ws e c z s)

pub sound-pair : (ws : List ℕ) (e : Ends) (c : Cursor) (z : Place) (o : Ends) (ys : List ℕ) → pool_fits (length ws) ≡ true
    → Sound ws e c z → Listing bit_xor ws o.head.0 o.tail.0 ys → pair_test ws e c o ≡ passed
unfolding pair_test
sound-pair ws e c z o ys f s l =
    rw (sound-ends-test ws e (nodes z) f s.listing, listing-ends-hold ws o ys l, sound-stands ws e c z s)
