-- The nine chains come out as document 01 says, by computation; the cursor that stands there is at no place. Assumes nothing.
use mathlib.Core.Path.{◌≡◌, refl, ap}
use mathlib.Core.Bool.{true}
use mathlib.Core.List.{List, [], ◌∷◌, ◌++◌, map}
use Prim.Native.Nat.{ℕ}
use native.Mathlib.Omega.{arith}
use lib.Bits.{bit_xor}
use lib.Dec.{lit<}
use lib.ListN.{length, get_or, length-append}
use Rattle.words.specs.Names.{name, pool_limit, pool_fits, is_name, is_linked, naming, decoding}
use Rattle.words.specs.Pool.{word_at, put_at}
use Rattle.links.specs.XorOps.{next_of}
use Rattle.words.specs.LinkOps.{linked_at, acquire_link}
use Rattle.words.specs.Listing.{back, Listing}
use Rattle.links.proofs.Laws.XorListing.{xor-listing-unique}
use Rattle.ends.specs.Tests.{link_with, ends_hold, side_holds, ends_test}
use Rattle.ends.specs.Tests
use Rattle.cursor.specs.Cursor.{stand_test, node_test, some_test, acquire_node}
use Rattle.cursor.specs.Plain.{Place, at, at_null, Sound}
use Rattle.remove.specs.Removes.{replace, replaced}
use Rattle.walk.specs.Marks.{is_marked, paint, sizes_fit}
use Rattle.walk.specs.Walk.{is_free, walk_from, at_tail, walk_of}
use Rattle.walk.specs.Calls.{verdict, walk_all}
use Rattle.promises.specs.Nine.{Try, Comes, tried, nine, expected, ends, cursor, seven_words, false_words, way, way_from, way_of, AllNine}

table : map {A = Try} {B = Comes} tried nine ≡ expected
unfolding pool_limit pool_fits is_name is_linked naming decoding word_at put_at next_of linked_at acquire_link link_with ends_hold side_holds ends_test Rattle.ends.specs.Tests.stands stand_test node_test some_test acquire_node replace replaced is_marked paint sizes_fit is_free walk_from at_tail walk_of verdict walk_all
table = refl

seven-way : way_of seven_words (ends 2 14) ≡ way (0 ∷ 4 ∷ 1 ∷ 3 ∷ 4 ∷ 6 ∷ []) true
unfolding is_name word_at next_of way_from
seven-way = refl

-- ---- the cursor that stands there is at no place of the listing

listing : Listing bit_xor false_words 2 4 (0 ∷ 4 ∷ 1 ∷ [])
listing =
    record {
      distinct = ((λ e. omega arith, (λ e. omega arith, tt)), ((λ e. omega arith, tt), (tt, tt)));
      ranged = (lit< tt, (lit< tt, (lit< tt, tt)));
      first = refl;
      last = refl;
      chain = (refl, (refl, (refl, tt)));
    }

nowhere : (L : List ℕ) (x : ℕ) (R : List ℕ) → L ++ x ∷ R ≡ 0 ∷ 4 ∷ 1 ∷ [] → 10 ≡ name x → 8 ≡ back 0 L → ⊥
nowhere [] x R e c p = omega arith
nowhere (a ∷ []) x R e c p = let h : a ≡ 0 = ap (λ (l : List ℕ). get_or l 0 0) e in omega arith
nowhere (a ∷ b ∷ []) x R e c p = let h : x ≡ 1 = ap (λ (l : List ℕ). get_or l 2 0) e in omega arith
nowhere (a ∷ b ∷ d ∷ L) x R e c p =
    let h : length (a ∷ b ∷ d ∷ (L ++ x ∷ R)) ≡ 3 = ap length e in
    let k = length-append L (x ∷ R) in
    omega arith

-- the words have a listing, and the cursor is true at no place of it
pub false-cursor : (z : Place) → Sound false_words (ends 2 4) (cursor 10 8 14) z → ⊥
false-cursor (at L x R) s =
    nowhere L x R (xor-listing-unique false_words 2 4 4 (L ++ x ∷ R) (0 ∷ 4 ∷ 1 ∷ []) s.listing listing).0 s.place.0 s.place.1
false-cursor (at_null xs) s = let h = s.place.0 in omega arith

-- ---- all of it

pub all-nine : AllNine
all-nine =
    record {
      table = table;
      three-list =
          record {
            distinct = ((λ e. omega arith, (λ e. omega arith, tt)), ((λ e. omega arith, tt), (tt, tt)));
            ranged = (lit< tt, (lit< tt, (lit< tt, tt)));
            first = refl;
            last = refl;
            chain = (refl, (refl, (refl, tt)));
          };
      three_back =
          record {
            distinct = ((λ e. omega arith, (λ e. omega arith, tt)), ((λ e. omega arith, tt), (tt, tt)));
            ranged = (lit< tt, (lit< tt, (lit< tt, tt)));
            first = refl;
            last = refl;
            chain = (refl, (refl, (refl, tt)));
          };
      seven-way = seven-way;
      false-list = listing;
      false-cursor = false-cursor;
    }
