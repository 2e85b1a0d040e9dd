-- Splice before is splice after in the mirror, and so does its plain edit. Assumes nothing.
use mathlib.Core.Path.{◌≡◌}
use mathlib.Core.Logic.{◌≢◌}
use mathlib.Core.Bool.{Bool, true, false, cond}
use mathlib.Core.List.{List, [], ◌∷◌, ◌++◌, reverse, reverse-append, reverse-reverse, append-nil}
use Prim.Native.Nat.{ℕ}
use lib.Bits.{bit_xor}
use lib.Dec.{eqb}
use lib.ListN.{length}
use Rattle.words.specs.Names.{is_null, pool_fits}
use Rattle.words.specs.Pool.{Outcome, outcome}
use Rattle.words.specs.Listing.{All, Apart, Off, Listing}
use Rattle.words.proofs.Laws.Nodes.{all_map, all_append, all_left, all_right, all-reverse}
use Rattle.words.proofs.Laws.Chain.{back_last, last_of}
use Rattle.links.proofs.Laws.Between.{splice-mirror}
use Rattle.links.proofs.Laws.XorListing.{xor-listing-reverse}
use Rattle.answers.specs.Answer.{done}
use Rattle.ends.specs.declared.Ends.{Ends}
use Rattle.ends.specs.Ends.{ends_of, empty_ends, is_empty, turned}
use Rattle.ends.proofs.Laws.Holds.{name-null}
use Rattle.cursor.specs.declared.Cursor.{Cursor}
use Rattle.cursor.specs.declared.EditedTwo.{EditedTwo}
use Rattle.cursor.specs.Cursor.{cursor_of, null_cursor, turned_cursor, edited_two}
use Rattle.cursor.specs.Plain.{Place, at, at_null, nodes, mirror, Sound}
use Rattle.cursor.proofs.Laws.Alone.{more-alone}
use Rattle.cursor.proofs.Laws.Mirror.{mirror-nodes, mirror-mirror, all-mirror, sound-mirror}
use Rattle.cursor.proofs.Laws.Sound.{sound-pair}
use Rattle.splice.specs.Splices.{spliced_after, spliced_before, splice_after, splice_before}
use Rattle.splice.specs.Plain.{PlainTwo, two, plain_splice_after, plain_splice_before, DoesTwo}
use Rattle.splice.proofs.Laws.Common.{same-does, empty-is, some_is}
use Rattle.splice.proofs.Laws.Splice.{splice-after-does}

-- what a call leaves, seen from the other side
abbrev pub turned_edited_two : Outcome EditedTwo → Outcome EditedTwo
turned_edited_two o =
    outcome o.words (edited_two o.result.answer (turned o.result.ends) (turned_cursor o.result.cursor) (turned o.result.other))

abbrev pub turned_two : PlainTwo → PlainTwo
turned_two d = two d.answer (mirror d.place) (reverse d.other)

-- ---- the steps, for any words, ends and cursor

pub spliced-mirror : (ws : List ℕ) (e : Ends) (c : Cursor) (o : Ends)
    → spliced_before ws e c o ≡ turned_edited_two (spliced_after ws (turned e) (turned_cursor c) (turned o))
unfolding spliced_before spliced_after
spliced-mirror ws e c o = go (is_null c.current) (splice-mirror ws o.head.0 o.tail.0 c.prev.0 c.current.0)
  where
    go : (b : Bool) {w w' : List ℕ} → w ≡ w'
        → outcome w (cond b (edited_two done (ends_of (cond (eqb e.head.0 c.current.0) o.head e.head) o.tail)
        (null_cursor (ends_of (cond (eqb e.head.0 c.current.0) o.head e.head) o.tail)) empty_ends)
        (edited_two done (ends_of (cond (eqb e.head.0 c.current.0) o.head e.head) e.tail) (cursor_of c.current o.tail c.next) empty_ends))
        ≡ turned_edited_two (outcome w' (cond b (edited_two done (ends_of o.tail (cond (eqb e.head.0 c.current.0) o.head e.head))
        (null_cursor (ends_of o.tail (cond (eqb e.head.0 c.current.0) o.head e.head))) empty_ends)
        (edited_two done (ends_of e.tail (cond (eqb e.head.0 c.current.0) o.head e.head)) (cursor_of c.current c.next o.tail) empty_ends)))
    go true p = rw p
    go false p = rw p

-- ---- a promise kept in the mirror is kept

pub apart-turned : (vs xs : List ℕ) → Apart vs xs → Apart vs (reverse xs)
apart-turned vs xs a = all_map (λ v. Off v xs) (λ v. Off v (reverse xs)) (λ v h. all-reverse (λ x. x ≢ v) xs h) vs a

-- what holds of every node of two sequences holds of those of the reverses, and back
all-turned : (P : ℕ → Type 0) (z : Place) (ys : List ℕ) → All P (nodes z ++ ys) → All P (nodes (mirror z) ++ reverse ys)
all-turned P z ys a =
    all_append P (nodes (mirror z)) (reverse ys) (all-mirror P z (all_left P (nodes z) ys a)) (all-reverse P ys (all_right P (nodes z) ys a))

all-unturned : (P : ℕ → Type 0) (z : Place) (ys : List ℕ) → All P (nodes (mirror z) ++ reverse ys) → All P (nodes z ++ ys)
all-unturned P z ys a =
    rw (mirror-mirror z, reverse-reverse ys) at (all-turned P (mirror z) (reverse ys) a)

pub does-mirror : (ws : List ℕ) (z : Place) (ys : List ℕ) (o : Outcome EditedTwo) (d : PlainTwo) → DoesTwo ws (mirror z) (reverse ys) o d
    → DoesTwo ws z ys (turned_edited_two o) (turned_two d)
does-mirror ws z ys o d k =
    record {
      answer = k.answer;
      sound = sound-mirror o.words o.result.ends o.result.cursor d.place k.sound;
      other = xor-listing-reverse o.words o.result.other.head.0 o.result.other.tail.0 d.other k.other;
      marks = k.marks;
      alone =
          more-alone ws o.words (nodes (mirror z) ++ reverse ys) (nodes d.place ++ d.other) (nodes z ++ ys)
          (nodes (mirror d.place) ++ reverse d.other) (λ P. all-turned P z ys) (λ P. all-unturned P d.place d.other) k.alone;
    }

-- ---- the call

module _ (ws : List ℕ) (e : Ends) (c : Cursor) (o : Ends) (f : pool_fits (length ws) ≡ true) where
  splice-plain : (z : Place) (ys : List ℕ) → plain_splice_before ys z ≡ turned_two (plain_splice_after (reverse ys) (mirror z))
  splice-plain (at L x R) ys =
      rw (reverse-append (reverse ys) (reverse L), reverse-reverse ys, reverse-reverse L, reverse-reverse R)
  splice-plain (at_null xs) ys = rw (reverse-append (reverse ys) (reverse xs), reverse-reverse ys, reverse-reverse xs)

  before-some : (z : Place) (y : ℕ) (ys : List ℕ) → Sound ws e c z → Listing bit_xor ws o.head.0 o.tail.0 (y ∷ ys)
      → splice_before ws e c o ≡ spliced_before ws e c o
  unfolding splice_before
  before-some z y ys s l = rw (sound-pair ws e c z o (y ∷ ys) f s l, some_is ws o y ys l)

  before-none : (z : Place) → Sound ws e c z → Listing bit_xor ws o.head.0 o.tail.0 [] → splice_before ws e c o ≡ outcome ws (edited_two done e c o)
  unfolding splice_before
  before-none z s l = rw (sound-pair ws e c z o [] f s l, empty-is ws o l)

  after-some : (z : Place) (ys : List ℕ) → Sound ws (turned e) (turned_cursor c) z → Listing bit_xor ws o.tail.0 o.head.0 ys → is_empty (turned o) ≡ false
      → splice_after ws (turned e) (turned_cursor c) (turned o) ≡ spliced_after ws (turned e) (turned_cursor c) (turned o)
  unfolding splice_after
  after-some z ys s l n = rw (sound-pair ws (turned e) (turned_cursor c) z (turned o) ys f s l, n)

  pub splice-before-does : (z : Place) (ys : List ℕ) → Sound ws e c z → Listing bit_xor ws o.head.0 o.tail.0 ys → Apart (nodes z) ys
      → DoesTwo ws z ys (splice_before ws e c o) (plain_splice_before ys z)
  splice-before-does (at L x R) [] s l a =
      same-does ws e c (at L x R) o [] s l _ _ done (before-none (at L x R) s l) (rw (append-nil L))
  splice-before-does (at_null xs) [] s l a =
      same-does ws e c (at_null xs) o [] s l _ _ done (before-none (at_null xs) s l) (rw (append-nil xs))
  splice-before-does z (y ∷ ys) s l a =
      let m = sound-mirror ws e c z s in
      let k = xor-listing-reverse ws o.head.0 o.tail.0 (y ∷ ys) l in
      let n : is_empty (turned o) ≡ false = rw (← l.last, back_last 0 y ys) (name-null (last_of y ys)) in
      let a' : Apart (nodes (mirror z)) (reverse (y ∷ ys)) =
      rw (mirror-nodes z) (apart-turned (reverse (nodes z)) (y ∷ ys) (all-reverse (λ x. Off x (y ∷ ys)) (nodes z) a)) in
      rw (before-some z y ys s l, spliced-mirror ws e c o, splice-plain z (y ∷ ys), ← (after-some (mirror z) (reverse (y ∷ ys)) m k n))
      (does-mirror ws z (y ∷ ys) _ _ (splice-after-does ws (turned e) (turned_cursor c) (turned o) f (mirror z) (reverse (y ∷ ys)) m k a'))
