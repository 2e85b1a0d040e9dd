-- Split before is split after in the mirror, and so does its plain edit. Assumes nothing.
use mathlib.Core.Path.{◌≡◌, refl, ap}
use mathlib.Core.Bool.{Bool, true, false, cond}
use mathlib.Core.List.{List, [], ◌∷◌, reverse-reverse}
use Prim.Native.Nat.{ℕ}
use lib.Bits.{bit_xor}
use lib.ListN.{length}
use Rattle.words.specs.Names.{null, is_null, pool_fits}
use Rattle.words.specs.Pool.{put_at, outcome}
use Rattle.links.specs.XorOps.{set_link, replace_next_or_prev}
use Rattle.words.specs.Listing.{Listing}
use Rattle.links.proofs.Laws.Xor.{xor_comm}
use Rattle.links.proofs.Laws.XorListing.{xor-listing-reverse}
use Rattle.answers.specs.declared.Refusal.TheVariants.{NotEmpty}
use Rattle.std.specs.Prelude.{Err}
use Rattle.answers.specs.Answer.{done}
use Rattle.ends.specs.declared.Ends.{Ends}
use Rattle.ends.specs.Ends.{ends_of, empty_ends, turned}
use Rattle.cursor.specs.declared.Cursor.{Cursor}
use Rattle.cursor.specs.Cursor.{cursor_of, null_cursor, turned_cursor, edited_two, split_test}
use Rattle.cursor.specs.Plain.{Place, at, at_null, mirror, Sound}
use Rattle.cursor.proofs.Laws.Mirror.{sound-mirror}
use Rattle.cursor.proofs.Laws.Sound.{sound-pair}
use Rattle.split.specs.Splits.{cut_after, cut_before, cut_at_null, split_after, split_before}
use Rattle.splice.specs.Plain.{DoesTwo}
use Rattle.split.specs.Plain.{plain_split_after, plain_split_before}
use Rattle.splice.proofs.Laws.Common.{same-does, empty-is, some_is}
use Rattle.split.proofs.Laws.Split.{split-after-does}
use Rattle.splice.proofs.Laws.Mirror.{turned_edited_two, turned_two, does-mirror}

-- ---- the steps, for any words, ends and cursor

pub cut-mirror : (ws : List ℕ) (e : Ends) (c : Cursor) → cut_before ws e c ≡ turned_edited_two (cut_after ws (turned e) (turned_cursor c))
unfolding cut_before cut_after set_link
cut-mirror ws e c =
    let r = edited_two done (ends_of c.current e.tail) (cursor_of c.current null c.next) (ends_of (cond (is_null c.prev) null e.head) c.prev) in
    ap (λ (v : ℕ). outcome (put_at (replace_next_or_prev ws c.prev.0 c.current.0 0) c.current.0 v) r) (xor_comm 0 c.next.0)

-- ---- the call

module _ (ws : List ℕ) (e : Ends) (c : Cursor) (o : Ends) (f : pool_fits (length ws) ≡ true) where
  split_plain : (z : Place) → plain_split_before [] z ≡ turned_two (plain_split_after [] (mirror z))
  split_plain (at L x R) = rw (reverse-reverse L, reverse-reverse R)
  split_plain (at_null xs) = rw (reverse-reverse xs)

  split-full : (z : Place) (y : ℕ) (ys : List ℕ) → Sound ws e c z → Listing bit_xor ws o.head.0 o.tail.0 (y ∷ ys)
      → split_before ws e c o ≡ outcome ws (edited_two (Err NotEmpty) e c o)
  unfolding split_before split_test
  split-full z y ys s l = rw (sound-pair ws e c z o (y ∷ ys) f s l, some_is ws o y ys l)

  split-turned : (z : Place) → Sound ws e c z → Listing bit_xor ws o.head.0 o.tail.0 []
      → split_before ws e c o ≡ turned_edited_two (split_after ws (turned e) (turned_cursor c) (turned o))
  unfolding split_before split_after split_test cut_at_null
  split-turned z s l =
      let k = xor-listing-reverse ws o.head.0 o.tail.0 [] l in
      rw (sound-pair ws e c z o [] f s l, empty-is ws o l, sound-pair ws (turned e) (turned_cursor c) (mirror z) (turned o) [] f (sound-mirror ws e c z s) k, empty-is ws (turned o) k)
      (go (is_null c.current))
    where
      go : (b : Bool) → cond b (outcome ws (edited_two done empty_ends (null_cursor empty_ends) e)) (cut_before ws e c)
          ≡ turned_edited_two (cond b (outcome ws (edited_two done empty_ends (null_cursor empty_ends) (turned e))) (cut_after ws (turned e) (turned_cursor c)))
      go true = refl
      go false = cut-mirror ws e c

  pub split-before-does : (z : Place) (ys : List ℕ) → Sound ws e c z → Listing bit_xor ws o.head.0 o.tail.0 ys
      → DoesTwo ws z ys (split_before ws e c o) (plain_split_before ys z)
  split-before-does (at L x R) (y ∷ ys) s l =
      same-does ws e c (at L x R) o (y ∷ ys) s l _ _ (Err NotEmpty) (split-full (at L x R) y ys s l) refl
  split-before-does (at_null xs) (y ∷ ys) s l =
      same-does ws e c (at_null xs) o (y ∷ ys) s l _ _ (Err NotEmpty) (split-full (at_null xs) y ys s l) refl
  split-before-does z [] s l =
      rw (split-turned z s l, split_plain z)
      (does-mirror ws z [] _ _
      (split-after-does ws (turned e) (turned_cursor c) (turned o) f (mirror z) [] (sound-mirror ws e c z s) (xor-listing-reverse ws o.head.0 o.tail.0 [] l)))
