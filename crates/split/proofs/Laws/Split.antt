-- Split after does its plain edit. Assumes nothing.
use mathlib.Core.Path.{◌≡◌, refl, sym, ◌∙◌}
use mathlib.Core.Bool.{true, false, cond}
use mathlib.Core.List.{List, [], ◌∷◌, ◌++◌, append_assoc, append-nil}
use Prim.Native.Nat.{ℕ}
use lib.Bits.{bit_xor}
use lib.ListN.{length, get_or}
use Rattle.words.specs.declared.names.Name.{Name}
use Rattle.words.specs.Names.{name, null, is_null, is_linked, pool_fits}
use Rattle.words.specs.Pool.{outcome}
use Rattle.words.specs.Listing.{All, front, back, Listing}
use Rattle.words.proofs.Laws.Nodes.{all_append}
use Rattle.words.proofs.Laws.Chain.{front-append, back-append}
use Rattle.words.proofs.Laws.Listing.{listing-as}
use Rattle.words.proofs.Laws.Outside.{Outside, covered-here, covered_more, covered-right, covered-front, changes-outside}
use Rattle.links.proofs.Laws.XorListing.{xor-listing-linked}
use Rattle.links.proofs.Laws.Cuts.{cut_off, cut-stays, cut-goes, cut-changes}
use Rattle.answers.specs.declared.Refusal.TheVariants.{NotEmpty}
use Rattle.std.specs.Prelude.{Err}
use Rattle.answers.specs.Answer.{done}
use Rattle.ends.specs.declared.Ends.{Ends}
use Rattle.ends.specs.Ends.{empty_ends}
use Rattle.ends.proofs.Laws.Holds.{name-null}
use Rattle.cursor.specs.declared.Cursor.{Cursor}
use Rattle.cursor.specs.Cursor.{null_cursor, edited_two, split_test}
use Rattle.cursor.specs.Plain.{Place, at, at_null, Sound}
use Rattle.cursor.proofs.Laws.Alone.{same-alone, outside_alone}
use Rattle.cursor.proofs.Laws.Sound.{sound-pair}
use Rattle.split.specs.Splits.{cut_after, cut_at_null, split_after}
use Rattle.split.specs.Plain.{plain_split_after}
use Rattle.splice.specs.Plain.{DoesTwo}
use Rattle.splice.proofs.Laws.Common.{same-does, marks_stay, empty-is, some_is}

-- ---- at a node

-- the tail of what moves out
tail-out : (x : ℕ) (R : List ℕ) (next tail : Name) → next.0 ≡ front R 0 → tail.0 ≡ back (name x) R → (cond (is_null next) null tail).0 ≡ back 0 R
tail-out x [] next tail n t = rw n
tail-out x (y ∷ R) next tail n t = rw (n, name-null y) t

module _ (ws : List ℕ) (e : Ends) (c : Cursor) (L : List ℕ) (x : ℕ) (R : List ℕ) (s : Sound ws e c (at L x R)) where
  cut-words : (cut_after ws e c).words ≡ cut_off ws (name x) (back 0 L) (front R 0)
  unfolding cut_after cut_off
  cut-words = rw (s.place.0, s.place.1, s.place.2)

  cut-sound : Sound (cut_after ws e c).words (cut_after ws e c).result.ends (cut_after ws e c).result.cursor (at L x [])
  unfolding cut_after
  cut-sound =
      record {
        listing =
            listing-as bit_xor _ _ _ _ _ _ _ _ (sym cut-words) (front-append L (x ∷ []) 0 ∙ sym (front-append L (x ∷ R) 0) ∙ s.listing.first)
            (back-append 0 L (x ∷ []) ∙ sym s.place.0) refl (cut-stays ws e.head.0 e.tail.0 L x R s.listing);
        place = (s.place.0, s.place.1, refl);
      }

  cut-other : Listing bit_xor (cut_after ws e c).words (cut_after ws e c).result.other.head.0 (cut_after ws e c).result.other.tail.0 R
  unfolding cut_after
  cut-other =
      listing-as bit_xor _ _ _ _ _ _ _ _ (sym cut-words) (sym s.place.2)
      (sym (tail-out x R c.next e.tail s.place.2 (sym s.listing.last ∙ back-append 0 L (x ∷ R)))) refl
      (cut-goes ws e.head.0 e.tail.0 L x R s.listing)

  cut-outside : Outside (L ++ x ∷ R) ws (cut_after ws e c).words
  cut-outside =
      rw cut-words
      (changes-outside (front R 0 ∷ name x ∷ []) (L ++ x ∷ R) ws _ (cut-changes ws (name x) (back 0 L) (front R 0)) (
        covered-right L (x ∷ R) (front R 0) (covered_more x R (front R 0) (covered-front R)),
        (covered-right L (x ∷ R) (name x) (covered-here x R), tt),
      ))

  cut-done : (cut_after ws e c).result.answer ≡ done
  unfolding cut_after
  cut-done = refl

  cut-linked : All (λ y. is_linked (get_or (cut_after ws e c).words y 0) ≡ true) (L ++ x ∷ R)
  cut-linked =
      rw (← (append_assoc L (x ∷ []) R))
      (all_append (λ y. is_linked (get_or (cut_after ws e c).words y 0) ≡ true) (L ++ x ∷ []) R
      (xor-listing-linked _ _ _ (L ++ x ∷ []) cut-sound.listing) (xor-listing-linked _ _ _ R cut-other))

-- ---- the call

module _ (ws : List ℕ) (e : Ends) (c : Cursor) (o : Ends) (f : pool_fits (length ws) ≡ true) where
  call-full : (z : Place) (y : ℕ) (ys : List ℕ) → Sound ws e c z → Listing bit_xor ws o.head.0 o.tail.0 (y ∷ ys)
      → split_after ws e c o ≡ outcome ws (edited_two (Err NotEmpty) e c o)
  unfolding split_after split_test
  call-full z y ys s l = rw (sound-pair ws e c z o (y ∷ ys) f s l, some_is ws o y ys l)

  call-node : (L : List ℕ) (x : ℕ) (R : List ℕ) → Sound ws e c (at L x R) → Listing bit_xor ws o.head.0 o.tail.0 []
      → split_after ws e c o ≡ cut_after ws e c
  unfolding split_after split_test
  call-node L x R s l =
      let n : is_null c.current ≡ false = rw s.place.0 (name-null x) in
      rw (sound-pair ws e c (at L x R) o [] f s l, empty-is ws o l, n)

  call-null : (xs : List ℕ) → Sound ws e c (at_null xs) → Listing bit_xor ws o.head.0 o.tail.0 []
      → split_after ws e c o ≡ outcome ws (edited_two done empty_ends (null_cursor empty_ends) e)
  unfolding split_after split_test cut_at_null
  call-null xs s l =
      let n : is_null c.current ≡ true = rw s.place.0 in rw (sound-pair ws e c (at_null xs) o [] f s l, empty-is ws o l, n)

  nothing : Listing bit_xor ws 0 0 []
  nothing = record { distinct = tt; ranged = tt; first = refl; last = refl; chain = tt }

  pub split-after-does : (z : Place) (ys : List ℕ) → Sound ws e c z → Listing bit_xor ws o.head.0 o.tail.0 ys
      → DoesTwo ws z ys (split_after ws e c o) (plain_split_after ys z)
  split-after-does (at L x R) (y ∷ ys) s l =
      same-does ws e c (at L x R) o (y ∷ ys) s l _ _ (Err NotEmpty) (call-full (at L x R) y ys s l) refl
  split-after-does (at_null xs) (y ∷ ys) s l =
      same-does ws e c (at_null xs) o (y ∷ ys) s l _ _ (Err NotEmpty) (call-full (at_null xs) y ys s l) refl
  split-after-does (at L x R) [] s l =
      let out = cut-outside ws e c L x R s in
      rw (call-node L x R s l)
      (record {
        answer = cut-done ws e c L x R s;
        sound = cut-sound ws e c L x R s;
        other = cut-other ws e c L x R s;
        marks =
            marks_stay ws (cut_after ws e c).words (L ++ x ∷ R) out (xor-listing-linked ws _ _ (L ++ x ∷ R) s.listing) (cut-linked ws e c L x R s);
        alone = rw (append-nil (L ++ x ∷ R)) (outside_alone ws _ (L ++ x ∷ R) _ out);
      })
  split-after-does (at_null xs) [] s l =
      rw (call-null xs s l)
      (record {
        answer = refl;
        sound = record { listing = nothing; place = (refl, refl, refl) };
        other = s.listing;
        marks = λ j. refl;
        alone = same-alone ws _ _;
      })
