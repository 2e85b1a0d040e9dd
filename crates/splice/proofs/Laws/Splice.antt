-- Splice after does its plain edit. Assumes nothing.
use mathlib.Core.Path.{◌≡◌, refl, sym, ap, ◌∙◌}
use mathlib.Core.Bool.{true, false, cond}
use mathlib.Core.List.{List, [], ◌∷◌, ◌++◌, append_assoc}
use Prim.Native.Nat.{ℕ}
use lib.Bits.{bit_xor}
use lib.Dec.{eqb}
use lib.ListN.{length, get_or}
use Rattle.words.specs.Names.{name, is_null, is_linked, pool_fits}
use Rattle.words.specs.Pool.{outcome}
use Rattle.links.specs.XorOps.{splice_between}
use Rattle.words.specs.Listing.{All, Apart, front, back, Listing}
use Rattle.words.proofs.Laws.Nodes.{all_append, all_left, all_right}
use Rattle.words.proofs.Laws.Chain.{front-append, back-append}
use Rattle.words.proofs.Laws.Listing.{listing-as}
use Rattle.words.proofs.Laws.Outside.{Outside, covered-null, covered-here, covered_more, covered-left, covered-right, covered-front, covered-back, changes-outside}
use Rattle.links.proofs.Laws.XorListing.{xor-listing-linked}
use Rattle.links.proofs.Laws.Between.{spliced, splice-changes}
use Rattle.links.proofs.Laws.Cuts.{sides}
use Rattle.answers.specs.Answer.{done}
use Rattle.ends.specs.declared.Ends.{Ends}
use Rattle.ends.specs.Ends.{ends_of, empty_ends}
use Rattle.ends.proofs.Laws.Holds.{name-null}
use Rattle.cursor.specs.declared.Cursor.{Cursor}
use Rattle.cursor.specs.Cursor.{cursor_of, null_cursor, edited_two}
use Rattle.cursor.specs.Plain.{Place, at, at_null, nodes, Sound}
use Rattle.cursor.proofs.Laws.Alone.{outside_alone}
use Rattle.cursor.proofs.Laws.Sound.{sound-pair}
use Rattle.cursor.proofs.Laws.Swap.{tail-swap, tail-null}
use Rattle.splice.specs.Splices.{spliced_after, splice_after}
use Rattle.splice.specs.Plain.{plain_splice_after, DoesTwo}
use Rattle.splice.proofs.Laws.Common.{same-does, marks_stay, empty-is, some_is}

-- ---- the steps, for a list that is not empty

module _ (ws : List ℕ) (e : Ends) (c : Cursor) (o : Ends) (y : ℕ) (ys : List ℕ) (l : Listing bit_xor ws o.head.0 o.tail.0 (y ∷ ys)) where
  -- its tail is the last of it, whatever is named before it
  tail-is : (p : ℕ) → back p (y ∷ ys) ≡ o.tail.0
  tail-is p = l.last

  -- what is left, at a node
  module _ (L : List ℕ) (x : ℕ) (R : List ℕ) (s : Sound ws e c (at L x R)) where
    node-is : spliced_after ws e c o
        ≡ outcome (splice_between ws o.head.0 o.tail.0 c.current.0 c.next.0)
        (edited_two done (ends_of e.head (cond (eqb e.tail.0 c.current.0) o.tail e.tail)) (cursor_of c.current c.prev o.head) empty_ends)
    unfolding spliced_after
    node-is = let n : is_null c.current ≡ false = rw s.place.0 (name-null x) in rw n

    node-sound : Apart (L ++ x ∷ R) (y ∷ ys)
        → Sound (spliced_after ws e c o).words (spliced_after ws e c o).result.ends (spliced_after ws e c o).result.cursor (at L x ((y ∷ ys) ++ R))
    node-sound a =
        let h = e.head.0 in
        let t = e.tail.0 in
        let aa = append_assoc L (x ∷ []) R in
        let bk : back 0 (L ++ x ∷ []) ≡ name x = back-append 0 L (x ∷ []) in
        let d = sides ws h t L x R s.listing in
        let k = spliced ws h t o.head.0 o.tail.0 (L ++ x ∷ []) R y ys (rw aa s.listing) l (rw aa a) in
        let words : splice_between ws o.head.0 o.tail.0 (back 0 (L ++ x ∷ [])) (front R 0)
        ≡ splice_between ws o.head.0 o.tail.0 c.current.0 c.next.0 = rw (bk, s.place.0, s.place.2) in
        let head : front ((L ++ x ∷ []) ++ ((y ∷ ys) ++ R)) 0 ≡ h =
        front-append (L ++ x ∷ []) ((y ∷ ys) ++ R) 0 ∙ front-append L (x ∷ []) (name y) ∙ sym (front-append L (x ∷ R) 0) ∙ s.listing.first in
        let tail : back 0 ((L ++ x ∷ []) ++ ((y ∷ ys) ++ R)) ≡ (cond (eqb t c.current.0) o.tail e.tail).0 =
        back-append 0 (L ++ x ∷ []) ((y ∷ ys) ++ R) ∙ back-append (back 0 (L ++ x ∷ [])) (y ∷ ys) R ∙ ap (λ (p : ℕ). back p R) (tail-is (back 0 (L ++ x ∷ [])))
        ∙ sym (tail-swap L x R e.tail c.current o.tail d.off_r (sym s.listing.last) s.place.0) in
        rw node-is
        (record {
          listing = listing-as bit_xor _ _ _ _ _ _ _ _ words head tail (append_assoc L (x ∷ []) ((y ∷ ys) ++ R)) k;
          place = (s.place.0, s.place.1, sym l.first);
        })

  -- and at null
  module _ (xs : List ℕ) (s : Sound ws e c (at_null xs)) where
    null_is : spliced_after ws e c o
        ≡ outcome (splice_between ws o.head.0 o.tail.0 c.current.0 c.next.0)
        (edited_two done (ends_of o.head (cond (eqb e.tail.0 c.current.0) o.tail e.tail))
        (null_cursor (ends_of o.head (cond (eqb e.tail.0 c.current.0) o.tail e.tail))) empty_ends)
    unfolding spliced_after
    null_is = let n : is_null c.current ≡ true = rw s.place.0 in rw n

    null-sound : Apart xs (y ∷ ys)
        → Sound (spliced_after ws e c o).words (spliced_after ws e c o).result.ends (spliced_after ws e c o).result.cursor (at_null ((y ∷ ys) ++ xs))
    null-sound a =
        let k = spliced ws e.head.0 e.tail.0 o.head.0 o.tail.0 [] xs y ys s.listing l a in
        let words : splice_between ws o.head.0 o.tail.0 0 (front xs 0) ≡ splice_between ws o.head.0 o.tail.0 c.current.0 c.next.0 =
        rw (s.place.0, s.place.2) in
        let tail : back 0 ((y ∷ ys) ++ xs) ≡ (cond (eqb e.tail.0 c.current.0) o.tail e.tail).0 =
        back-append 0 (y ∷ ys) xs ∙ ap (λ (p : ℕ). back p xs) (tail-is 0)
        ∙ sym (tail-null xs e.tail c.current o.tail (sym s.listing.last) s.place.0) in
        rw null_is
        (record {
          listing = listing-as bit_xor _ _ _ _ _ _ _ _ words l.first tail refl k;
          place = (refl, sym tail, sym l.first);
        })

-- ---- nothing else changes

words_are : (ws : List ℕ) (e : Ends) (c : Cursor) (o : Ends)
    → (spliced_after ws e c o).words ≡ splice_between ws o.head.0 o.tail.0 c.current.0 c.next.0
unfolding spliced_after
words_are ws e c o = refl

outside : (ws : List ℕ) (e : Ends) (c : Cursor) (o : Ends) (z : Place) (ys : List ℕ) → Sound ws e c z
    → Listing bit_xor ws o.head.0 o.tail.0 ys → Outside (nodes z ++ ys) ws (spliced_after ws e c o).words
outside ws e c o (at L x R) ys s l =
    let xs = L ++ x ∷ R in
    rw (words_are ws e c o, s.place.0, s.place.2, ← l.first, ← l.last)
    (changes-outside (name x ∷ front R 0 ∷ front ys 0 ∷ back 0 ys ∷ []) (xs ++ ys) ws _ (splice-changes ws (front ys 0) (back 0 ys) (name x) (front R 0)) (
      covered-left xs ys (name x) (covered-right L (x ∷ R) (name x) (covered-here x R)),
      (
        covered-left xs ys (front R 0) (covered-right L (x ∷ R) (front R 0) (covered_more x R (front R 0) (covered-front R))),
        (covered-right xs ys (front ys 0) (covered-front ys), (covered-right xs ys (back 0 ys) (covered-back ys), tt)),
      ),
    ))
outside ws e c o (at_null xs) ys s l =
    rw (words_are ws e c o, s.place.0, s.place.2, ← l.first, ← l.last)
    (changes-outside (0 ∷ front xs 0 ∷ front ys 0 ∷ back 0 ys ∷ []) (xs ++ ys) ws _ (splice-changes ws (front ys 0) (back 0 ys) 0 (front xs 0)) (
      covered-null (xs ++ ys),
      (
        covered-left xs ys (front xs 0) (covered-front xs),
        (covered-right xs ys (front ys 0) (covered-front ys), (covered-right xs ys (back 0 ys) (covered-back ys), tt)),
      ),
    ))

-- ---- the call

-- the nodes of the joined sequence are those of the two
all-joined : (P : ℕ → Type 0) (z : Place) (ys : List ℕ) → All P (nodes (plain_splice_after ys z).place) → All P (nodes z ++ ys)
all-joined P (at L x R) ys h =
    let r = all_right P L (x ∷ (ys ++ R)) h in
    all_append P (L ++ x ∷ R) ys
    (all_append P L (x ∷ R) (all_left P L (x ∷ (ys ++ R)) h) (r.0, all_right P ys R r.1)) (all_left P ys R r.1)
all-joined P (at_null xs) ys h = all_append P xs ys (all_right P ys xs h) (all_left P ys xs h)

module _ (ws : List ℕ) (e : Ends) (c : Cursor) (o : Ends) (f : pool_fits (length ws) ≡ true) where
  call-empty : (z : Place) → Sound ws e c z → Listing bit_xor ws o.head.0 o.tail.0 [] → splice_after ws e c o ≡ outcome ws (edited_two done e c o)
  unfolding splice_after
  call-empty z s l = rw (sound-pair ws e c z o [] f s l, empty-is ws o l)

  call-some : (z : Place) (y : ℕ) (ys : List ℕ) → Sound ws e c z → Listing bit_xor ws o.head.0 o.tail.0 (y ∷ ys)
      → splice_after ws e c o ≡ spliced_after ws e c o
  unfolding splice_after
  call-some z y ys s l = rw (sound-pair ws e c z o (y ∷ ys) f s l, some_is ws o y ys l)

  sound-joined : (z : Place) (y : ℕ) (ys : List ℕ) → Sound ws e c z → Listing bit_xor ws o.head.0 o.tail.0 (y ∷ ys) → Apart (nodes z) (y ∷ ys)
      → Sound (spliced_after ws e c o).words (spliced_after ws e c o).result.ends (spliced_after ws e c o).result.cursor (plain_splice_after (y ∷ ys) z).place
  sound-joined (at L x R) y ys s l a = node-sound ws e c o y ys l L x R s a
  sound-joined (at_null xs) y ys s l a = null-sound ws e c o y ys l xs s a

  is-done : (z : Place) → Sound ws e c z → ((spliced_after ws e c o).result.answer ≡ done) × ((spliced_after ws e c o).result.other ≡ empty_ends)
  unfolding spliced_after
  is-done (at L x R) s = let n : is_null c.current ≡ false = rw s.place.0 (name-null x) in rw n (refl, refl)
  is-done (at_null xs) s = let n : is_null c.current ≡ true = rw s.place.0 in rw n (refl, refl)

  plain-is : (z : Place) (ys : List ℕ) → ((plain_splice_after ys z).answer ≡ done) × ((plain_splice_after ys z).other ≡ [])
  plain-is (at L x R) ys = (refl, refl)
  plain-is (at_null xs) ys = (refl, refl)

  pub splice-after-does : (z : Place) (ys : List ℕ) → Sound ws e c z → Listing bit_xor ws o.head.0 o.tail.0 ys → Apart (nodes z) ys
      → DoesTwo ws z ys (splice_after ws e c o) (plain_splice_after ys z)
  splice-after-does (at L x R) [] s l a = same-does ws e c (at L x R) o [] s l _ _ done (call-empty (at L x R) s l) refl
  splice-after-does (at_null xs) [] s l a = same-does ws e c (at_null xs) o [] s l _ _ done (call-empty (at_null xs) s l) refl
  splice-after-does z (y ∷ ys) s l a =
      let k = sound-joined z y ys s l a in
      let out = outside ws e c o z (y ∷ ys) s l in
      let d = is-done z s in
      let p = plain-is z (y ∷ ys) in
      let old = all_append (λ x. is_linked (get_or ws x 0) ≡ true) (nodes z) (y ∷ ys) (xor-listing-linked ws _ _ (nodes z) s.listing) (xor-listing-linked ws _ _ (y ∷ ys) l) in
      let new = all-joined (λ x. is_linked (get_or (spliced_after ws e c o).words x 0) ≡ true) z (y ∷ ys) (xor-listing-linked _ _ _ _ k.listing) in
      rw (call-some z y ys s l)
      (record {
        answer = d.0 ∙ sym p.0;
        sound = k;
        other = rw (d.1, p.1) (record { distinct = tt; ranged = tt; first = refl; last = refl; chain = tt });
        marks = marks_stay ws (spliced_after ws e c o).words (nodes z ++ (y ∷ ys)) out old new;
        alone = outside_alone ws _ (nodes z ++ (y ∷ ys)) _ out;
      })
