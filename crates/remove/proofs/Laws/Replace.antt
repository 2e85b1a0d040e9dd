-- Replace does its plain edit. Assumes nothing.
use mathlib.Core.Path.{◌≡◌, refl, sym, ap, ◌∙◌}
use mathlib.Core.Logic.{◌≢◌, ⊎_elim}
use mathlib.Core.Bool.{Bool, true, false, or-true}
use mathlib.Core.List.{List, [], ◌∷◌, ◌++◌}
use Prim.Native.Nat.{ℕ, ◌<◌}
use lib.Bits.{bit_xor}
use lib.Dec.{ltb, eqb}
use lib.ListN.{length}
use borrow.Author.Tests.{ltb-true, eq-eqb, ne_eqb}
use Rattle.words.specs.declared.names.Node.{Node}
use Rattle.words.specs.Names.{name, is_null, is_linked, pool_fits, naming}
use Rattle.words.specs.Pool.{put_at, outcome}
use Rattle.words.specs.Listing.{All, Off, front, back}
use Rattle.words.proofs.Laws.Cases.{same_or_not}
use Rattle.words.proofs.Laws.Nodes.{all_map, all_both, all_append, all_right}
use Rattle.words.proofs.Laws.Pool.{changes-put, put-length}
use Rattle.words.proofs.Laws.Chain.{front-append, back-append}
use Rattle.words.proofs.Laws.Listing.{listing-as}
use Rattle.words.proofs.Laws.Outside.{Outside, covered-here, covered_more, covered-left, covered-right, covered-front, covered-back, changes-outside, marks-agree}
use Rattle.links.proofs.Laws.XorListing.{xor-listing-linked}
use Rattle.links.proofs.Laws.Cuts.{sides, exchanged, exchanged-listing, exchanged-word, exchanged-changes}
use Rattle.answers.specs.declared.Refusal.TheVariants.{NoSuchNode, AtNull, AlreadyLinked}
use Rattle.std.specs.Prelude.{Some, Ok, Err}
use Rattle.ends.specs.declared.Ends.{Ends}
use Rattle.ends.proofs.Laws.Holds.{name-null}
use Rattle.cursor.specs.declared.Cursor.{Cursor}
use Rattle.cursor.specs.Cursor.{edited, some_test}
use Rattle.cursor.specs.Plain.{Place, at, at_null, Sound}
use Rattle.remove.specs.Removes.{replaced, replace}
use Rattle.cursor.specs.Does.{plain, linking, unlinking, Does, linked_in}
use Rattle.remove.specs.Plain.{plain_replace}
use Rattle.cursor.proofs.Laws.Common.{named, naming-in, sound-node-test, acquire-refused, acquire-linked, acquire-free, free_off, sound-acquired, acquired-alone, refused-does}
use Rattle.cursor.proofs.Laws.Swap.{head-swap, tail-swap, all-out}
use Rattle.remove.proofs.Laws.Remove.{hands_out}

-- ---- the steps, on a sound list, for a node that is off it

module _ (ws : List ℕ) (e : Ends) (c : Cursor) (L : List ℕ) (x : ℕ) (R : List ℕ) (i : ℕ) (s : Sound ws e c (at L x R)) where
  replaced-words : (replaced ws e c (named i)).words ≡ exchanged ws (name i) (name x) (back 0 L) (front R 0)
  unfolding replaced exchanged
  replaced-words = rw (s.place.0, s.place.1, s.place.2)

  replaced-sound : Off i (L ++ x ∷ R) → i < length ws
      → Sound (replaced ws e c (named i)).words (replaced ws e c (named i)).result.ends (replaced ws e c (named i)).result.cursor (at L i R)
  unfolding replaced
  replaced-sound o r =
      let d = sides ws e.head.0 e.tail.0 L x R s.listing in
      let h = head-swap L x R e.head c.current (named i) d.off_l (sym s.listing.first) s.place.0 in
      let t = tail-swap L x R e.tail c.current (named i) d.off_r (sym s.listing.last) s.place.0 in
      record {
        listing =
            listing-as bit_xor _ _ _ _ _ _ _ _ (sym replaced-words) (front-append L (i ∷ R) 0 ∙ sym h) (back-append 0 L (i ∷ R) ∙ sym t) refl
            (exchanged-listing ws e.head.0 e.tail.0 L x R i s.listing o r);
        place = (refl, s.place.1, s.place.2);
      }

  replaced-answer : (replaced ws e c (named i)).result.answer ≡ Ok (Some (record { 0 = x }))
  unfolding replaced
  replaced-answer =
      hands_out (length ws) c.current x (sides ws e.head.0 e.tail.0 L x R s.listing).here s.place.0

  -- nothing changes but on i, x and the rest of the list
  replaced-outside : Outside (i ∷ x ∷ (L ++ R)) ws (replaced ws e c (named i)).words
  replaced-outside =
      let more = covered_more i (x ∷ (L ++ R)) in
      let rest = covered_more x (L ++ R) in
      rw replaced-words
      (changes-outside (back 0 L ∷ front R 0 ∷ name i ∷ name x ∷ []) (i ∷ x ∷ (L ++ R)) ws _
      (exchanged-changes ws (name i) (name x) (back 0 L) (front R 0)) (
        more (back 0 L) (rest (back 0 L) (covered-left L R (back 0 L) (covered-back L))),
        (
          more (front R 0) (rest (front R 0) (covered-right L R (front R 0) (covered-front R))),
          (covered-here i (x ∷ (L ++ R)), (more (name x) (covered-here x (L ++ R)), tt)),
        ),
      ))

  replaced-gone : Off i (L ++ x ∷ R) → linked_in (replaced ws e c (named i)).words x ≡ false
  unfolding is_linked
  replaced-gone o = rw (replaced-words, exchanged-word ws e.head.0 e.tail.0 L x R i s.listing o)

-- ---- marks

marks-exchanged : (ws ws' : List ℕ) (xs : List ℕ) (x i : ℕ) → Outside (i ∷ x ∷ xs) ws ws' → x ≢ i → Off x xs
    → All (λ y. linked_in ws y ≡ true) xs → All (λ y. linked_in ws' y ≡ true) (i ∷ xs) → linked_in ws' x ≡ false
    → (j : ℕ) → linked_in ws' j ≡ linking i (unlinking x (linked_in ws)) j
marks-exchanged ws ws' xs x i out xi off old new gone =
    marks-agree ws' (i ∷ xs) (linking i (unlinking x (linked_in ws))) new (
      rw (eq-eqb i i refl),
      all_map (λ y. (y ≢ x) × (linked_in ws y ≡ true)) (λ y. linking i (unlinking x (linked_in ws)) y ≡ true)
          (λ y h. rw (ne_eqb y x h.0, h.1) (or-true (eqb y i))) xs (all_both (λ y. y ≢ x) (λ y. linked_in ws y ≡ true) xs off old),
    )
    (λ j o. ⊎_elim (λ e. rw (← e) (gone ∙ sym (rw (ne_eqb x i xi, eq-eqb x x refl))))
    (λ ne. ap is_linked (out.same j (o.0, (ne, o.1))) ∙ sym (rw (ne_eqb j i (λ q. o.0 (sym q)), ne_eqb j x (λ q. ne (sym q)))))
    (same_or_not x j))

-- ---- the call

module _ (ws : List ℕ) (e : Ends) (c : Cursor) (z : Place) (i : Node) (f : pool_fits (length ws) ≡ true) (s : Sound ws e c z) where
  -- how it comes out, by its tests
  call-past : ltb i.0 (length ws) ≡ false → replace ws e c i ≡ outcome ws (edited (Err NoSuchNode) e c)
  unfolding replace some_test
  call-past h = rw (sound-node-test ws e c z i f s, h, acquire-refused ws NoSuchNode (naming i))

  call-null : ltb i.0 (length ws) ≡ true → is_null c.current ≡ true → replace ws e c i ≡ outcome ws (edited (Err AtNull) e c)
  unfolding replace some_test
  call-null h n = rw (sound-node-test ws e c z i f s, h, n, acquire-refused ws AtNull (naming i))

  call-taken : ltb i.0 (length ws) ≡ true → is_null c.current ≡ false → linked_in ws i.0 ≡ true
      → replace ws e c i ≡ outcome ws (edited (Err AlreadyLinked) e c)
  unfolding replace some_test
  call-taken h n l =
      rw (sound-node-test ws e c z i f s, h, n, naming-in (length ws) i f (ltb-true i.0 (length ws) h), acquire-linked ws i.0 l)

  call-free : ltb i.0 (length ws) ≡ true → is_null c.current ≡ false → linked_in ws i.0 ≡ false
      → replace ws e c i ≡ replaced (put_at ws (name i.0) 0) e c (named i.0)
  unfolding replace some_test
  call-free h n l =
      rw (sound-node-test ws e c z i f s, h, n, naming-in (length ws) i f (ltb-true i.0 (length ws) h), acquire-free ws i.0 l)

module _ (ws : List ℕ) (e : Ends) (c : Cursor) (i : Node) (f : pool_fits (length ws) ≡ true) where
  null-does : (xs : List ℕ) → Sound ws e c (at_null xs)
      → Does ws (at_null xs) (replace ws e c i) (plain_replace (length ws) (linked_in ws) i.0 (at_null xs))
  null-does xs s = go (ltb i.0 (length ws)) refl
    where
      go : (a : Bool) → ltb i.0 (length ws) ≡ a → Does ws (at_null xs) (replace ws e c i) (plain_replace (length ws) (linked_in ws) i.0 (at_null xs))
      go false h = refused-does ws e c (at_null xs) s _ _ (Err NoSuchNode) (call-past ws e c (at_null xs) i f s h) (rw h)
      go true h = refused-does ws e c (at_null xs) s _ _ (Err AtNull) (call-null ws e c (at_null xs) i f s h (rw s.place.0)) (rw h)

  module _ (L : List ℕ) (x : ℕ) (R : List ℕ) (s : Sound ws e c (at L x R)) where
    node-free : ltb i.0 (length ws) ≡ true → linked_in ws i.0 ≡ false
        → Does ws (at L x R) (replaced (put_at ws (name i.0) 0) e c (named i.0))
        (plain (Ok (Some (record { 0 = x }))) (at L i.0 R) (linking i.0 (unlinking x (linked_in ws))))
    node-free h l =
        let m = i.0 in
        let ws1 = put_at ws (name m) 0 in
        let w' = (replaced ws1 e c (named m)).words in
        let r = ltb-true m (length ws) h in
        let off = free_off ws e.head.0 e.tail.0 (L ++ x ∷ R) m s.listing l in
        let s1 = sound-acquired ws e c (at L x R) m 0 off s in
        let long1 : length ws1 ≡ length ws = put-length ws (name m) 0 in
        let d = sides ws e.head.0 e.tail.0 L x R s.listing in
        let k = replaced-sound ws1 e c L x R m s1 off (rw long1 r) in
        let o1 = replaced-outside ws1 e c L x R m s1 in
        let out : Outside (m ∷ x ∷ (L ++ R)) ws w' =
        record {
          long = o1.long ∙ long1;
          same = λ j o. o1.same j o ∙ (changes-put ws (name m) 0).same j (covered-here m (x ∷ (L ++ R)) j o, tt);
        } in
        let old = all-out (λ y. linked_in ws y ≡ true) L x R (xor-listing-linked ws e.head.0 e.tail.0 (L ++ x ∷ R) s.listing) in
        let new = all-out (λ y. linked_in w' y ≡ true) L m R (xor-listing-linked w' _ _ (L ++ m ∷ R) k.listing) in
        record {
          answer = replaced-answer ws1 e c L x R m s1;
          sound = k;
          marks =
              marks-exchanged ws w' (L ++ R) x m out (all_right (λ y. y ≢ m) L (x ∷ R) off).0
              (all_append (λ y. y ≢ x) L R d.off_l d.off_r) old.1 new (replaced-gone ws1 e c L x R m s1 off);
          alone =
              acquired-alone ws w' (L ++ x ∷ R) (L ++ m ∷ R) (x ∷ (L ++ R)) m l out (λ P. all-out P L x R) (λ P b. (all_right P L (m ∷ R) b).0);
        }

    node-does : Does ws (at L x R) (replace ws e c i) (plain_replace (length ws) (linked_in ws) i.0 (at L x R))
    node-does = go (ltb i.0 (length ws)) refl (linked_in ws i.0) refl
      where
        n : is_null c.current ≡ false
        n = rw s.place.0 (name-null x)

        go : (a : Bool) → ltb i.0 (length ws) ≡ a → (b : Bool) → linked_in ws i.0 ≡ b
            → Does ws (at L x R) (replace ws e c i) (plain_replace (length ws) (linked_in ws) i.0 (at L x R))
        go false h b l = refused-does ws e c (at L x R) s _ _ (Err NoSuchNode) (call-past ws e c (at L x R) i f s h) (rw h)
        go true h true l = refused-does ws e c (at L x R) s _ _ (Err AlreadyLinked) (call-taken ws e c (at L x R) i f s h n l) (rw (h, l))
        go true h false l = rw (call-free ws e c (at L x R) i f s h n l, h, l) (node-free h l)

  pub replace-does : (z : Place) → Sound ws e c z → Does ws z (replace ws e c i) (plain_replace (length ws) (linked_in ws) i.0 z)
  replace-does (at L x R) s = node-does L x R s
  replace-does (at_null xs) s = null-does xs s
