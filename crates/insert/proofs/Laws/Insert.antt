-- Insert after does its plain edit. Assumes nothing.
use mathlib.Core.Path.{◌≡◌, refl, sym, ◌∙◌}
use mathlib.Core.Bool.{Bool, true, false, cond}
use mathlib.Core.List.{List, [], ◌∷◌, ◌++◌, append_assoc}
use Prim.Native.Nat.{ℕ, ◌<◌}
use lib.Bits.{bit_xor}
use lib.Dec.{ltb}
use lib.ListN.{length}
use borrow.Author.Tests.{ltb-true}
use Rattle.words.specs.declared.names.Node.{Node}
use Rattle.words.specs.Names.{name, is_null, pool_fits, naming}
use Rattle.words.specs.Pool.{put_at, Outcome, outcome}
use Rattle.links.specs.XorOps.{link_between}
use Rattle.words.specs.Listing.{All, Off, front, back}
use Rattle.words.proofs.Laws.Nodes.{all_append, all_left, all_right}
use Rattle.words.proofs.Laws.Pool.{changes-put, put-length}
use Rattle.words.proofs.Laws.Chain.{front-append, back-append}
use Rattle.words.proofs.Laws.Listing.{listing-as}
use Rattle.words.proofs.Laws.Outside.{Outside, covered-null, covered-here, covered_more, covered-right, covered-front, changes-outside}
use Rattle.links.proofs.Laws.XorListing.{xor-listing-linked}
use Rattle.links.proofs.Laws.Between.{linked, link-changes}
use Rattle.answers.specs.declared.Refusal.TheVariants.{AlreadyLinked, NoSuchNode}
use Rattle.std.specs.Prelude.{Err}
use Rattle.answers.specs.Answer.{done}
use Rattle.ends.specs.declared.Ends.{Ends}
use Rattle.ends.specs.Ends.{ends_of}
use Rattle.ends.proofs.Laws.Holds.{name-null}
use Rattle.cursor.specs.declared.Cursor.{Cursor}
use Rattle.cursor.specs.declared.Edited.{Edited}
use Rattle.cursor.specs.Cursor.{cursor_of, null_cursor, edited}
use Rattle.cursor.specs.Plain.{Place, at, at_null, nodes, Sound}
use Rattle.insert.specs.Inserts.{inserted_after, insert_after}
use Rattle.cursor.specs.Does.{plain, linking, Does, linked_in}
use Rattle.insert.specs.Plain.{place_after, plain_insert_after}
use Rattle.cursor.proofs.Laws.Common.{refused-does, named, naming-in, sound-node-test, acquire-refused, acquire-linked, acquire-free, free_off, sound-acquired, acquired-alone, marks-linking, tail-after, tail-front}

-- ---- the steps, on a sound list, for a node that is off it

-- at a node
after-node : (ws : List ℕ) (e : Ends) (c : Cursor) (i : ℕ) (L : List ℕ) (x : ℕ) (R : List ℕ) → Sound ws e c (at L x R)
    → inserted_after ws e c (named i)
    ≡ outcome (link_between ws (name i) c.current.0 c.next.0)
    (edited done (ends_of e.head (cond (is_null c.next) (named i) e.tail)) (cursor_of c.current c.prev (named i)))
unfolding inserted_after
after-node ws e c i L x R s = let nn : is_null c.current ≡ false = rw s.place.0 (name-null x) in rw nn

after-null : (ws : List ℕ) (e : Ends) (c : Cursor) (i : ℕ) (xs : List ℕ) → Sound ws e c (at_null xs)
    → inserted_after ws e c (named i)
    ≡ outcome (link_between ws (name i) 0 e.head.0)
    (edited done (ends_of (named i) (cond (is_null e.tail) (named i) e.tail)) (null_cursor (ends_of (named i) (cond (is_null e.tail) (named i) e.tail))))
unfolding inserted_after
after-null ws e c i xs s = let nn : is_null c.current ≡ true = rw s.place.0 in rw nn

-- what is left
pub record Inserted (ws : List ℕ) (z z' : Place) (i : ℕ) (o : Outcome Edited) : Type 0 where
  pub answer : o.result.answer ≡ done
  pub sound : Sound o.words o.result.ends o.result.cursor z'
  pub outside : Outside (i ∷ nodes z) ws o.words

inserted : (ws : List ℕ) (e : Ends) (c : Cursor) (i : ℕ) (z : Place) → Sound ws e c z → Off i (nodes z) → i < length ws
    → Inserted ws z (place_after i z) i (inserted_after ws e c (named i))
inserted ws e c i (at L x R) s o r =
    let h = e.head.0 in
    let t = e.tail.0 in
    let aa = append_assoc L (x ∷ []) R in
    let bk : back 0 (L ++ x ∷ []) ≡ name x = back-append 0 L (x ∷ []) in
    let k = linked ws h t (L ++ x ∷ []) R i (rw aa s.listing) (rw aa o) r in
    let words : link_between ws (name i) (back 0 (L ++ x ∷ [])) (front R 0) ≡ link_between ws (name i) c.current.0 c.next.0 =
    rw (bk, s.place.0, s.place.2) in
    let head : front ((L ++ x ∷ []) ++ i ∷ R) 0 ≡ h =
    front-append (L ++ x ∷ []) (i ∷ R) 0 ∙ front-append L (x ∷ []) (name i) ∙ sym (front-append L (x ∷ R) 0) ∙ s.listing.first in
    let tail : back 0 ((L ++ x ∷ []) ++ i ∷ R) ≡ (cond (is_null c.next) (named i) e.tail).0 =
    back-append 0 (L ++ x ∷ []) (i ∷ R)
    ∙ sym (tail-after i x R c.next e.tail s.place.2 (sym s.listing.last ∙ back-append 0 L (x ∷ R))) in
    rw (after-node ws e c i L x R s)
    (record {
      answer = refl;
      sound = record {
        listing = listing-as bit_xor _ _ _ _ _ _ _ _ words head tail (append_assoc L (x ∷ []) (i ∷ R)) k;
        place = (s.place.0, s.place.1, refl);
      };
      outside =
          changes-outside (c.current.0 ∷ c.next.0 ∷ name i ∷ []) (i ∷ (L ++ x ∷ R)) ws _ (link-changes ws (name i) c.current.0 c.next.0) (
            rw s.place.0 (covered_more i (L ++ x ∷ R) (name x) (covered-right L (x ∷ R) (name x) (covered-here x R))),
            (
              rw s.place.2 (covered_more i (L ++ x ∷ R) (front R 0) (covered-right L (x ∷ R) (front R 0) (covered_more x R (front R 0) (covered-front R)))),
              (
                covered-here i (L ++ x ∷ R),
                tt,
              ),
            ),
          );
    })
inserted ws e c i (at_null xs) s o r =
    let k = linked ws e.head.0 e.tail.0 [] xs i s.listing o r in
    let words : link_between ws (name i) 0 (front xs 0) ≡ link_between ws (name i) 0 e.head.0 = rw s.listing.first in
    let tail : back (name i) xs ≡ (cond (is_null e.tail) (named i) e.tail).0 = sym (tail-front i xs e.tail (sym s.listing.last)) in
    rw (after-null ws e c i xs s)
    (record {
      answer = refl;
      sound = record {
        listing = listing-as bit_xor _ _ _ _ _ _ _ _ words refl tail refl k;
        place = (refl, sym tail, refl);
      };
      outside =
          changes-outside (0 ∷ e.head.0 ∷ name i ∷ []) (i ∷ xs) ws _ (link-changes ws (name i) 0 e.head.0) (
            covered-null (i ∷ xs),
            (
              rw (← s.listing.first) (covered_more i xs (front xs 0) (covered-front xs)),
              (
                covered-here i xs,
                tt,
              ),
            ),
          );
    })

-- ---- the call

-- the nodes of a place with i put after it are i and the nodes of the place
all_after : (P : ℕ → Type 0) (i : ℕ) (z : Place) → All P (nodes (place_after i z)) → All P (i ∷ nodes z)
all_after P i (at L x R) h =
    let r = all_right P L (x ∷ i ∷ R) h in (r.1.0, all_append P L (x ∷ R) (all_left P L (x ∷ i ∷ R) h) (r.0, r.1.1))
all_after P i (at_null xs) h = h

module _ (ws : List ℕ) (e : Ends) (c : Cursor) (z : Place) (i : Node) (f : pool_fits (length ws) ≡ true) (s : Sound ws e c z) where
  no_node : ltb i.0 (length ws) ≡ false → Does ws z (insert_after ws e c i) (plain_insert_after (length ws) (linked_in ws) i.0 z)
  unfolding insert_after plain_insert_after
  no_node h = refused-does ws e c z s _ _ (Err NoSuchNode) (rw (sound-node-test ws e c z i f s, h, acquire-refused ws NoSuchNode (naming i))) (rw h)

  taken : ltb i.0 (length ws) ≡ true → linked_in ws i.0 ≡ true
      → Does ws z (insert_after ws e c i) (plain_insert_after (length ws) (linked_in ws) i.0 z)
  unfolding insert_after plain_insert_after
  taken h l =
      refused-does ws e c z s _ _ (Err AlreadyLinked)
      (rw (sound-node-test ws e c z i f s, h, naming-in (length ws) i f (ltb-true i.0 (length ws) h), acquire-linked ws i.0 l)) (rw (h, l))

  call : ltb i.0 (length ws) ≡ true → linked_in ws i.0 ≡ false
      → insert_after ws e c i ≡ inserted_after (put_at ws (name i.0) 0) e c (named i.0)
  unfolding insert_after
  call h l = rw (sound-node-test ws e c z i f s, h, naming-in (length ws) i f (ltb-true i.0 (length ws) h), acquire-free ws i.0 l)

  plain-call : ltb i.0 (length ws) ≡ true → linked_in ws i.0 ≡ false
      → plain_insert_after (length ws) (linked_in ws) i.0 z ≡ plain done (place_after i.0 z) (linking i.0 (linked_in ws))
  unfolding plain_insert_after
  plain-call h l = rw (h, l)

  free : ltb i.0 (length ws) ≡ true → linked_in ws i.0 ≡ false
      → Does ws z (insert_after ws e c i) (plain_insert_after (length ws) (linked_in ws) i.0 z)
  free h l =
      let r = ltb-true i.0 (length ws) h in
      let m = i.0 in
      let ws1 = put_at ws (name m) 0 in
      let off = free_off ws e.head.0 e.tail.0 (nodes z) m s.listing l in
      let long1 : length ws1 ≡ length ws = put-length ws (name m) 0 in
      let k = inserted ws1 e c m z (sound-acquired ws e c z m 0 off s) off (rw long1 r) in
      let out : Outside (m ∷ nodes z) ws (inserted_after ws1 e c (named m)).words =
      record {
        long = k.outside.long ∙ long1;
        same = λ j o. k.outside.same j o ∙ (changes-put ws (name m) 0).same j (covered-here m (nodes z) j o, tt);
      } in
      let old = xor-listing-linked ws e.head.0 e.tail.0 (nodes z) s.listing in
      let new = all_after (λ x. linked_in (inserted_after ws1 e c (named m)).words x ≡ true) m z
      (xor-listing-linked _ _ _ (nodes (place_after m z)) k.sound.listing) in
      rw (call h l, plain-call h l)
      (record {
        answer = k.answer;
        sound = k.sound;
        marks = marks-linking ws (inserted_after ws1 e c (named m)).words (nodes z) m out old new;
        alone = acquired-alone ws _ (nodes z) (nodes (place_after m z)) (nodes z) m l out (λ P a. a) (λ P b. (all_after P m z b).0);
      })

  pub insert-after-does : Does ws z (insert_after ws e c i) (plain_insert_after (length ws) (linked_in ws) i.0 z)
  insert-after-does = go (ltb i.0 (length ws)) refl (linked_in ws i.0) refl
    where
      go : (a : Bool) → ltb i.0 (length ws) ≡ a → (b : Bool) → linked_in ws i.0 ≡ b
          → Does ws z (insert_after ws e c i) (plain_insert_after (length ws) (linked_in ws) i.0 z)
      go false h b l = no_node h
      go true h true l = taken h l
      go true h false l = free h l
