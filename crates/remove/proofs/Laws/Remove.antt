-- Remove does its plain edit. Assumes nothing.
use mathlib.Core.Path.{◌≡◌, refl, sym, ap, ◌∙◌}
use mathlib.Core.Logic.{◌≢◌}
use mathlib.Core.Bool.{true, false, cond}
use mathlib.Core.List.{List, [], ◌∷◌, ◌++◌, append-nil}
use Prim.Native.Nat.{ℕ, ◌<◌}
use lib.Bits.{bit_xor}
use lib.Dec.{eqb}
use lib.ListN.{length}
use Rattle.words.specs.declared.names.Name.{Name}
use Rattle.words.specs.Names.{name, is_null, is_linked, pool_fits, decoding}
use Rattle.words.specs.Pool.{outcome}
use Rattle.links.specs.XorOps.{next_of}
use Rattle.words.specs.Listing.{Off, front, back, Listing}
use Rattle.words.proofs.Laws.Nodes.{all_append}
use Rattle.words.proofs.Laws.Names.{name-is, node-name}
use Rattle.words.proofs.Laws.Chain.{front-append, back-append}
use Rattle.words.proofs.Laws.Listing.{listing-as}
use Rattle.words.proofs.Laws.Outside.{Outside, covered-here, covered_more, covered-left, covered-right, covered-front, covered-back, changes-outside}
use Rattle.links.proofs.Laws.XorListing.{xor-listing-linked}
use Rattle.links.proofs.Laws.Cuts.{sides, taken_out, taken-out, taken_word, taken-changes}
use Rattle.answers.specs.declared.Refusal.TheVariants.{AtNull}
use Rattle.std.specs.Prelude.{Some, Ok, Err}
use Rattle.ends.specs.declared.Ends.{Ends}
use Rattle.answers.specs.Answer.{Answer}
use Rattle.ends.specs.Ends.{ends_of}
use Rattle.ends.proofs.Laws.Holds.{name-null}
use Rattle.cursor.specs.declared.Cursor.{Cursor}
use Rattle.cursor.specs.Cursor.{cursor_of, null_cursor, edited, some_test}
use Rattle.cursor.specs.Plain.{Place, at, at_null, nodes, Sound}
use Rattle.cursor.proofs.Laws.Alone.{outside_alone, more-alone}
use Rattle.cursor.proofs.Laws.Sound.{sound-test}
use Rattle.moves.proofs.Laws.Moves.{next-name}
use Rattle.remove.specs.Removes.{removed, remove}
use Rattle.cursor.specs.Does.{Does, linked_in}
use Rattle.remove.specs.Plain.{place_without, plain_remove}
use Rattle.cursor.proofs.Laws.Common.{marks-unlinking, refused-does}
use Rattle.cursor.proofs.Laws.Swap.{head-swap, tail-swap, all-out}

-- the node under a true cursor is handed out
pub hands_out : (n : ℕ) (w : Name) (x : ℕ) → x < n → w.0 ≡ name x
    → ◌≡◌ {A = Answer} (Ok (decoding n w)) (Ok (Some (record { 0 = x })))
unfolding decoding
hands_out n w x r e = rw (e, name-is n x r, node-name x)

-- the words and the ends that are left
abbrev words : List ℕ → List ℕ → ℕ → List ℕ → List ℕ
words ws L x R = taken_out ws (name x) (back 0 L) (front R 0)

abbrev ends : Ends → Cursor → Ends
ends e c = ends_of (cond (eqb e.head.0 c.current.0) c.next e.head) (cond (eqb e.tail.0 c.current.0) c.prev e.tail)

removed-ends : (ws : List ℕ) (e : Ends) (c : Cursor) → (removed ws e c).result.ends ≡ ends e c
unfolding removed
removed-ends ws e c = refl

module _ (ws : List ℕ) (e : Ends) (c : Cursor) (L : List ℕ) (x : ℕ) (R : List ℕ) (s : Sound ws e c (at L x R)) where
  removed-words : (removed ws e c).words ≡ words ws L x R
  unfolding removed taken_out
  removed-words = rw (s.place.0, s.place.1, s.place.2)

  listed : Listing bit_xor (words ws L x R) (ends e c).head.0 (ends e c).tail.0 (L ++ R)
  listed =
      let k = taken-out ws e.head.0 e.tail.0 L x R s.listing in
      let d = sides ws e.head.0 e.tail.0 L x R s.listing in
      let h = head-swap L x R e.head c.current c.next d.off_l (sym s.listing.first) s.place.0 in
      let t = tail-swap L x R e.tail c.current c.prev d.off_r (sym s.listing.last) s.place.0 in
      listing-as bit_xor _ _ _ _ _ _ _ _ refl (front-append L R 0 ∙ ap (front L) (sym s.place.2) ∙ sym h)
      (back-append 0 L R ∙ ap (λ (p : ℕ). back p R) (sym s.place.1) ∙ sym t) refl k

  out : Outside (x ∷ (L ++ R)) ws (words ws L x R)
  out =
      changes-outside (name x ∷ back 0 L ∷ front R 0 ∷ []) (x ∷ (L ++ R)) ws _ (taken-changes ws (name x) (back 0 L) (front R 0)) (
        covered-here x (L ++ R),
        (
          covered_more x (L ++ R) (back 0 L) (covered-left L R (back 0 L) (covered-back L)),
          (covered_more x (L ++ R) (front R 0) (covered-right L R (front R 0) (covered-front R)), tt),
        ),
      )

  gone : linked_in (words ws L x R) x ≡ false
  unfolding is_linked
  gone = rw (taken_word ws e.head.0 e.tail.0 L x R s.listing)

-- the cursor that is left, with nothing beyond and with a node beyond
cursor-last : (ws : List ℕ) (e : Ends) (c : Cursor) (L : List ℕ) (x : ℕ) (s : Sound ws e c (at L x [])) → (removed ws e c).result.cursor ≡ null_cursor (removed ws e c).result.ends
unfolding removed
cursor-last ws e c L x s = rw s.place.2

cursor-more : (ws : List ℕ) (e : Ends) (c : Cursor) (L : List ℕ) (x y : ℕ) (R : List ℕ) (s : Sound ws e c (at L x (y ∷ R)))
    → (removed ws e c).result.cursor ≡ cursor_of c.next c.prev (record { 0 = next_of (removed ws e c).words c.next.0 c.prev.0 })
unfolding removed
cursor-more ws e c L x y R s = let n : is_null c.next ≡ false = rw s.place.2 (name-null y) in rw n

sound-left : (ws : List ℕ) (e : Ends) (c : Cursor) (L : List ℕ) (x : ℕ) (R : List ℕ) (s : Sound ws e c (at L x R))
    → Sound (removed ws e c).words (removed ws e c).result.ends (removed ws e c).result.cursor (place_without L R)
sound-left ws e c L x [] s =
    let l : Listing bit_xor (words ws L x []) (ends e c).head.0 (ends e c).tail.0 L = rw (append-nil L) at (listed ws e c L x [] s) in
    rw (cursor-last ws e c L x s, removed-words ws e c L x [] s, removed-ends ws e c)
    (record { listing = l; place = (refl, sym l.last, sym l.first) })
sound-left ws e c L x (y ∷ R) s =
    let l = listed ws e c L x (y ∷ R) s in
    let n : next_of (words ws L x (y ∷ R)) c.next.0 c.prev.0 ≡ front R 0 =
    rw (s.place.2, s.place.1) (next-name (words ws L x (y ∷ R)) (ends e c).head.0 (ends e c).tail.0 L y R l) in
    rw (cursor-more ws e c L x y R s, removed-words ws e c L x (y ∷ R) s, removed-ends ws e c)
    (record { listing = l; place = (s.place.2, s.place.1, n) })

-- ---- the call

node_call : (ws : List ℕ) (e : Ends) (c : Cursor) (L : List ℕ) (x : ℕ) (R : List ℕ) → pool_fits (length ws) ≡ true → Sound ws e c (at L x R)
    → remove ws e c ≡ removed ws e c
unfolding remove some_test
node_call ws e c L x R f s = let n : is_null c.current ≡ false = rw s.place.0 (name-null x) in rw (sound-test ws e c (at L x R) f s, n)

null-call : (ws : List ℕ) (e : Ends) (c : Cursor) (xs : List ℕ) → pool_fits (length ws) ≡ true → Sound ws e c (at_null xs)
    → remove ws e c ≡ outcome ws (edited (Err AtNull) e c)
unfolding remove some_test
null-call ws e c xs f s = let n : is_null c.current ≡ true = rw s.place.0 in rw (sound-test ws e c (at_null xs) f s, n)

answer-is : (ws : List ℕ) (e : Ends) (c : Cursor) → (removed ws e c).result.answer ≡ Ok (decoding (length ws) c.current)
unfolding removed
answer-is ws e c = refl

pub removed-does : (ws : List ℕ) (e : Ends) (c : Cursor) (L : List ℕ) (x : ℕ) (R : List ℕ) → Sound ws e c (at L x R)
    → Does ws (at L x R) (removed ws e c) (plain_remove (linked_in ws) (at L x R))
removed-does ws e c L x R s =
    let d = sides ws e.head.0 e.tail.0 L x R s.listing in
    let w = removed-words ws e c L x R s in
    let old = xor-listing-linked ws e.head.0 e.tail.0 (L ++ x ∷ R) s.listing in
    let new = xor-listing-linked _ _ _ (L ++ R) (listed ws e c L x R s) in
    let o = out ws e c L x R s in
    let off : Off x (L ++ R) = all_append (λ y. y ≢ x) L R d.off_l d.off_r in
    record {
      answer = answer-is ws e c ∙ hands_out (length ws) c.current x d.here s.place.0;
      sound = sound-left ws e c L x R s;
      marks = rw w (marks-unlinking ws _ x (L ++ R) o off (all-out (λ y. linked_in ws y ≡ true) L x R old).1 new (gone ws e c L x R s));
      alone =
          rw w (more-alone ws _ (x ∷ (L ++ R)) (nodes (place_without L R)) (L ++ x ∷ R) (nodes (place_without L R)) (λ P. all-out P L x R) (λ P b. b)
          (outside_alone ws _ (x ∷ (L ++ R)) (nodes (place_without L R)) o));
    }

pub remove-does : (ws : List ℕ) (e : Ends) (c : Cursor) (z : Place) → pool_fits (length ws) ≡ true → Sound ws e c z
    → Does ws z (remove ws e c) (plain_remove (linked_in ws) z)
remove-does ws e c (at L x R) f s = rw (node_call ws e c L x R f s) (removed-does ws e c L x R s)
remove-does ws e c (at_null xs) f s = refused-does ws e c (at_null xs) s _ _ (Err AtNull) (null-call ws e c xs f s) refl
