-- On a listing, a move takes a true cursor to the neighbouring place, where it is true. Assumes nothing.
use mathlib.Core.Path.{◌≡◌, refl, sym, ◌∙◌}
use mathlib.Core.Bool.{Bool, true, false, cond}
use mathlib.Core.List.{List, [], ◌∷◌, ◌++◌, append_assoc}
use Prim.Native.Nat.{ℕ}
use lib.Bits.{bit_xor}
use lib.ListN.{length}
use Rattle.words.specs.Names.{name, is_null, pool_fits}
use Rattle.words.specs.Pool.{word_at}
use Rattle.links.specs.XorOps.{next_of, prev_of}
use Rattle.words.specs.Listing.{front, back, Listing}
use Rattle.links.proofs.Laws.Xor.{xor_comm, xor-twice-l}
use Rattle.words.proofs.Laws.Pool.{word-name}
use Rattle.words.proofs.Laws.Chain.{chain-split, back-append}
use Rattle.answers.specs.Answer.{done}
use Rattle.ends.specs.declared.Ends.{Ends}
use Rattle.ends.specs.Ends.{turned}
use Rattle.ends.proofs.Laws.Holds.{name-null}
use Rattle.cursor.specs.declared.Cursor.{Cursor}
use Rattle.cursor.specs.Cursor.{cursor_of, null_cursor, turned_cursor, edited}
use Rattle.moves.specs.Moves.{moved_next, moved_prev, move_next, move_prev}
use Rattle.cursor.specs.Plain.{Place, at, at_null, mirror, next_place, prev_place, Sound}
use Rattle.cursor.proofs.Laws.Mirror.{sound-mirror}
use Rattle.cursor.proofs.Laws.Sound.{sound-test}

-- the name after a node of a listing, from the name before it
pub next-name : (ws : List ℕ) (h t : ℕ) (L : List ℕ) (x : ℕ) (R : List ℕ) → Listing bit_xor ws h t (L ++ x ∷ R)
    → next_of ws (name x) (back 0 L) ≡ front R 0
unfolding next_of
next-name ws h t L x R l =
    let s = (chain-split bit_xor ws 0 L (x ∷ R) 0 l.chain).1 in
    rw (word-name ws x, s.0, xor_comm (bit_xor (back 0 L) (front R 0)) (back 0 L)) (xor-twice-l (back 0 L) (front R 0))

-- one node on
pub next-sound : (ws : List ℕ) (e : Ends) (c : Cursor) (z : Place) → Sound ws e c z → Sound ws e (moved_next ws e c) (next_place z)
unfolding moved_next
next-sound ws e c (at L x []) s =
    rw s.place.2 (record { listing = s.listing; place = (refl, sym s.listing.last, sym s.listing.first) })
next-sound ws e c (at L x (y ∷ R)) s =
    let l : Listing bit_xor ws e.head.0 e.tail.0 ((L ++ x ∷ []) ++ y ∷ R) = rw (append_assoc L (x ∷ []) (y ∷ R)) s.listing in
    let b : back 0 (L ++ x ∷ []) ≡ name x = back-append 0 L (x ∷ []) in
    let n : next_of ws (name y) (name x) ≡ front R 0 = rw b at (next-name ws e.head.0 e.tail.0 (L ++ x ∷ []) y R l) in
    rw (s.place.2, name-null y) (record { listing = l; place = (refl, s.place.0 ∙ sym b, rw s.place.0 n) })
next-sound ws e c (at_null []) s =
    rw s.place.2 (record { listing = s.listing; place = (refl, sym s.listing.last, sym s.listing.first) })
next-sound ws e c (at_null (x ∷ xs)) s =
    rw (s.place.2, name-null x)
    (record {
      listing = s.listing;
      place = (refl, s.place.0, rw s.place.0 (next-name ws e.head.0 e.tail.0 [] x xs s.listing));
    })

-- one node back is one node on in the mirror, for any words and any cursor
pub moved-mirror : (ws : List ℕ) (e : Ends) (c : Cursor) → moved_prev ws e c ≡ turned_cursor (moved_next ws (turned e) (turned_cursor c))
unfolding moved_next moved_prev next_of prev_of
moved-mirror ws e c = go (is_null c.prev)
  where
    go : (b : Bool)
        → ◌≡◌ {A = Cursor} (cond b (null_cursor e) (cursor_of c.prev (record { 0 = bit_xor (word_at ws c.prev.0) c.current.0 }) c.current))
        (turned_cursor (cond b (null_cursor (turned e)) (cursor_of c.prev c.current (record { 0 = bit_xor (word_at ws c.prev.0) c.current.0 }))))
    go true = refl
    go false = refl

pub prev-sound : (ws : List ℕ) (e : Ends) (c : Cursor) (z : Place) → Sound ws e c z → Sound ws e (moved_prev ws e c) (prev_place z)
prev-sound ws e c z s =
    rw (moved-mirror ws e c)
    (sound-mirror ws (turned e) (moved_next ws (turned e) (turned_cursor c)) (next_place (mirror z))
    (next-sound ws (turned e) (turned_cursor c) (mirror z) (sound-mirror ws e c z s)))

-- the calls
pub move-next-does : (ws : List ℕ) (e : Ends) (c : Cursor) (z : Place) → pool_fits (length ws) ≡ true → Sound ws e c z
    → (move_next ws e c ≡ edited done e (moved_next ws e c)) × Sound ws e (moved_next ws e c) (next_place z)
unfolding move_next
move-next-does ws e c z f s = (rw (sound-test ws e c z f s), next-sound ws e c z s)

pub move-prev-does : (ws : List ℕ) (e : Ends) (c : Cursor) (z : Place) → pool_fits (length ws) ≡ true → Sound ws e c z
    → (move_prev ws e c ≡ edited done e (moved_prev ws e c)) × Sound ws e (moved_prev ws e c) (prev_place z)
unfolding move_prev
move-prev-does ws e c z f s = (rw (sound-test ws e c z f s), prev-sound ws e c z s)
