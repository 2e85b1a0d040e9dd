-- A real pair of node and neighbour is placed, and the cursor is true. Assumes nothing.
use mathlib.Core.Path.{◌≡◌, ap}
use mathlib.Core.Bool.{true}
use mathlib.Core.List.{List, ◌∷◌, ◌++◌}
use Prim.Native.Nat.{ℕ, ◌<◌}
use lib.Bits.{bit_xor}
use lib.ListN.{length}
use borrow.Author.Tests.{lt-ltb}
use Rattle.words.specs.declared.names.Node.{Node}
use Rattle.words.specs.declared.names.Name.{Name}
use Rattle.std.specs.Prelude.{Option}
use Rattle.words.specs.Names.{name, pool_fits, naming}
use Rattle.links.specs.XorOps.{next_of, prev_of}
use Rattle.words.specs.Listing.{front, back, Listing}
use Rattle.words.proofs.Laws.Nodes.{all_right}
use Rattle.links.proofs.Laws.Xor.{xor-twice-r}
use Rattle.words.proofs.Laws.Pool.{word-name}
use Rattle.words.proofs.Laws.Chain.{chain-split}
use Rattle.answers.specs.Answer.{passed, done}
use Rattle.ends.specs.declared.Ends.{Ends}
use Rattle.cursor.specs.declared.Cursor.{Cursor}
use Rattle.cursor.specs.Cursor.{cursor_of, edited}
use Rattle.cursor.specs.Plain.{at, Sound}
use Rattle.cursor.proofs.Laws.Sound.{sound-ends-test, sound-stands}
use Rattle.moves.proofs.Laws.Moves.{next-name}
use Rattle.cursor.proofs.Laws.Common.{naming-in}
use Rattle.place.specs.Places.{claimed, known, claim_test, placed, place_by_prev, place_by_next}

-- the cursor that a claim comes to
abbrev pub by_prev : List ℕ → Node → Option Node → Cursor
by_prev ws i j = cursor_of (naming i) (claimed j) (record { 0 = next_of ws (naming i).0 (claimed j).0 })

abbrev pub by_next : List ℕ → Node → Option Node → Cursor
by_next ws i j = cursor_of (naming i) (record { 0 = prev_of ws (naming i).0 (claimed j).0 }) (claimed j)

module _ (ws : List ℕ) (e : Ends) (L : List ℕ) (i : Node) (R : List ℕ) (j : Option Node) (f : pool_fits (length ws) ≡ true)
    (l : Listing bit_xor ws e.head.0 e.tail.0 (L ++ i.0 ∷ R)) (k : known (length ws) j ≡ true) where
  here : i.0 < length ws
  here = (all_right (λ y. y < length ws) L (i.0 ∷ R) l.ranged).0

  passes : claim_test ws e i j ≡ passed
  unfolding claim_test
  passes = rw (sound-ends-test ws e (L ++ i.0 ∷ R) f l, lt-ltb i.0 (length ws) here, k)

  pub place-by-prev-does : (claimed j).0 ≡ back 0 L → (place_by_prev ws e i j ≡ edited done e (by_prev ws i j)) × Sound ws e (by_prev ws i j) (at L i.0 R)
  unfolding place_by_prev placed
  place-by-prev-does p =
      let n = naming-in (length ws) i f here in
      let s : Sound ws e (by_prev ws i j) (at L i.0 R) =
      record {
        listing = l;
        place = (ap (λ (w : Name). w.0) n, p, rw (n, p) (next-name ws e.head.0 e.tail.0 L i.0 R l));
      } in
      (rw (passes, sound-stands ws e _ (at L i.0 R) s), s)

  prev-name : prev_of ws (name i.0) (front R 0) ≡ back 0 L
  unfolding prev_of
  prev-name =
      let s = (chain-split bit_xor ws 0 L (i.0 ∷ R) 0 l.chain).1 in rw (word-name ws i.0, s.0) (xor-twice-r (back 0 L) (front R 0))

  pub place-by-next-does : (claimed j).0 ≡ front R 0 → (place_by_next ws e i j ≡ edited done e (by_next ws i j)) × Sound ws e (by_next ws i j) (at L i.0 R)
  unfolding place_by_next placed
  place-by-next-does q =
      let n = naming-in (length ws) i f here in
      let s : Sound ws e (by_next ws i j) (at L i.0 R) =
      record { listing = l; place = (ap (λ (w : Name). w.0) n, rw (n, q) prev-name, q) } in
      (rw (passes, sound-stands ws e _ (at L i.0 R) s), s)
