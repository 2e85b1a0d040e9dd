-- Pops do their plain edit. Assumes nothing.
use mathlib.Core.Path.{◌≡◌, refl, sym, ap, ◌∙◌}
use mathlib.Core.Bool.{true, false}
use mathlib.Core.List.{List, [], ◌∷◌, ◌++◌, reverse, reverse-reverse, append_assoc}
use Prim.Native.Nat.{ℕ}
use lib.Bits.{bit_xor}
use lib.ListN.{length}
use Rattle.words.specs.Names.{pool_fits}
use Rattle.words.specs.Pool.{outcome}
use Rattle.words.specs.Listing.{Listing}
use Rattle.answers.specs.declared.Refusal.TheVariants.{AtNull}
use Rattle.std.specs.Prelude.{Err}
use Rattle.ends.specs.declared.Ends.{Ends}
use Rattle.ends.specs.Ends.{is_empty, list_edited}
use Rattle.ends.proofs.Laws.Holds.{name-null}
use Rattle.cursor.specs.Cursor.{null_cursor}
use Rattle.moves.specs.Moves.{moved_next, moved_prev}
use Rattle.cursor.specs.Plain.{Place, at, at_null, nodes, mirror, next_place, prev_place, Sound}
use Rattle.cursor.proofs.Laws.Alone.{same-alone}
use Rattle.cursor.proofs.Laws.Mirror.{mirror-nodes}
use Rattle.moves.proofs.Laws.Moves.{next-sound, prev-sound}
use Rattle.cursor.proofs.Laws.Sound.{sound-ends-test}
use Rattle.remove.specs.Removes.{removed}
use Rattle.remove.specs.Plain.{plain_remove}
use Rattle.cursor.specs.Does.{linked_in}
use Rattle.remove.proofs.Laws.Remove.{removed-does}
use Rattle.list.specs.Lists.{without_cursor, pop_test, pop_front, pop_back}
use Rattle.list.specs.Plain.{as_list, plain_pop_front, plain_pop_back, DoesList}
use Rattle.list.proofs.Laws.Pushes.{sound-null, does-list}

module _ (ws : List ℕ) (e : Ends) (f : pool_fits (length ws) ≡ true) where
  -- of an empty list: 8
  none-test : Listing bit_xor ws e.head.0 e.tail.0 [] → pop_test ws e ≡ Err AtNull
  unfolding pop_test
  none-test l = rw (sound-ends-test ws e [] f l, ← l.first)

  some-test : (L : List ℕ) (x : ℕ) (R : List ℕ) → Listing bit_xor ws e.head.0 e.tail.0 (L ++ x ∷ R) → is_empty e ≡ false
  some-test [] x R l = rw (← l.first) (name-null x)
  some-test (y ∷ L) x R l = rw (← l.first) (name-null y)

  front-none : Listing bit_xor ws e.head.0 e.tail.0 [] → pop_front ws e ≡ outcome ws (list_edited (Err AtNull) e)
  unfolding pop_front
  front-none l = rw (none-test l)

  front-some : (L : List ℕ) (x : ℕ) (R : List ℕ) → Listing bit_xor ws e.head.0 e.tail.0 (L ++ x ∷ R)
      → pop_front ws e ≡ without_cursor (removed ws e (moved_next ws e (null_cursor e)))
  unfolding pop_front pop_test
  front-some L x R l = rw (sound-ends-test ws e (L ++ x ∷ R) f l, some-test L x R l)

  back_none : Listing bit_xor ws e.head.0 e.tail.0 [] → pop_back ws e ≡ outcome ws (list_edited (Err AtNull) e)
  unfolding pop_back
  back_none l = rw (none-test l)

  back_some : (L : List ℕ) (x : ℕ) (R : List ℕ) → Listing bit_xor ws e.head.0 e.tail.0 (L ++ x ∷ R)
      → pop_back ws e ≡ without_cursor (removed ws e (moved_prev ws e (null_cursor e)))
  unfolding pop_back pop_test
  back_some L x R l = rw (sound-ends-test ws e (L ++ x ∷ R) f l, some-test L x R l)

  nothing : Listing bit_xor ws e.head.0 e.tail.0 []
      → DoesList ws [] (outcome ws (list_edited (Err AtNull) e)) (as_list (plain_remove (linked_in ws) (at_null [])))
  nothing l = record { answer = refl; listing = l; marks = λ j. refl; alone = same-alone ws [] [] }

  pub pop-front-does : (xs : List ℕ) → Listing bit_xor ws e.head.0 e.tail.0 xs → DoesList ws xs (pop_front ws e) (plain_pop_front (linked_in ws) xs)
  pop-front-does [] l = rw (front-none l) (nothing l)
  pop-front-does (x ∷ xs) l =
      let s = next-sound ws e (null_cursor e) (at_null (x ∷ xs)) (sound-null ws e (x ∷ xs) l) in
      rw (front-some [] x xs l) (does-list ws (x ∷ xs) (at [] x xs) _ _ refl (removed-does ws e (moved_next ws e (null_cursor e)) [] x xs s))

  pub pop-back-does : (xs : List ℕ) → Listing bit_xor ws e.head.0 e.tail.0 xs → DoesList ws xs (pop_back ws e) (plain_pop_back (linked_in ws) xs)
  pop-back-does xs l = go (reverse xs) refl
    where
      same : (z : Place) → nodes (next_place z) ≡ nodes z
      same (at L x []) = refl
      same (at L x (y ∷ R)) = append_assoc L (x ∷ []) (y ∷ R)
      same (at_null []) = refl
      same (at_null (x ∷ ys)) = refl

      all : nodes (prev_place (at_null xs)) ≡ xs
      all = mirror-nodes (next_place (at_null (reverse xs))) ∙ ap reverse (same (at_null (reverse xs))) ∙ reverse-reverse xs

      back_at : Sound ws e (moved_prev ws e (null_cursor e)) (prev_place (at_null xs))
      back_at = prev-sound ws e (null_cursor e) (at_null xs) (sound-null ws e xs l)

      go : (r : List ℕ) → reverse xs ≡ r → DoesList ws xs (pop_back ws e) (plain_pop_back (linked_in ws) xs)
      go [] q =
          let n : xs ≡ [] = sym (reverse-reverse xs) ∙ ap reverse q in
          rw (n, back_none (rw n at l)) (nothing (rw n at l))
      go (y ∷ S) q =
          let z : prev_place (at_null xs) ≡ at (reverse S) y [] = ap (λ (r : List ℕ). mirror (next_place (at_null r))) q in
          let s : Sound ws e (moved_prev ws e (null_cursor e)) (at (reverse S) y []) = rw z at back_at in
          let n : reverse S ++ y ∷ [] ≡ xs = sym (ap nodes z) ∙ all in
          rw (z, back_some (reverse S) y [] s.listing)
          (does-list ws xs (at (reverse S) y []) _ _ n (removed-does ws e (moved_prev ws e (null_cursor e)) (reverse S) y [] s))
