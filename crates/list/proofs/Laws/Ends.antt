-- Front and back, take, fast clear and reverse, on a listing. None of them changes a word. Assumes nothing.
use mathlib.Core.Path.{◌≡◌}
use mathlib.Core.Bool.{true, false}
use mathlib.Core.List.{List, [], ◌∷◌, reverse}
use Prim.Native.Nat.{ℕ}
use lib.Bits.{bit_xor}
use lib.ListN.{length, get_or}
use Rattle.words.specs.Names.{is_linked, pool_fits}
use Rattle.words.specs.Listing.{All, Listing}
use Rattle.links.proofs.Laws.XorListing.{xor-listing-reverse}
use Rattle.links.proofs.Laws.XorListing.{xor-listing-linked}
use Rattle.answers.specs.declared.Refusal.TheVariants.{NotEmpty}
use Rattle.std.specs.Prelude.{Err}
use Rattle.answers.specs.Answer.{done}
use Rattle.ends.specs.declared.Ends.{Ends}
use Rattle.ends.specs.Ends.{empty_ends, is_empty, turned, list_edited}
use Rattle.ends.proofs.Laws.Holds.{name-null, listing-ends-hold}
use Rattle.cursor.specs.Cursor.{null_cursor, edited}
use Rattle.moves.specs.Moves.{moved_next, moved_prev}
use Rattle.cursor.specs.Plain.{at_null, next_place, prev_place, Sound}
use Rattle.moves.proofs.Laws.Moves.{next-sound, prev-sound}
use Rattle.cursor.proofs.Laws.Sound.{sound-ends-test}
use Rattle.list.specs.Lists.{taken, at_front, at_back, take_test, take, fast_clear, reversed}
use Rattle.list.proofs.Laws.Pushes.{sound-null}

module _ (ws : List ℕ) (e : Ends) (xs : List ℕ) (f : pool_fits (length ws) ≡ true) (l : Listing bit_xor ws e.head.0 e.tail.0 xs) where
  pub front-does : (at_front ws e ≡ edited done e (moved_next ws e (null_cursor e))) × Sound ws e (moved_next ws e (null_cursor e)) (next_place (at_null xs))
  unfolding at_front
  front-does = (rw (sound-ends-test ws e xs f l), next-sound ws e (null_cursor e) (at_null xs) (sound-null ws e xs l))

  pub back-does : (at_back ws e ≡ edited done e (moved_prev ws e (null_cursor e))) × Sound ws e (moved_prev ws e (null_cursor e)) (prev_place (at_null xs))
  unfolding at_back
  back-does = (rw (sound-ends-test ws e xs f l), prev-sound ws e (null_cursor e) (at_null xs) (sound-null ws e xs l))

  -- into an empty list the whole one moves; any other list is left alone
  pub take-empty : (o : Ends) → Listing bit_xor ws o.head.0 o.tail.0 [] → take ws e o ≡ taken done empty_ends e
  unfolding take take_test
  take-empty o k = let n : is_empty o ≡ true = rw (← k.first) in rw (sound-ends-test ws e xs f l, listing-ends-hold ws o [] k, n)

  pub take-full : (o : Ends) (y : ℕ) (ys : List ℕ) → Listing bit_xor ws o.head.0 o.tail.0 (y ∷ ys) → take ws e o ≡ taken (Err NotEmpty) e o
  unfolding take take_test
  take-full o y ys k =
      let n : is_empty o ≡ false = rw (← k.first) (name-null y) in rw (sound-ends-test ws e xs f l, listing-ends-hold ws o (y ∷ ys) k, n)

  -- the list is empty then, and its nodes are still linked
  pub fast-clear-does : (fast_clear ws e ≡ list_edited done empty_ends) × All (λ x. is_linked (get_or ws x 0) ≡ true) xs
  unfolding fast_clear
  fast-clear-does = (rw (sound-ends-test ws e xs f l), xor-listing-linked ws e.head.0 e.tail.0 xs l)

  -- the same words list the reverse
  pub reverse-does : (reversed ws e ≡ list_edited done (turned e)) × Listing bit_xor ws e.tail.0 e.head.0 (reverse xs)
  unfolding reversed
  reverse-does = (rw (sound-ends-test ws e xs f l), xor-listing-reverse ws e.head.0 e.tail.0 xs l)
