-- Each command, by its code, on a desk that agrees with its history. Assumes nothing.
use mathlib.Core.Path.{◌≡◌, refl, ap}
use mathlib.Core.Bool.{true}
use mathlib.Core.List.{List, [], ◌∷◌, ◌++◌, reverse}
use Prim.Native.Nat.{ℕ, ◌+◌, ◌<◌}
use native.Mathlib.Omega.{arith}
use lib.Bits.{bit_xor}
use lib.ListN.{length}
use Rattle.words.specs.declared.names.Node.{Node}
use Rattle.words.specs.Names.{pool_fits}
use Rattle.words.specs.Pool.{Outcome, outcome}
use Rattle.words.specs.Listing.{Listing}
use Rattle.answers.specs.Answer.{done}
use Rattle.ends.specs.Ends.{empty_ends, turned}
use Rattle.cursor.specs.Cursor.{null_cursor}
use Rattle.cursor.specs.Plain.{Place, at_null, nodes, next_place, prev_place, Sound}
use Rattle.moves.specs.Moves.{move_next, move_prev, moved_next, moved_prev}
use Rattle.moves.proofs.Laws.Moves.{move-next-does, move-prev-does}
use Rattle.cursor.proofs.Laws.Sound.{sound-ends-test}
use Rattle.insert.specs.Inserts.{insert_after, insert_before}
use Rattle.remove.specs.Removes.{remove, replace}
use Rattle.cursor.specs.Does.{linked_in}
use Rattle.insert.specs.Plain.{place_after, place_before, plain_insert_after, plain_insert_before}
use Rattle.remove.specs.Plain.{plain_remove, plain_replace}
use Rattle.insert.proofs.Laws.Insert.{insert-after-does}
use Rattle.insert.proofs.Laws.Mirror.{insert-before-does}
use Rattle.remove.proofs.Laws.Remove.{remove-does}
use Rattle.remove.proofs.Laws.Replace.{replace-does}
use Rattle.insert.proofs.Laws.Few.{insert-after-few, insert-before-few}
use Rattle.remove.proofs.Laws.Few.{remove-few, replace-few}
use Rattle.list.specs.Lists.{push_front, push_back, pop_front, pop_back, fast_clear, reversed}
use Rattle.list.specs.Plain.{plain_push_front, plain_push_back, plain_pop_front, plain_pop_back}
use Rattle.list.proofs.Laws.Pushes.{sound-null, push-front-does, push-back-does}
use Rattle.list.proofs.Laws.Pops.{pop-front-does, pop-back-does}
use Rattle.list.proofs.Laws.Ends.{fast-clear-does, reverse-does}
use Rattle.list.proofs.Laws.Few.{push-front-few, push-back-few, pop-front-few, pop-back-few}
use Rattle.list.proofs.Laws.Refused.{push-front-unchanged, push-back-unchanged, pop-front-unchanged, pop-back-unchanged}
use Rattle.desk.specs.declared.Worked.{Worked}
use Rattle.desk.specs.Work.{row, with, at_cursor, on_list, to_null}
use Rattle.desk.specs.Step.{Desk, row_at}
use Rattle.history.specs.History.{History, PlainWorked, plain_worked, place_at, times, held, is_held, at_place, on_sequence}
use Rattle.history.specs.Follows.{Agrees}
use Rattle.history.proofs.Laws.Counts.{times-append, times-reverse}
use Rattle.history.proofs.Laws.Counted.{Counted}
use Rattle.history.proofs.Laws.Agrees.{counted}
use Rattle.history.proofs.Laws.Plain.{times-after, times-before, times-next, times-prev, inserting, insert-asks, insert-counted, remove-asks, remove-counted, replace-asks, replace-counted}
use Rattle.history.proofs.Laws.Comes.{Comes, after_one, list_held, one-count, still, at-cursor, on-list}

-- an empty list
pub empty-listing : (ws : List ℕ) → Listing bit_xor ws 0 0 []
empty-listing ws = record { distinct = tt; ranged = tt; first = refl; last = refl; chain = tt }

pub empty-sound : (ws : List ℕ) → Sound ws empty_ends (null_cursor empty_ends) (at_null [])
empty-sound ws = sound-null ws empty_ends [] (empty-listing ws)

module _ (n : ℕ) (d : Desk) (h : History) (g : Agrees n d h) (f : pool_fits n ≡ true) (l m : ℕ) (a : l < length h.places) (b : m < length h.places) where
  abbrev ws : List ℕ
  ws = d.words

  abbrev z : Place
  z = place_at h l

  abbrev y : Place
  y = place_at h m

  abbrev does : Outcome Worked → PlainWorked → Type 0
  does = Comes n d h g l m a b

  fits : pool_fits (length ws) ≡ true
  fits = rw g.long f

  sound : Sound ws (row_at d l).ends (row_at d l).cursor z
  sound = g.sound l a

  listing : Listing bit_xor ws (row_at d l).ends.head.0 (row_at d l).ends.tail.0 (nodes z)
  listing = sound.listing

  -- which nodes are linked, by the words and by the history
  asks : (i : ℕ) → i < n → linked_in ws i ≡ is_held h i
  asks i r = g.linked i r

  -- ---- edits at the cursor

  pub insert-after : (i : Node) → does (with (λ r. at_cursor r (row_at d m)) (insert_after ws (row_at d l).ends (row_at d l).cursor i))
      (at_place (plain_insert_after n (is_held h) i.0 z) y h.stranded)
  unfolding plain_insert_after
  insert-after i =
      at-cursor n d h g l m a b _ (inserting (place_after i.0 z) n (linked_in ws) i.0 z) (inserting (place_after i.0 z) n (is_held h) i.0 z)
      (rw g.long at (insert-after-does ws (row_at d l).ends (row_at d l).cursor z i fits sound))
      (insert-asks (place_after i.0 z) n i.0 z (linked_in ws) (is_held h) (asks i.0))
      (insert-counted (place_after i.0 z) n i.0 z (linked_in ws) (held h) _ (λ x. times-after x i.0 z) (counted n d h g) (one-count n d h g l m a b _))
      (insert-after-few ws (row_at d l).ends (row_at d l).cursor i)

  pub insert-before : (i : Node) → does (with (λ r. at_cursor r (row_at d m)) (insert_before ws (row_at d l).ends (row_at d l).cursor i))
      (at_place (plain_insert_before n (is_held h) i.0 z) y h.stranded)
  unfolding plain_insert_before
  insert-before i =
      at-cursor n d h g l m a b _ (inserting (place_before i.0 z) n (linked_in ws) i.0 z) (inserting (place_before i.0 z) n (is_held h) i.0 z)
      (rw g.long at (insert-before-does ws (row_at d l).ends (row_at d l).cursor z i fits sound))
      (insert-asks (place_before i.0 z) n i.0 z (linked_in ws) (is_held h) (asks i.0))
      (insert-counted (place_before i.0 z) n i.0 z (linked_in ws) (held h) _ (λ x. times-before x i.0 z) (counted n d h g) (one-count n d h g l m a b _))
      (insert-before-few ws (row_at d l).ends (row_at d l).cursor i)

  pub removes : does (with (λ r. at_cursor r (row_at d m)) (remove ws (row_at d l).ends (row_at d l).cursor)) (at_place (plain_remove (is_held h) z) y h.stranded)
  removes =
      at-cursor n d h g l m a b _ (plain_remove (linked_in ws) z) (plain_remove (is_held h) z)
      (remove-does ws (row_at d l).ends (row_at d l).cursor z fits sound)
      (remove-asks (linked_in ws) (is_held h) z)
      (remove-counted n (linked_in ws) (held h) _ z (counted n d h g) (one-count n d h g l m a b _))
      (remove-few ws (row_at d l).ends (row_at d l).cursor)

  pub replaces : (i : Node) → does (with (λ r. at_cursor r (row_at d m)) (replace ws (row_at d l).ends (row_at d l).cursor i))
      (at_place (plain_replace n (is_held h) i.0 z) y h.stranded)
  replaces i =
      at-cursor n d h g l m a b _ (plain_replace n (linked_in ws) i.0 z) (plain_replace n (is_held h) i.0 z)
      (rw g.long at (replace-does ws (row_at d l).ends (row_at d l).cursor i fits z sound))
      (replace-asks n (linked_in ws) (is_held h) i.0 z (asks i.0))
      (replace-counted n (linked_in ws) (held h) _ i.0 z (counted n d h g) (list_held n d h g l m a b) (one-count n d h g l m a b _))
      (replace-few ws (row_at d l).ends (row_at d l).cursor i)

  -- ---- moves

  pub next : does (outcome ws (at_cursor (move_next ws (row_at d l).ends (row_at d l).cursor) (row_at d m))) (plain_worked done (next_place z) y h.stranded)
  unfolding at_cursor
  next =
      let k = move-next-does ws (row_at d l).ends (row_at d l).cursor z fits sound in
      rw k.0
      (still n d h g l m a b done (row (row_at d l).ends (moved_next ws (row_at d l).ends (row_at d l).cursor)) (next_place z) h.stranded k.1
      (λ x. ap (λ (v : ℕ). v + times x h.stranded) (times-next x z)))

  pub prev : does (outcome ws (at_cursor (move_prev ws (row_at d l).ends (row_at d l).cursor) (row_at d m))) (plain_worked done (prev_place z) y h.stranded)
  unfolding at_cursor
  prev =
      let k = move-prev-does ws (row_at d l).ends (row_at d l).cursor z fits sound in
      rw k.0
      (still n d h g l m a b done (row (row_at d l).ends (moved_prev ws (row_at d l).ends (row_at d l).cursor)) (prev_place z) h.stranded k.1
      (λ x. ap (λ (v : ℕ). v + times x h.stranded) (times-prev x z)))

  -- ---- the list as a whole, its words staying

  pub reverses : does (outcome ws (on_list (reversed ws (row_at d l).ends) (row_at d l) (row_at d m))) (plain_worked done (at_null (reverse (nodes z))) y h.stranded)
  unfolding on_list
  reverses =
      let k = reverse-does ws (row_at d l).ends (nodes z) fits listing in
      rw k.0
      (still n d h g l m a b done (row (turned (row_at d l).ends) (null_cursor (turned (row_at d l).ends))) (at_null (reverse (nodes z))) h.stranded
      (sound-null ws (turned (row_at d l).ends) (reverse (nodes z)) k.1)
      (λ x. ap (λ (v : ℕ). v + times x h.stranded) (times-reverse x (nodes z))))

  pub fast-clears : does (outcome ws (on_list (fast_clear ws (row_at d l).ends) (row_at d l) (row_at d m))) (plain_worked done (at_null []) y (nodes z ++ h.stranded))
  unfolding on_list times
  fast-clears =
      let k = fast-clear-does ws (row_at d l).ends (nodes z) fits listing in
      rw k.0
      (still n d h g l m a b done (row empty_ends (null_cursor empty_ends)) (at_null []) (nodes z ++ h.stranded) (empty-sound ws)
      (λ x. let e : times x (nodes z ++ h.stranded) ≡ times x (nodes z) + times x h.stranded = times-append x (nodes z) h.stranded in omega arith))

  pub nulls : does (outcome ws (to_null ws (row_at d l) (row_at d m))) (plain_worked done (at_null (nodes z)) y h.stranded)
  unfolding to_null
  nulls =
      rw (sound-ends-test ws (row_at d l).ends (nodes z) fits listing)
      (still n d h g l m a b done (row (row_at d l).ends (null_cursor (row_at d l).ends)) (at_null (nodes z)) h.stranded
      (sound-null ws (row_at d l).ends (nodes z) listing) (λ x. refl))

  -- ---- pushes and pops

  pub push-front : (i : Node) → does (with (λ r. on_list r (row_at d l) (row_at d m)) (push_front ws (row_at d l).ends i))
      (on_sequence (plain_push_front n (is_held h) i.0 (nodes z)) z y h.stranded)
  unfolding plain_insert_after
  push-front i =
      let e = insert-asks (at_null (i.0 ∷ nodes z)) n i.0 (at_null (nodes z)) (linked_in ws) (is_held h) (asks i.0) in
      on-list n d h g l m a b _ (plain_push_front n (linked_in ws) i.0 (nodes z)) (plain_push_front n (is_held h) i.0 (nodes z))
      (rw g.long at (push-front-does ws (row_at d l).ends (nodes z) i fits listing))
      (push-front-unchanged ws (row_at d l).ends i)
      (e.0, ap nodes e.1)
      (insert-counted (at_null (i.0 ∷ nodes z)) n i.0 (at_null (nodes z)) (linked_in ws) (held h) _ (λ x. times-after x i.0 (at_null (nodes z))) (counted n d h g)
      (one-count n d h g l m a b (at_null (nodes (inserting (at_null (i.0 ∷ nodes z)) n (linked_in ws) i.0 (at_null (nodes z))).place))))
      (push-front-few ws (row_at d l).ends i)

  pub push-back : (i : Node) → does (with (λ r. on_list r (row_at d l) (row_at d m)) (push_back ws (row_at d l).ends i))
      (on_sequence (plain_push_back n (is_held h) i.0 (nodes z)) z y h.stranded)
  unfolding plain_insert_before
  push-back i =
      let e = insert-asks (at_null (nodes z ++ i.0 ∷ [])) n i.0 (at_null (nodes z)) (linked_in ws) (is_held h) (asks i.0) in
      on-list n d h g l m a b _ (plain_push_back n (linked_in ws) i.0 (nodes z)) (plain_push_back n (is_held h) i.0 (nodes z))
      (rw g.long at (push-back-does ws (row_at d l).ends (nodes z) i fits listing))
      (push-back-unchanged ws (row_at d l).ends i)
      (e.0, ap nodes e.1)
      (insert-counted (at_null (nodes z ++ i.0 ∷ [])) n i.0 (at_null (nodes z)) (linked_in ws) (held h) _ (λ x. times-before x i.0 (at_null (nodes z))) (counted n d h g)
      (one-count n d h g l m a b (at_null (nodes (inserting (at_null (nodes z ++ i.0 ∷ [])) n (linked_in ws) i.0 (at_null (nodes z))).place))))
      (push-back-few ws (row_at d l).ends i)

  -- a pop is a remove at another place of the same nodes
  pop-counted : (v : Place) → ((x : ℕ) → times x (nodes v) ≡ times x (nodes z))
      → Counted n (after_one n d h g l m a b (at_null (nodes (plain_remove (linked_in ws) v).place)) h.stranded) (plain_remove (linked_in ws) v).linked
  pop-counted v c =
      remove-counted n (linked_in ws) (held h) _ v (counted n d h g)
      (λ x. moved x (c x) (one-count n d h g l m a b (at_null (nodes (plain_remove (linked_in ws) v).place)) x))
    where
      moved : (x : ℕ) → times x (nodes v) ≡ times x (nodes z)
          → after_one n d h g l m a b (at_null (nodes (plain_remove (linked_in ws) v).place)) h.stranded x + times x (nodes z)
          ≡ held h x + times x (nodes (plain_remove (linked_in ws) v).place)
          → after_one n d h g l m a b (at_null (nodes (plain_remove (linked_in ws) v).place)) h.stranded x + times x (nodes v)
          ≡ held h x + times x (nodes (plain_remove (linked_in ws) v).place)
      moved x p q = omega arith

  pub pop-front : does (with (λ r. on_list r (row_at d l) (row_at d m)) (pop_front ws (row_at d l).ends))
      (on_sequence (plain_pop_front (is_held h) (nodes z)) z y h.stranded)
  pop-front =
      let e = remove-asks (linked_in ws) (is_held h) (next_place (at_null (nodes z))) in
      on-list n d h g l m a b _ (plain_pop_front (linked_in ws) (nodes z)) (plain_pop_front (is_held h) (nodes z))
      (pop-front-does ws (row_at d l).ends fits (nodes z) listing)
      (pop-front-unchanged ws (row_at d l).ends)
      (e.0, ap nodes e.1)
      (pop-counted (next_place (at_null (nodes z))) (λ x. times-next x (at_null (nodes z))))
      (pop-front-few ws (row_at d l).ends)

  pub pop-back : does (with (λ r. on_list r (row_at d l) (row_at d m)) (pop_back ws (row_at d l).ends))
      (on_sequence (plain_pop_back (is_held h) (nodes z)) z y h.stranded)
  pop-back =
      let e = remove-asks (linked_in ws) (is_held h) (prev_place (at_null (nodes z))) in
      on-list n d h g l m a b _ (plain_pop_back (linked_in ws) (nodes z)) (plain_pop_back (is_held h) (nodes z))
      (pop-back-does ws (row_at d l).ends fits (nodes z) listing)
      (pop-back-unchanged ws (row_at d l).ends)
      (e.0, ap nodes e.1)
      (pop-counted (prev_place (at_null (nodes z))) (λ x. times-prev x (at_null (nodes z))))
      (pop-back-few ws (row_at d l).ends)
