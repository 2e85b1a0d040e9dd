-- The calls that make a cursor keep to the table. Assumes nothing.
use mathlib.Core.Path.{◌≡◌, refl, sym, ap, ◌∙◌}
use mathlib.Core.Bool.{Bool, true, false, cond}
use mathlib.Core.List.{List, [], ◌∷◌}
use Prim.Native.Nat.{ℕ, ◌<◌}
use lib.Bits.{bit_xor}
use lib.Dec.{ltb}
use lib.ListN.{length, get_or}
use borrow.Author.Tests.{ltb-true, lt-ltb}
use Rattle.std.specs.Prelude.{Option, Some, None, Ok, Err, is_err}
use Rattle.words.specs.declared.names.Node.{Node}
use Rattle.words.specs.Names.{name, naming, pool_fits}
use Rattle.words.proofs.Laws.Pool.{word-name}
use Rattle.links.specs.XorOps.{next_of, prev_of}
use Rattle.answers.specs.declared.Refusal.TheVariants.{CursorDoesNotStand, NoSuchNode}
use Rattle.answers.specs.Answer.{Answer, done, Tested, passed, if_refused, need, and_then}
use Rattle.answers.proofs.Laws.Ladder.{not-both}
use Rattle.ends.specs.declared.Ends.{Ends}
use Rattle.ends.specs.Tests.{ends_test, stands}
use Rattle.cursor.specs.declared.Cursor.{Cursor}
use Rattle.cursor.specs.declared.Edited.{Edited}
use Rattle.cursor.specs.Cursor.{cursor_of, null_cursor, cursor_stands, edited}
use Rattle.cursor.proofs.Laws.Common.{naming-in}
use Rattle.moves.specs.Moves.{moved_next, moved_prev}
use Rattle.list.specs.Lists.{at_front, at_back}
use Rattle.place.specs.Places.{claimed, known, claim_test, placed as placed_at, place_by_prev, place_by_next}
use Rattle.table.specs.Calls.{Placing, at-front, at-back, by-prev, by-next, placing, cursor-back, Left, left, placed}
use Rattle.table.specs.Table.{FirstFailing, pool, ends, standing, node, Known, neighbour, named, place_row}
use Rattle.table.specs.Refused.{Keeps}
use Rattle.table.proofs.Laws.Ladder.{rung, flag, after, made, done_all}
use Rattle.table.proofs.Laws.Tests.{ends-first, node-rung}

-- refused, it is the null cursor of the given ends
abbrev UnchangedPlace : Ends → Edited → Type 0
UnchangedPlace e d = is_err d.answer ≡ true → d ≡ edited d.answer e (null_cursor e)

-- ---- at the ends

module _ (ws : List ℕ) (e : Ends) (c : Cursor) where
  abbrev at-end : Tested → Edited
  at-end t = if_refused t (λ r. edited (Err r) e (null_cursor e)) (edited done e c)

  at-end-first : FirstFailing (pool ws ∷ ends ws e ∷ []) (at-end (ends_test ws e)).answer
  at-end-first =
      made {A = Edited} (λ d. d.answer) (pool ws ∷ ends ws e ∷ []) (ends_test ws e) (λ r. edited (Err r) e (null_cursor e)) (edited done e c) (λ r. refl)
      refl (ends-first ws e)

  at-end-unchanged : (t : Tested) → UnchangedPlace e (at-end t)
  at-end-unchanged (Err r) h = refl
  at-end-unchanged (Ok u) h = absurd (not-both (sym h))

front-first : (ws : List ℕ) (e : Ends) → FirstFailing (place_row ws at-front e) (at_front ws e).answer
unfolding at_front
front-first ws e = at-end-first ws e (moved_next ws e (null_cursor e))

front-unchanged : (ws : List ℕ) (e : Ends) → UnchangedPlace e (at_front ws e)
unfolding at_front
front-unchanged ws e = at-end-unchanged ws e (moved_next ws e (null_cursor e)) (ends_test ws e)

back-first : (ws : List ℕ) (e : Ends) → FirstFailing (place_row ws at-back e) (at_back ws e).answer
unfolding at_back
back-first ws e = at-end-first ws e (moved_prev ws e (null_cursor e))

back-unchanged : (ws : List ℕ) (e : Ends) → UnchangedPlace e (at_back ws e)
unfolding at_back
back-unchanged ws e = at-end-unchanged ws e (moved_prev ws e (null_cursor e)) (ends_test ws e)

-- ---- by a node and a neighbour

known_is : (n : ℕ) (j : Option Node) → known n j ≡ true → Known n j
known_is n (Some i) h = ltb-true i.0 n h
known_is n None h = tt

is_known : (n : ℕ) (j : Option Node) → Known n j → known n j ≡ true
is_known n (Some i) h = lt-ltb i.0 n h
is_known n None h = refl

claimed-named : (n : ℕ) (j : Option Node) → pool_fits n ≡ true → Known n j → claimed j ≡ record { 0 = named j }
claimed-named n (Some i) f h = naming-in n i f h
claimed-named n None f h = refl

module _ (ws : List ℕ) (e : Ends) (i : Node) (j : Option Node) where
  claim-first : FirstFailing (pool ws ∷ ends ws e ∷ node ws i ∷ neighbour ws j ∷ []) (claim_test ws e i j)
  unfolding claim_test
  claim-first =
      let n = length ws in
      let last = need (known n j) NoSuchNode passed in
      after (pool ws ∷ ends ws e ∷ []) (node ws i ∷ neighbour ws j ∷ []) (ends_test ws e) (need (ltb i.0 n) NoSuchNode last) (ends-first ws e)
      (λ h. node-rung ws i last (neighbour ws j ∷ [])
      (λ p. rung (known n j) NoSuchNode (Known n j) passed [] (λ k. known_is n j k) (λ k. is_known n j k) (λ q. refl)))

  -- what is made of the tests and of the place
  abbrev by-claim : Tested → Bool → Cursor → Edited
  by-claim t s c =
      if_refused t (λ r. edited (Err r) e (null_cursor e)) (cond s (edited done e c) (edited (Err CursorDoesNotStand) e (null_cursor e)))

  ladder : (t : Tested) (s : Bool) (c : Cursor) → (by-claim t s c).answer ≡ and_then t (need s CursorDoesNotStand done)
  ladder (Err r) s c = refl
  ladder (Ok u) true c = refl
  ladder (Ok u) false c = refl

  unchanged : (t : Tested) (s : Bool) (c : Cursor) → UnchangedPlace e (by-claim t s c)
  unchanged (Err r) s c h = refl
  unchanged (Ok u) true c h = absurd (not-both (sym h))
  unchanged (Ok u) false c h = refl

  -- the cursor is the one that the table speaks of, where the tests pass
  claims : (c : Cursor) (w p q : ℕ)
      → (pool_fits (length ws) ≡ true → i.0 < length ws → Known (length ws) j
      → c ≡ cursor_of (record { 0 = w }) (record { 0 = p }) (record { 0 = q }))
      → FirstFailing (pool ws ∷ ends ws e ∷ node ws i ∷ neighbour ws j ∷ standing ws e w p q ∷ [])
      (by-claim (claim_test ws e i j) (cursor_stands ws e c) c).answer
  claims c w p q k =
      let ts = pool ws ∷ ends ws e ∷ node ws i ∷ neighbour ws j ∷ [] in
      rw (ladder (claim_test ws e i j) (cursor_stands ws e c) c)
      (after ts (standing ws e w p q ∷ []) (claim_test ws e i j) (need (cursor_stands ws e c) CursorDoesNotStand done) claim-first
      (λ h. let a = done_all ts (claim_test ws e i j) claim-first h in
      rw (k a.0 a.1.1.0 a.1.1.1.0) (flag (stands ws e w p q) CursorDoesNotStand done [] (λ r. refl))))

  abbrev prev_cursor : Cursor
  prev_cursor = cursor_of (naming i) (claimed j) (record { 0 = next_of ws (naming i).0 (claimed j).0 })

  abbrev next_cursor : Cursor
  next_cursor = cursor_of (naming i) (record { 0 = prev_of ws (naming i).0 (claimed j).0 }) (claimed j)

  prev-first : FirstFailing (place_row ws (by-prev i j) e) (place_by_prev ws e i j).answer
  unfolding place_by_prev placed_at next_of
  prev-first =
      claims prev_cursor (name i.0) (named j) (bit_xor (get_or ws i.0 0) (named j))
      (λ f h k. rw (naming-in (length ws) i f h, claimed-named (length ws) j f k, word-name ws i.0))

  prev-unchanged : UnchangedPlace e (place_by_prev ws e i j)
  unfolding place_by_prev placed_at
  prev-unchanged = unchanged (claim_test ws e i j) (cursor_stands ws e prev_cursor) prev_cursor

  next-first : FirstFailing (place_row ws (by-next i j) e) (place_by_next ws e i j).answer
  unfolding place_by_next placed_at prev_of
  next-first =
      claims next_cursor (name i.0) (bit_xor (get_or ws i.0 0) (named j)) (named j)
      (λ f h k. rw (naming-in (length ws) i f h, claimed-named (length ws) j f k, word-name ws i.0))

  next-unchanged : UnchangedPlace e (place_by_next ws e i j)
  unfolding place_by_next placed_at
  next-unchanged = unchanged (claim_test ws e i j) (cursor_stands ws e next_cursor) next_cursor

-- ---- all of them

keeps : (ws ms : List ℕ) (k : Placing) (e : Ends) → FirstFailing (place_row ws k e) (placed ws k e).answer → UnchangedPlace e (placed ws k e)
    → Keeps ws ms (placing k e)
keeps ws ms k e f u =
    record {
      tests = f;
      unchanged = λ r h.
          ap {A = Edited} {B = Left} (λ d. left ws ms d.answer (cursor-back d.ends d.cursor) []) (u (ap is_err h))
          ∙ ap (λ (a : Answer). left ws ms a (cursor-back e (null_cursor e)) []) h;
    }

pub placing-keeps : (ws ms : List ℕ) (k : Placing) (e : Ends) → Keeps ws ms (placing k e)
placing-keeps ws ms at-front e = keeps ws ms at-front e (front-first ws e) (front-unchanged ws e)
placing-keeps ws ms at-back e = keeps ws ms at-back e (back-first ws e) (back-unchanged ws e)
placing-keeps ws ms (by-prev i j) e = keeps ws ms (by-prev i j) e (prev-first ws e i j) (prev-unchanged ws e i j)
placing-keeps ws ms (by-next i j) e = keeps ws ms (by-next i j) e (next-first ws e i j) (next-unchanged ws e i j)
