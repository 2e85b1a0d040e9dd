-- Demand 2: on a sound list with a true cursor, and for two lists that share no node, every call gives what the plain edit of
-- the sequence gives: the answer with the node handed out, the nodes and their order, the cursor, the linked marks; and it
-- leaves every other list alone. `Sound`, `Does`, `DoesTwo`, `DoesList` and `LeavesAlone` say so in full.
-- A call that borrows the words only to read leaves them: what it leaves is `outcome ws` and what it hands back.
use Rattle.std.specs.Prelude.{ℕ, ◌≡◌, Bool, true, List, [], ◌∷◌, ◌++◌, eqb, length}
use Rattle.std.specs.Int.Bits.{bit_xor}
use Rattle.words.specs.declared.names.Node.{Node}
use Rattle.words.specs.Names.{pool_fits, unlinked_marker, decoding}
use Rattle.words.specs.Pool.{outcome}
use Rattle.words.specs.Listing.{All, Apart, Listing}
use Rattle.answers.specs.Answer.{done}
use Rattle.ends.specs.declared.Ends.{Ends}
use Rattle.ends.specs.Ends.{empty_ends, is_empty}
use Rattle.cursor.specs.declared.Cursor.{Cursor}
use Rattle.cursor.specs.declared.Edited.{Edited}
use Rattle.cursor.specs.Cursor.{null_cursor}
use Rattle.moves.specs.Moves.{move_next, move_prev}
use Rattle.cursor.specs.Plain.{Place, at, at_null, nodes, next_place, prev_place, Sound}
use Rattle.cursor.specs.Does.{linked_in, Does}
use Rattle.insert.specs.Inserts.{insert_after, insert_before}
use Rattle.insert.specs.Plain.{plain_insert_after, plain_insert_before}
use Rattle.remove.specs.Removes.{remove, replace}
use Rattle.remove.specs.Plain.{plain_remove, plain_replace}
use Rattle.splice.specs.Splices.{splice_after, splice_before}
use Rattle.splice.specs.Plain.{plain_splice_after, plain_splice_before, DoesTwo}
use Rattle.split.specs.Splits.{split_after, split_before}
use Rattle.split.specs.Plain.{plain_split_after, plain_split_before}
use Rattle.list.specs.Lists.{at_front, at_back, push_front, push_back, pop_front, pop_back, take, fast_clear, reversed}
use Rattle.list.specs.Plain.{plain_push_front, plain_push_back, plain_pop_front, plain_pop_back, DoesList}
use Rattle.place.specs.Places.{place_by_prev, place_by_next}
use Rattle.place.specs.Plain.{next_node, prev_node}
use Rattle.iter.specs.Iter.{iter_of}
use Rattle.iter.specs.Plain.{plain_run, iter_run}
use Rattle.records.specs.Records.{records_fit, read_test, read_at}
use Rattle.walk.specs.Marks.{paint, unmarked, marking}
use Rattle.walk.specs.Calls.{walk_all, clear_all}
use Rattle.promises.specs.Plain.{plain_reverse, plain_clear, plain_fast_clear, plain_take, under, plain_read_test, plain_read, left_by_take, left_by_clear}

-- What is promised of a call that makes a cursor and edits nothing: it is done, it hands back the ends that it was given, and
-- its cursor is true at the place z.
pub record Reaches (ws : List ℕ) (e : Ends) (r : Edited) (z : Place) : Type 0 where
  pub answer : r.answer ≡ done
  pub ends : r.ends ≡ e
  pub sound : Sound ws e r.cursor z

-- What is promised of a read of records, with this many bytes a node: the answer, and the part that it hands back.
pub record Reads (ws : List ℕ) (e : Ends) (c : Cursor) (rs : List ℕ) (width : ℕ) (z : Place) : Type 0 where
  pub answer : read_test ws e c (length rs) width ≡ plain_read_test z
  pub part : read_at ws e c rs width ≡ plain_read rs width z

-- The calls at a cursor, at the place z. A peek is a move whose cursor one need not keep.
pub record AtCursor (ws : List ℕ) (e : Ends) (c : Cursor) (z : Place) : Type 0 where
  pub node : decoding (length ws) c.current ≡ under z
  pub move-next : Reaches ws e (move_next ws e c) (next_place z)
  pub move-prev : Reaches ws e (move_prev ws e c) (prev_place z)
  pub read : (rs : List ℕ) (width : ℕ) → records_fit (length ws) width (length rs) ≡ true → Reads ws e c rs width z
  pub insert-after : (i : Node) → Does ws z (insert_after ws e c i) (plain_insert_after (length ws) (linked_in ws) i.0 z)
  pub insert-before : (i : Node) → Does ws z (insert_before ws e c i) (plain_insert_before (length ws) (linked_in ws) i.0 z)
  pub remove : Does ws z (remove ws e c) (plain_remove (linked_in ws) z)
  pub replace : (i : Node) → Does ws z (replace ws e c i) (plain_replace (length ws) (linked_in ws) i.0 z)

-- The calls at a cursor that concern another list, with the sequence ys.
pub record AtBoth (ws : List ℕ) (e : Ends) (c : Cursor) (o : Ends) (z : Place) (ys : List ℕ) : Type 0 where
  pub splice-after : DoesTwo ws z ys (splice_after ws e c o) (plain_splice_after ys z)
  pub splice-before : DoesTwo ws z ys (splice_before ws e c o) (plain_splice_before ys z)
  pub split-after : DoesTwo ws z ys (split_after ws e c o) (plain_split_after ys z)
  pub split-before : DoesTwo ws z ys (split_before ws e c o) (plain_split_before ys z)

-- What is promised of a clear of the list xs with the marks ms, besides its plain edit: its nodes have the unlinked marker and no
-- other word changes; the marks are 1 on the list, and 0 elsewhere.
pub record Clears (ws ms : List ℕ) (e : Ends) (xs : List ℕ) : Type 0 where
  pub does : DoesList ws xs (left_by_clear (clear_all ws ms e)) (plain_clear (linked_in ws) xs)
  pub words : (clear_all ws ms e).words ≡ paint ws unlinked_marker xs
  pub marks : (clear_all ws ms e).result.marks ≡ paint (unmarked ms) 1 xs

-- The calls that make a cursor on a list with the sequence xs: at null, at either end, and at any node that is claimed to be beside
-- its real neighbour.
pub record CursorsOn (ws : List ℕ) (e : Ends) (xs : List ℕ) : Type 0 where
  pub null : Sound ws e (null_cursor e) (at_null xs)
  pub front : Reaches ws e (at_front ws e) (next_place (at_null xs))
  pub back : Reaches ws e (at_back ws e) (prev_place (at_null xs))
  pub by-prev : (L : List ℕ) (i : Node) (R : List ℕ) → L ++ i.0 ∷ R ≡ xs → Reaches ws e (place_by_prev ws e i (prev_node L)) (at L i.0 R)
  pub by-next : (L : List ℕ) (i : Node) (R : List ℕ) → L ++ i.0 ∷ R ≡ xs → Reaches ws e (place_by_next ws e i (next_node R)) (at L i.0 R)

-- The calls on a list with the sequence xs.
pub record OnList (ws : List ℕ) (e : Ends) (xs : List ℕ) : Type 0 where
  pub is-empty : is_empty e ≡ eqb (length xs) 0
  pub cursors : CursorsOn ws e xs
  -- any mix of steps from the front and from the back
  pub iterate : (bs : List Bool) → iter_run ws bs (iter_of e) ≡ plain_run bs xs
  pub push-front : (i : Node) → DoesList ws xs (push_front ws e i) (plain_push_front (length ws) (linked_in ws) i.0 xs)
  pub push-back : (i : Node) → DoesList ws xs (push_back ws e i) (plain_push_back (length ws) (linked_in ws) i.0 xs)
  pub pop-front : DoesList ws xs (pop_front ws e) (plain_pop_front (linked_in ws) xs)
  pub pop-back : DoesList ws xs (pop_back ws e) (plain_pop_back (linked_in ws) xs)
  pub take : (o : Ends) (ys : List ℕ) → Listing bit_xor ws o.head.0 o.tail.0 ys
      → DoesTwo ws (at_null xs) ys (left_by_take ws (take ws e o)) (plain_take ys xs)
  pub reversal : DoesList ws xs (outcome ws (reversed ws e)) (plain_reverse (linked_in ws) xs)
  -- a fast clear strands its nodes: the list is empty, and they are linked still
  pub fast-clear : DoesList ws xs (outcome ws (fast_clear ws e)) (plain_fast_clear (linked_in ws) xs)
  pub stranded : All (λ x. linked_in ws x ≡ true) xs
  -- clear and walk, with one mark a node, whatever it is
  pub clear : (ms : List ℕ) → length ms ≡ length ws → Clears ws ms e xs
  pub walk : (ms : List ℕ) → length ms ≡ length ws
      → walk_all ws ms e ≡ marking (paint (unmarked ms) 1 xs) (record { answer = done; count = length xs })

-- All of it, for every pool within the limit; and a list that is new has the empty sequence.
pub record Demand2 : Type 0 where
  pub new : (ws : List ℕ) → Listing bit_xor ws empty_ends.head.0 empty_ends.tail.0 []
  pub at-cursor : (ws : List ℕ) (e : Ends) (c : Cursor) (z : Place) → pool_fits (length ws) ≡ true → Sound ws e c z → AtCursor ws e c z
  pub at-both : (ws : List ℕ) (e : Ends) (c : Cursor) (o : Ends) (z : Place) (ys : List ℕ) → pool_fits (length ws) ≡ true
      → Sound ws e c z → Listing bit_xor ws o.head.0 o.tail.0 ys → Apart (nodes z) ys → AtBoth ws e c o z ys
  pub on-list : (ws : List ℕ) (e : Ends) (xs : List ℕ) → pool_fits (length ws) ≡ true → Listing bit_xor ws e.head.0 e.tail.0 xs → OnList ws e xs
