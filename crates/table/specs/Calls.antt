-- The calls of the library, each with what it is given, and all that it leaves and hands back: the definitions of the contracts.
use Rattle.std.specs.Prelude.{ℕ, List, [], ◌∷◌, length, Option}
use Rattle.words.specs.declared.names.Node.{Node}
use Rattle.words.specs.Pool.{Outcome, outcome}
use Rattle.answers.specs.Answer.{Answer, answered}
use Rattle.ends.specs.declared.Ends.{Ends}
use Rattle.cursor.specs.declared.Cursor.{Cursor}
use Rattle.cursor.specs.declared.Edited.{Edited}
use Rattle.cursor.specs.declared.EditedTwo.{EditedTwo}
use Rattle.moves.specs.Moves.{move_next, move_prev}
use Rattle.insert.specs.Inserts.{insert_after, insert_before}
use Rattle.remove.specs.Removes.{remove as remove_at, replace as replace_at}
use Rattle.splice.specs.Splices.{splice_after, splice_before}
use Rattle.split.specs.Splits.{split_after, split_before}
use Rattle.ends.specs.declared.ListEdited.{ListEdited}
use Rattle.list.specs.Lists.{at_front, at_back, push_front, push_back, pop_front, pop_back, take as take_all, fast_clear, reversed}
use Rattle.place.specs.Places.{place_by_prev, place_by_next}
use Rattle.iter.specs.declared.Iter.{Iter}
use Rattle.iter.specs.declared.Stepped.{Stepped}
use Rattle.iter.specs.Iter.{next, next_back}
use Rattle.records.specs.Records.{read_test, read_at}
use Rattle.walk.specs.Calls.{walk_all, clear_all}
use Rattle.audit.specs.Audit.{audit_all}

-- ---- the calls

-- At the cursor of a list. A peek is a move of a copy.
pub data AtCursor : Type 0 where
  move-next move-prev remove : AtCursor
  insert-after insert-before replace : Node → AtCursor

-- At the cursor of a list, with another list.
pub data AtBoth : Type 0 where
  splice-after splice-before split-after split-before : AtBoth

-- On a list.
pub data OnList : Type 0 where
  push-front push-back : Node → OnList
  pop-front pop-back fast-clear reversal : OnList

-- To make a cursor of a list: at an end, or by a node and the neighbour that is claimed for it.
pub data Placing : Type 0 where
  at-front at-back : Placing
  by-prev by-next : Node → Option Node → Placing

-- The side that an iterator steps from.
pub data Side : Type 0 where
  front back : Side

-- A call, with all that it is given but the words and the marks. Read is given the records and their width. The audit is given
-- the records of all lists: both audits are one definition.
pub data Call : Type 0 where
  at-cursor : AtCursor → Ends → Cursor → Call
  at-both : AtBoth → Ends → Cursor → Ends → Call
  on-list : OnList → Ends → Call
  take : Ends → Ends → Call
  placing : Placing → Ends → Call
  read : Ends → Cursor → List ℕ → ℕ → Call
  step : Side → Iter → Call
  walk clear : Ends → Call
  audit : List Ends → Call

-- ---- what they leave

-- What is handed back of what was given: ends and cursor, those with the other ends, ends, both ends, an iterator; or nothing.
pub data Back : Type 0 where
  cursor-back : Ends → Cursor → Back
  both-back : Ends → Cursor → Ends → Back
  list_back : Ends → Back
  lists_back : Ends → Ends → Back
  iter-back : Iter → Back
  nothing-back : Back

-- All that a call leaves and hands back. The node handed out is in the answer. The numbers are: of walk its count; of the audit
-- the list, the nodes on lists and the stranded; of read the bytes of the part; of every other call none.
pub record Left : Type 0 where
  pub words : List ℕ
  pub marks : List ℕ
  pub answer : Answer
  pub back : Back
  pub numbers : List ℕ

abbrev pub left : List ℕ → List ℕ → Answer → Back → List ℕ → Left
left ws ms a b ns = record { words = ws; marks = ms; answer = a; back = b; numbers = ns }

abbrev pub at_cursor : List ℕ → AtCursor → Ends → Cursor → Outcome Edited
at_cursor ws move-next e c = outcome ws (move_next ws e c)
at_cursor ws move-prev e c = outcome ws (move_prev ws e c)
at_cursor ws remove e c = remove_at ws e c
at_cursor ws (insert-after i) e c = insert_after ws e c i
at_cursor ws (insert-before i) e c = insert_before ws e c i
at_cursor ws (replace i) e c = replace_at ws e c i

abbrev pub at_both : List ℕ → AtBoth → Ends → Cursor → Ends → Outcome EditedTwo
at_both ws splice-after e c o = splice_after ws e c o
at_both ws splice-before e c o = splice_before ws e c o
at_both ws split-after e c o = split_after ws e c o
at_both ws split-before e c o = split_before ws e c o

abbrev pub on_list : List ℕ → OnList → Ends → Outcome ListEdited
on_list ws (push-front i) e = push_front ws e i
on_list ws (push-back i) e = push_back ws e i
on_list ws pop-front e = pop_front ws e
on_list ws pop-back e = pop_back ws e
on_list ws fast-clear e = outcome ws (fast_clear ws e)
on_list ws reversal e = outcome ws (reversed ws e)

abbrev pub placed : List ℕ → Placing → Ends → Edited
placed ws at-front e = at_front ws e
placed ws at-back e = at_back ws e
placed ws (by-prev i j) e = place_by_prev ws e i j
placed ws (by-next i j) e = place_by_next ws e i j

abbrev pub stepped : List ℕ → Side → Iter → Stepped
stepped ws front it = next ws it
stepped ws back it = next_back ws it

-- A call on these words and marks.
abbrev pub calls : List ℕ → List ℕ → Call → Left
calls ws ms (at-cursor k e c) =
    let o = at_cursor ws k e c in left o.words ms o.result.answer (cursor-back o.result.ends o.result.cursor) []
calls ws ms (at-both k e c o) =
    let p = at_both ws k e c o in
    left p.words ms p.result.answer (both-back p.result.ends p.result.cursor p.result.other) []
calls ws ms (on-list k e) = let o = on_list ws k e in left o.words ms o.result.answer (list_back o.result.ends) []
calls ws ms (take e o) = let t = take_all ws e o in left ws ms t.answer (lists_back t.ends t.other) []
calls ws ms (placing k e) = let d = placed ws k e in left ws ms d.answer (cursor-back d.ends d.cursor) []
calls ws ms (read e c rs width) = left ws ms (answered (read_test ws e c (length rs) width)) nothing-back (read_at ws e c rs width)
calls ws ms (step s it) = let t = stepped ws s it in left ws ms t.answer (iter-back t.iter) []
calls ws ms (walk e) = let w = walk_all ws ms e in left ws w.marks w.result.answer nothing-back (w.result.count ∷ [])
calls ws ms (clear e) =
    let o = clear_all ws ms e in left o.words o.result.marks o.result.result.answer (list_back o.result.result.ends) []
calls ws ms (audit es) =
    let a = audit_all ws es ms in
    left ws a.marks a.result.answer nothing-back (a.result.list ∷ a.result.on_lists ∷ a.result.stranded ∷ [])
