-- The calls on a list (document 01, 'Edits'): the tests, and then what the source does.
use Rattle.std.specs.Prelude.{ℕ, not, List, Err}
use Rattle.words.specs.declared.names.Node.{Node}
use Rattle.words.specs.Pool.{Outcome, outcome}
use Rattle.answers.specs.declared.Refusal.TheVariants.{EndsDoNotHold, NotEmpty, AtNull}
use Rattle.ends.specs.declared.Ends.{Ends}
use Rattle.answers.specs.Answer.{Answer, done, Tested, passed, if_refused, need, and_then}
use Rattle.ends.specs.Ends.{empty_ends, is_empty, turned, list_edited}
use Rattle.ends.specs.Tests.{ends_hold, ends_test}
use Rattle.cursor.specs.declared.Edited.{Edited}
use Rattle.cursor.specs.Cursor.{null_cursor, edited}
use Rattle.moves.specs.Moves.{moved_next, moved_prev}
use Rattle.insert.specs.Inserts.{insert_after, insert_before}
use Rattle.remove.specs.Removes.{removed}
use Rattle.ends.specs.declared.ListEdited.{ListEdited}
use Rattle.list.specs.declared.Taken.{Taken}

abbrev pub taken : Answer → Ends → Ends → Taken
taken a e o = record { answer = a; ends = e; other = o }

-- An edit at a cursor, with the cursor left out.
abbrev pub without_cursor : Outcome Edited → Outcome ListEdited
without_cursor o = outcome o.words (list_edited o.result.answer o.result.ends)

-- The cursor at the first node, and at the last; at null if there is none. Refused 1 or 4, the cursor is the null one.
unfoldable pub at_front : List ℕ → Ends → Edited
at_front ws e =
    if_refused (ends_test ws e) (λ r. edited (Err r) e (null_cursor e)) (edited done e (moved_next ws e (null_cursor e)))

unfoldable pub at_back : List ℕ → Ends → Edited
at_back ws e =
    if_refused (ends_test ws e) (λ r. edited (Err r) e (null_cursor e)) (edited done e (moved_prev ws e (null_cursor e)))

-- Push is an insert at null, which is at the front, or at the back.
unfoldable pub push_front : List ℕ → Ends → Node → Outcome ListEdited
push_front ws e i = without_cursor (insert_after ws e (null_cursor e) i)

unfoldable pub push_back : List ℕ → Ends → Node → Outcome ListEdited
push_back ws e i = without_cursor (insert_before ws e (null_cursor e) i)

-- 1, 4, 8.
unfoldable pub pop_test : List ℕ → Ends → Tested
pop_test ws e = and_then (ends_test ws e) (need (not (is_empty e)) AtNull passed)

-- Pop is the word steps of remove at the first node, or at the last.
unfoldable pub pop_front : List ℕ → Ends → Outcome ListEdited
pop_front ws e =
    if_refused (pop_test ws e) (λ r. outcome ws (list_edited (Err r) e)) (without_cursor (removed ws e (moved_next ws e (null_cursor e))))

unfoldable pub pop_back : List ℕ → Ends → Outcome ListEdited
pop_back ws e =
    if_refused (pop_test ws e) (λ r. outcome ws (list_edited (Err r) e)) (without_cursor (removed ws e (moved_prev ws e (null_cursor e))))

-- 1, 4 of the named list, 4 of the other, 6.
unfoldable pub take_test : List ℕ → Ends → Ends → Tested
take_test ws e o = and_then (ends_test ws e) (need (ends_hold ws o) EndsDoNotHold (need (is_empty o) NotEmpty passed))

-- Refused by these, or the whole list is the other's.
unfoldable pub take : List ℕ → Ends → Ends → Taken
take ws e o = if_refused (take_test ws e o) (λ r. taken (Err r) e o) (taken done empty_ends e)

-- Only the ends become empty.
unfoldable pub fast_clear : List ℕ → Ends → ListEdited
fast_clear ws e = if_refused (ends_test ws e) (λ r. list_edited (Err r) e) (list_edited done empty_ends)

-- Head and tail are exchanged.
unfoldable pub reversed : List ℕ → Ends → ListEdited
reversed ws e = if_refused (ends_test ws e) (λ r. list_edited (Err r) e) (list_edited done (turned e))
