-- The cursor, and the tests of its calls (document 01, 'Refusal numbers'). Every cursor that a definition makes is made here.
use Rattle.std.specs.Prelude.{Result, ℕ, Bool, not, List, ltb, length, Ok, Err}
use Rattle.words.specs.declared.names.Node.{Node}
use Rattle.words.specs.declared.names.Name.{Name}
use Rattle.words.specs.Names.{null, is_null}
use Rattle.words.specs.Pool.{Outcome, outcome}
use Rattle.words.specs.LinkOps.{acquire_link}
use Rattle.answers.specs.declared.Refusal.{Refusal}
use Rattle.answers.specs.declared.Refusal.TheVariants.{EndsDoNotHold, CursorDoesNotStand, NoSuchNode, AtNull, AlreadyLinked, NotEmpty}
use Rattle.ends.specs.declared.Ends.{Ends}
use Rattle.answers.specs.Answer.{Answer, Tested, passed, need, and_then}
use Rattle.ends.specs.Ends.{is_empty}
use Rattle.ends.specs.Tests.{ends_hold, stands, ends_test}
use Rattle.cursor.specs.declared.Cursor.{Cursor}
use Rattle.cursor.specs.declared.Edited.{Edited}
use Rattle.cursor.specs.declared.EditedTwo.{EditedTwo}

abbrev pub cursor_of : Name → Name → Name → Cursor
cursor_of c p q = record { current = c; prev = p; next = q }

-- The cursor at null: the tail before it, the head after it.
abbrev pub null_cursor : Ends → Cursor
null_cursor e = cursor_of null e.tail e.head

-- The neighbours exchanged: the same place, of the list read from its other side.
abbrev pub turned_cursor : Cursor → Cursor
turned_cursor c = cursor_of c.current c.next c.prev

abbrev pub edited : Answer → Ends → Cursor → Edited
edited a e c = record { answer = a; ends = e; cursor = c }

abbrev pub edited_two : Answer → Ends → Cursor → Ends → EditedTwo
edited_two a e c o = record { answer = a; ends = e; cursor = c; other = o }

abbrev pub cursor_stands : List ℕ → Ends → Cursor → Bool
cursor_stands ws e c = stands ws e c.current.0 c.prev.0 c.next.0

-- 1, 4, 5.
unfoldable pub stand_test : List ℕ → Ends → Cursor → Tested
stand_test ws e c = and_then (ends_test ws e) (need (cursor_stands ws e c) CursorDoesNotStand passed)

-- 1, 4, 5, 7.
unfoldable pub node_test : List ℕ → Ends → Cursor → Node → Tested
node_test ws e c i = and_then (stand_test ws e c) (need (ltb i.0 (length ws)) NoSuchNode passed)

-- 8, after other tests.
unfoldable pub some_test : {A : Type 0} → Result A Refusal → Cursor → Tested
some_test before c = and_then before (need (not (is_null c.current)) AtNull passed)

-- 9, after the other tests: a node that is not linked is acquired. What they refuse acquires nothing.
unfoldable pub acquire_node : {A : Type 0} → List ℕ → Result A Refusal → Name → Outcome Tested
acquire_node ws (Ok x) new = let a = acquire_link ws new.0 in outcome a.words (need a.result AlreadyLinked passed)
acquire_node ws (Err r) new = outcome ws (Err r)

-- 1, 4 of the named list, 4 of the other, 5.
unfoldable pub pair_test : List ℕ → Ends → Cursor → Ends → Tested
pair_test ws e c o =
    and_then (ends_test ws e) (need (ends_hold ws o) EndsDoNotHold (need (cursor_stands ws e c) CursorDoesNotStand passed))

-- 6 besides.
unfoldable pub split_test : List ℕ → Ends → Cursor → Ends → Tested
split_test ws e c o = and_then (pair_test ws e c o) (need (is_empty o) NotEmpty passed)
