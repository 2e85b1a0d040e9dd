-- Moves (document 01, 'Edits'): the source's steps.
use Rattle.std.specs.Prelude.{ℕ, cond, List, Err}
use Rattle.words.specs.Names.{is_null}
use Rattle.links.specs.XorOps.{next_of, prev_of}
use Rattle.ends.specs.declared.Ends.{Ends}
use Rattle.answers.specs.Answer.{done, if_refused}
use Rattle.cursor.specs.declared.Cursor.{Cursor}
use Rattle.cursor.specs.declared.Edited.{Edited}
use Rattle.cursor.specs.Cursor.{cursor_of, null_cursor, edited, stand_test}

-- One node on: null past the tail, and from null the head.
unfoldable pub moved_next : List ℕ → Ends → Cursor → Cursor
moved_next ws e c =
    cond (is_null c.next) (null_cursor e)
    (cursor_of c.next c.current (record { 0 = next_of ws c.next.0 c.current.0 }))

-- One node back: null past the head, and from null the tail.
unfoldable pub moved_prev : List ℕ → Ends → Cursor → Cursor
moved_prev ws e c =
    cond (is_null c.prev) (null_cursor e)
    (cursor_of c.prev (record { 0 = prev_of ws c.prev.0 c.current.0 }) c.current)

-- The calls: refused by 1, 4, 5, or moved.
unfoldable pub move_next : List ℕ → Ends → Cursor → Edited
move_next ws e c = if_refused (stand_test ws e c) (λ r. edited (Err r) e c) (edited done e (moved_next ws e c))

unfoldable pub move_prev : List ℕ → Ends → Cursor → Edited
move_prev ws e c = if_refused (stand_test ws e c) (λ r. edited (Err r) e c) (edited done e (moved_prev ws e c))
