-- Splice after and before (document 01, 'Edits'): the tests, and then the source's word steps in its order.
use Rattle.std.specs.Prelude.{ℕ, cond, List, eqb, Err}
use Rattle.words.specs.Names.{is_null}
use Rattle.words.specs.Pool.{Outcome, outcome}
use Rattle.links.specs.XorOps.{splice_between}
use Rattle.ends.specs.declared.Ends.{Ends}
use Rattle.answers.specs.Answer.{done, if_refused}
use Rattle.ends.specs.Ends.{ends_of, empty_ends, is_empty}
use Rattle.cursor.specs.declared.Cursor.{Cursor}
use Rattle.cursor.specs.declared.EditedTwo.{EditedTwo}
use Rattle.cursor.specs.Cursor.{cursor_of, null_cursor, edited_two, pair_test}

-- The whole other list, not empty, goes beside current; at null to the front, to the back.
unfoldable pub spliced_after : List ℕ → Ends → Cursor → Ends → Outcome EditedTwo
spliced_after ws e c o =
    let tail = cond (eqb e.tail.0 c.current.0) o.tail e.tail in
    let front = ends_of o.head tail in
    outcome (splice_between ws o.head.0 o.tail.0 c.current.0 c.next.0)
    (cond (is_null c.current) (edited_two done front (null_cursor front) empty_ends)
    (edited_two done (ends_of e.head tail) (cursor_of c.current c.prev o.head) empty_ends))

unfoldable pub spliced_before : List ℕ → Ends → Cursor → Ends → Outcome EditedTwo
spliced_before ws e c o =
    let head = cond (eqb e.head.0 c.current.0) o.head e.head in
    let back = ends_of head o.tail in
    outcome (splice_between ws o.head.0 o.tail.0 c.prev.0 c.current.0)
    (cond (is_null c.current) (edited_two done back (null_cursor back) empty_ends)
    (edited_two done (ends_of head e.tail) (cursor_of c.current o.tail c.next) empty_ends))

-- An empty other list changes nothing.
unfoldable pub splice_after : List ℕ → Ends → Cursor → Ends → Outcome EditedTwo
splice_after ws e c o =
    if_refused (pair_test ws e c o) (λ r. outcome ws (edited_two (Err r) e c o))
    (cond (is_empty o) (outcome ws (edited_two done e c o)) (spliced_after ws e c o))

unfoldable pub splice_before : List ℕ → Ends → Cursor → Ends → Outcome EditedTwo
splice_before ws e c o =
    if_refused (pair_test ws e c o) (λ r. outcome ws (edited_two (Err r) e c o))
    (cond (is_empty o) (outcome ws (edited_two done e c o)) (spliced_before ws e c o))
