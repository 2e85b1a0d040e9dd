-- Split after and before (document 01, 'Edits'): the tests, and then the source's word steps in its order.
use Rattle.std.specs.Prelude.{ℕ, cond, List, Err}
use Rattle.words.specs.Names.{null, is_null}
use Rattle.words.specs.Pool.{Outcome, outcome}
use Rattle.links.specs.XorOps.{set_link, replace_next_or_prev}
use Rattle.ends.specs.declared.Ends.{Ends}
use Rattle.answers.specs.Answer.{done, if_refused}
use Rattle.ends.specs.Ends.{ends_of, empty_ends}
use Rattle.cursor.specs.declared.Cursor.{Cursor}
use Rattle.cursor.specs.declared.EditedTwo.{EditedTwo}
use Rattle.cursor.specs.Cursor.{cursor_of, null_cursor, edited_two, split_test}

-- What is beyond, or ahead of, current moves out, and current stays.
unfoldable pub cut_after : List ℕ → Ends → Cursor → Outcome EditedTwo
cut_after ws e c =
    let ws1 = replace_next_or_prev ws c.next.0 c.current.0 0 in
    let out = ends_of c.next (cond (is_null c.next) null e.tail) in
    outcome (set_link ws1 c.current.0 c.prev.0 0)
    (edited_two done (ends_of e.head c.current) (cursor_of c.current c.prev null) out)

unfoldable pub cut_before : List ℕ → Ends → Cursor → Outcome EditedTwo
cut_before ws e c =
    let ws1 = replace_next_or_prev ws c.prev.0 c.current.0 0 in
    let out = ends_of (cond (is_null c.prev) null e.head) c.prev in
    outcome (set_link ws1 c.current.0 0 c.next.0)
    (edited_two done (ends_of c.current e.tail) (cursor_of c.current null c.next) out)

-- At null everything moves out, and the cursor is the null cursor of an empty list. Here the source keeps the old ends in
-- its cursor: difference no. 1.
unfoldable pub cut_at_null : Ends → EditedTwo
cut_at_null e = edited_two done empty_ends (null_cursor empty_ends) e

unfoldable pub split_after : List ℕ → Ends → Cursor → Ends → Outcome EditedTwo
split_after ws e c o =
    if_refused (split_test ws e c o) (λ r. outcome ws (edited_two (Err r) e c o))
    (cond (is_null c.current) (outcome ws (cut_at_null e)) (cut_after ws e c))

unfoldable pub split_before : List ℕ → Ends → Cursor → Ends → Outcome EditedTwo
split_before ws e c o =
    if_refused (split_test ws e c o) (λ r. outcome ws (edited_two (Err r) e c o))
    (cond (is_null c.current) (outcome ws (cut_at_null e)) (cut_before ws e c))
