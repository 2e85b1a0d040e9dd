-- Insert after and before (document 01, 'Edits'): the tests, and then the source's word steps in its order.
use Rattle.std.specs.Prelude.{ℕ, cond, List}
use Rattle.words.specs.declared.names.Node.{Node}
use Rattle.words.specs.declared.names.Name.{Name}
use Rattle.words.specs.Names.{is_null, naming}
use Rattle.words.specs.Pool.{Outcome, outcome}
use Rattle.links.specs.XorOps.{link_between}
use Rattle.answers.specs.Answer.{done}
use Rattle.ends.specs.declared.Ends.{Ends}
use Rattle.ends.specs.Ends.{ends_of}
use Rattle.cursor.specs.declared.Cursor.{Cursor}
use Rattle.cursor.specs.declared.Edited.{Edited}
use Rattle.cursor.specs.Cursor.{cursor_of, null_cursor, edited, node_test, acquire_node}
use Rattle.cursor.specs.Edits.{unless_refused}

-- Beside current, which stays current; at null, at the front.
unfoldable pub inserted_after : List ℕ → Ends → Cursor → Name → Outcome Edited
inserted_after ws e c new =
    let front = ends_of new (cond (is_null e.tail) new e.tail) in
    let beside = ends_of e.head (cond (is_null c.next) new e.tail) in
    cond (is_null c.current)
    (outcome (link_between ws new.0 0 e.head.0) (edited done front (null_cursor front)))
    (outcome (link_between ws new.0 c.current.0 c.next.0) (edited done beside (cursor_of c.current c.prev new)))

-- On the other side; at null, at the back.
unfoldable pub inserted_before : List ℕ → Ends → Cursor → Name → Outcome Edited
inserted_before ws e c new =
    let back = ends_of (cond (is_null e.head) new e.head) new in
    let beside = ends_of (cond (is_null c.prev) new e.head) e.tail in
    cond (is_null c.current)
    (outcome (link_between ws new.0 e.tail.0 0) (edited done back (null_cursor back)))
    (outcome (link_between ws new.0 c.prev.0 c.current.0) (edited done beside (cursor_of c.current new c.next)))

unfoldable pub insert_after : List ℕ → Ends → Cursor → Node → Outcome Edited
insert_after ws e c i =
    let t = acquire_node ws (node_test ws e c i) (naming i) in
    unless_refused t.result t.words e c (inserted_after t.words e c (naming i))

unfoldable pub insert_before : List ℕ → Ends → Cursor → Node → Outcome Edited
insert_before ws e c i =
    let t = acquire_node ws (node_test ws e c i) (naming i) in
    unless_refused t.result t.words e c (inserted_before t.words e c (naming i))
