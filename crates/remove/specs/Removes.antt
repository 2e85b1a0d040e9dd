-- Remove and replace (document 01, 'Edits'): the tests, and then the source's word steps in its order.
use Rattle.std.specs.Prelude.{ℕ, cond, List, eqb, length, Ok}
use Rattle.words.specs.declared.names.Node.{Node}
use Rattle.words.specs.declared.names.Name.{Name}
use Rattle.words.specs.Names.{is_null, naming, decoding}
use Rattle.words.specs.Pool.{Outcome, outcome}
use Rattle.words.specs.LinkOps.{release_link}
use Rattle.links.specs.XorOps.{next_of, set_link, replace_next_or_prev}
use Rattle.ends.specs.declared.Ends.{Ends}
use Rattle.ends.specs.Ends.{ends_of}
use Rattle.cursor.specs.declared.Cursor.{Cursor}
use Rattle.cursor.specs.declared.Edited.{Edited}
use Rattle.cursor.specs.Cursor.{cursor_of, null_cursor, edited, stand_test, node_test, some_test, acquire_node}
use Rattle.cursor.specs.Edits.{unless_refused}

-- ---- remove

-- The node goes out, unlinked; the cursor comes to the following node, or null.
unfoldable pub removed : List ℕ → Ends → Cursor → Outcome Edited
removed ws e c =
    let ws1 = release_link ws c.current.0 in
    let ws2 = replace_next_or_prev ws1 c.prev.0 c.current.0 c.next.0 in
    let ws3 = replace_next_or_prev ws2 c.next.0 c.current.0 c.prev.0 in
    let e1 = ends_of (cond (eqb e.head.0 c.current.0) c.next e.head) (cond (eqb e.tail.0 c.current.0) c.prev e.tail) in
    let c1 = cond (is_null c.next) (null_cursor e1) (cursor_of c.next c.prev (record { 0 = next_of ws3 c.next.0 c.prev.0 })) in
    outcome ws3 (edited (Ok (decoding (length ws) c.current)) e1 c1)

unfoldable pub remove : List ℕ → Ends → Cursor → Outcome Edited
remove ws e c = unless_refused (some_test (stand_test ws e c) c) ws e c (removed ws e c)

-- ---- replace

-- The new node takes the place and the cursor; the old one goes out, unlinked.
unfoldable pub replaced : List ℕ → Ends → Cursor → Name → Outcome Edited
replaced ws e c new =
    let ws1 = replace_next_or_prev ws c.prev.0 c.current.0 new.0 in
    let ws2 = replace_next_or_prev ws1 c.next.0 c.current.0 new.0 in
    let ws3 = set_link ws2 new.0 c.prev.0 c.next.0 in
    let ws4 = release_link ws3 c.current.0 in
    let e1 = ends_of (cond (eqb e.head.0 c.current.0) new e.head) (cond (eqb e.tail.0 c.current.0) new e.tail) in
    outcome ws4 (edited (Ok (decoding (length ws) c.current)) e1 (cursor_of new c.prev c.next))

unfoldable pub replace : List ℕ → Ends → Cursor → Node → Outcome Edited
replace ws e c i =
    let t = acquire_node ws (some_test (node_test ws e c i) c) (naming i) in
    unless_refused t.result t.words e c (replaced t.words e c (naming i))
