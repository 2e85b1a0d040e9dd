-- The call that each command of a desk stands for (document 01, 'Command lines'), and the tests of a line in their order: 11, 1, 2, 3,
-- and then the row of that call.
use Rattle.std.specs.Prelude.{ℕ, ◌<◌, ◌≤◌, ◌≡◌, ◌≢◌, Bool, true, false, cond, List, [], ◌∷◌, eqb, length, None, Option, Some}
use Rattle.words.specs.declared.names.Node.{Node}
use Rattle.words.specs.Names.{directory_fits}
use Rattle.answers.specs.declared.Refusal.TheVariants.{Size, NoSuchList, SameList, Malformed}
use Rattle.ends.specs.declared.Ends.{Ends}
use Rattle.table.specs.Calls.{move-next, move-prev, remove, insert-after, insert-before, replace}
use Rattle.table.specs.Calls.{splice-after, splice-before, split-after, split-before}
use Rattle.table.specs.Calls.{push-front, push-back, pop-front, pop-back, fast-clear, reversal}
use Rattle.table.specs.Calls.{Call, at-cursor, at-both, on-list, take, clear, audit}
use Rattle.table.specs.Table.{Test, test, pool, marks, ends, row}
use Rattle.table.specs.Refused.{follows_chain}
use Rattle.lines.specs.declared.line.Order.{Order}
use Rattle.lines.specs.Lines.{uses_list, uses_other, right_fields}
use Rattle.desk.specs.declared.Row.{Row}
use Rattle.desk.specs.Step.{Desk, desk_limit, row_at, ends_of_all}

-- What a command does: a call; or 0f, the cursor to null, which tests the ends alone; or there is no such command.
pub data Command : Type 0 where
  call : Call → Command
  to-null : Ends → Command
  unknown : Command

-- The command with this code, on the list r with its cursor, the other list q and the node i.
abbrev pub command_on : ℕ → Row → Row → Node → Command
command_on code r q i =
    let e = r.ends in
    let c = r.cursor in
    let o = q.ends in
    cond (eqb code 1) (call (at-cursor (insert-after i) e c))
    (cond (eqb code 2) (call (at-cursor (insert-before i) e c))
    (cond (eqb code 3) (call (at-cursor remove e c))
    (cond (eqb code 4) (call (at-cursor (replace i) e c))
    (cond (eqb code 5) (call (at-both splice-after e c o))
    (cond (eqb code 6) (call (at-both splice-before e c o))
    (cond (eqb code 7) (call (at-both split-after e c o))
    (cond (eqb code 8) (call (at-both split-before e c o))
    (cond (eqb code 9) (call (at-cursor move-next e c))
    (cond (eqb code 10) (call (at-cursor move-prev e c))
    (cond (eqb code 11) (call (on-list reversal e))
    (cond (eqb code 12) (call (take e o))
    (cond (eqb code 13) (call (clear e))
    (cond (eqb code 14) (call (on-list fast-clear e))
    (cond (eqb code 15) (to-null e)
    (cond (eqb code 16) (call (on-list (push-front i) e))
    (cond (eqb code 17) (call (on-list (push-back i) e))
    (cond (eqb code 18) (call (on-list pop-front e))
    (cond (eqb code 19) (call (on-list pop-back e))
    unknown))))))))))))))))))

-- The command of an order to a desk. The audit is of all its lists.
abbrev pub command_of : Desk → Order → Command
command_of d o =
    cond (eqb o.code 20) (call (audit (ends_of_all d.lists)))
    (command_on o.code (row_at d o.list) (row_at d o.other) (record { 0 = o.node }))

-- Its tests.
abbrev pub command_row : List ℕ → List ℕ → Command → List Test
command_row ws ms (call c) = row ws ms c
command_row ws ms (to-null e) = pool ws ∷ ends ws e ∷ []
command_row ws ms unknown = test Malformed ⊥ ∷ []

-- It follows a chain.
abbrev pub command_follows : Command → Bool
command_follows (call c) = follows_chain c
command_follows (to-null e) = false
command_follows unknown = false

-- ---- lines

-- 3: where the other list is used, it is not the named one.
abbrev pub different : Order → Test
different o = test SameList (uses_other o.code ≡ true → o.list ≢ o.other)

-- 2: a list that is used is there.
abbrev pub list_there : Desk → Order → Test
list_there d o = test NoSuchList (uses_list o.code ≡ true → o.list < length d.lists)

abbrev pub other_there : Desk → Order → Test
other_there d o = test NoSuchList (uses_other o.code ≡ true → o.other < length d.lists)

-- 1: the nodes, by the desk's own limit, the marks, the directory.
abbrev pub sizes_then : Desk → List ℕ → List Test → List Test
sizes_then d ms ts =
    test Size (length d.words ≤ desk_limit) ∷ marks d.words ms ∷ test Size (directory_fits (length d.lists) ≡ true) ∷ ts

-- The tests of a line on a desk. A line that is not read has 11 alone.
abbrev pub line_row : Desk → List ℕ → Option Order → List Test
line_row d ms None = test Malformed ⊥ ∷ []
line_row d ms (Some o) =
    test Malformed (right_fields o ≡ true)
    ∷ sizes_then d ms (list_there d o ∷ other_there d o ∷ different o ∷ command_row d.words ms (command_of d o))

-- The line follows a chain.
abbrev pub line_follows : Desk → Option Order → Bool
line_follows d None = false
line_follows d (Some o) = command_follows (command_of d o)

-- The tests of `work`, which is lent no marks: a command that is no clear and no audit, on two lists that the caller has found.
abbrev pub work_row : List ℕ → Row → Row → Order → List Test
work_row ws r q o =
    test Malformed ((right_fields o ≡ true) × (o.code ≢ 13) × (o.code ≢ 20))
    ∷ pool ws ∷ different o ∷ command_row ws [] (command_on o.code r q (record { 0 = o.node }))
