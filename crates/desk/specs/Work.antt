-- One command on the lists that it names (document 01, 'Command lines' and 'Edits'): the call that it stands for, and what
-- becomes of the cursors that the desk keeps.
use Rattle.std.specs.Prelude.{ℕ, Bool, ◌&&◌, not, cond, List, eqb, length, Err, is_err}
use Rattle.words.specs.declared.names.Node.{Node}
use Rattle.words.specs.Names.{pool_fits}
use Rattle.words.specs.Pool.{Outcome, outcome}
use Rattle.answers.specs.declared.Refusal.TheVariants.{Size, SameList, Malformed}
use Rattle.ends.specs.declared.Ends.{Ends}
use Rattle.answers.specs.Answer.{Answer, done, if_refused}
use Rattle.ends.specs.Tests.{ends_test}
use Rattle.cursor.specs.declared.Cursor.{Cursor}
use Rattle.cursor.specs.declared.Edited.{Edited}
use Rattle.cursor.specs.declared.EditedTwo.{EditedTwo}
use Rattle.cursor.specs.Cursor.{null_cursor}
use Rattle.moves.specs.Moves.{move_next, move_prev}
use Rattle.insert.specs.Inserts.{insert_after, insert_before}
use Rattle.remove.specs.Removes.{remove, replace}
use Rattle.splice.specs.Splices.{splice_after, splice_before}
use Rattle.split.specs.Splits.{split_after, split_before}
use Rattle.ends.specs.declared.ListEdited.{ListEdited}
use Rattle.list.specs.Lists.{push_front, push_back, pop_front, pop_back, take, fast_clear, reversed}
use Rattle.walk.specs.Marks.{Marking, marking}
use Rattle.walk.specs.Calls.{clear_all}
use Rattle.lines.specs.declared.line.Order.{Order}
use Rattle.lines.specs.Lines.{right_fields, same_list}
use Rattle.desk.specs.declared.Row.{Row}
use Rattle.desk.specs.declared.Worked.{Worked}

abbrev pub row : Ends → Cursor → Row
row e c = record { ends = e; cursor = c }

abbrev pub worked : Answer → Row → Row → Worked
worked a r q = record { answer = a; named = r; other = q }

-- A list after a call on it as a whole: done, its cursor is null; refused, it is as it was.
abbrev pub nulled : Answer → Row → Ends → Row
nulled a r e = cond (is_err a) r (row e (null_cursor e))

-- A call at the cursor.
unfoldable pub at_cursor : Edited → Row → Worked
at_cursor d q = worked d.answer (row d.ends d.cursor) q

-- A call on the list: its cursor becomes null.
unfoldable pub on_list : ListEdited → Row → Row → Worked
on_list d r q = worked d.answer (nulled d.answer r d.ends) q

-- A call on two lists at the cursor of one: the other's becomes null.
unfoldable pub on_both : EditedTwo → Row → Worked
on_both d q = worked d.answer (row d.ends d.cursor) (nulled d.answer q d.other)

-- Take: both cursors become null.
unfoldable pub taking : List ℕ → Row → Row → Worked
taking ws r q = let d = take ws r.ends q.ends in worked d.answer (nulled d.answer r d.ends) (nulled d.answer q d.other)

-- The cursor to null, if the ends hold.
unfoldable pub to_null : List ℕ → Row → Row → Worked
to_null ws r q =
    if_refused (ends_test ws r.ends) (λ refusal. worked (Err refusal) r q) (worked done (nulled done r r.ends) q)

-- The outcome of a call, as that of its command.
abbrev pub with : {A : Type 0} → (A → Worked) → Outcome A → Outcome Worked
with f o = outcome o.words (f o.result)

-- The command with this code, on the list r, the other list q and the node i.
unfoldable pub by_code : ℕ → List ℕ → Row → Row → Node → Outcome Worked
by_code code ws r q i =
    let e = r.ends in
    let c = r.cursor in
    let o = q.ends in
    cond (eqb code 1) (with (λ d. at_cursor d q) (insert_after ws e c i))
    (cond (eqb code 2) (with (λ d. at_cursor d q) (insert_before ws e c i))
    (cond (eqb code 3) (with (λ d. at_cursor d q) (remove ws e c))
    (cond (eqb code 4) (with (λ d. at_cursor d q) (replace ws e c i))
    (cond (eqb code 5) (with (λ d. on_both d q) (splice_after ws e c o))
    (cond (eqb code 6) (with (λ d. on_both d q) (splice_before ws e c o))
    (cond (eqb code 7) (with (λ d. on_both d q) (split_after ws e c o))
    (cond (eqb code 8) (with (λ d. on_both d q) (split_before ws e c o))
    (cond (eqb code 9) (outcome ws (at_cursor (move_next ws e c) q))
    (cond (eqb code 10) (outcome ws (at_cursor (move_prev ws e c) q))
    (cond (eqb code 11) (outcome ws (on_list (reversed ws e) r q))
    (cond (eqb code 12) (outcome ws (taking ws r q))
    (cond (eqb code 14) (outcome ws (on_list (fast_clear ws e) r q))
    (cond (eqb code 15) (outcome ws (to_null ws r q))
    (cond (eqb code 16) (with (λ d. on_list d r q) (push_front ws e i))
    (cond (eqb code 17) (with (λ d. on_list d r q) (push_back ws e i))
    (cond (eqb code 18) (with (λ d. on_list d r q) (pop_front ws e))
    (cond (eqb code 19) (with (λ d. on_list d r q) (pop_back ws e))
    (outcome ws (worked (Err Malformed) r q)))))))))))))))))))

-- 3 where both lists are used and are the same; else the command.
unfoldable pub on_rows : List ℕ → Row → Row → Order → Outcome Worked
on_rows ws r q o = cond (same_list o) (outcome ws (worked (Err SameList) r q)) (by_code o.code ws r q (record { 0 = o.node }))

-- The fields are right, and the command follows no chain: any but clear and the audit, which want marks.
unfoldable pub is_work : Order → Bool
is_work o = right_fields o && not (eqb o.code 13) && not (eqb o.code 20)

-- 11 unless it is such a command, 1 unless the pool is within its limit, 3, and then the command.
unfoldable pub work_of : List ℕ → Row → Row → Order → Outcome Worked
work_of ws r q o =
    cond (is_work o)
    (cond (pool_fits (length ws)) (on_rows ws r q o) (outcome ws (worked (Err Size) r q)))
    (outcome ws (worked (Err Malformed) r q))

-- Clear, with the walk's refusals and marks.
unfoldable pub clearing : List ℕ → List ℕ → Row → Row → Outcome (Marking Worked)
clearing ws ms r q =
    let d = clear_all ws ms r.ends in
    let a = d.result.result.answer in
    outcome d.words (marking d.result.marks (worked a (nulled a r d.result.result.ends) q))
