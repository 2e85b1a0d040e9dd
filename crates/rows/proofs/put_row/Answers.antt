-- `put_row` meets its contract. Assumes nothing.
use native.Mathlib.Omega.{arith}
use Rattle.rows.proofs.Laws.Rows.{last_word, none-put, row_put}
use Rattle.rows.proofs.put_row.Goals as goal

pub returns-then-row_count-i : goal.returns-then-row_count-i
returns-then-row_count-i c = none-put _ _ _ c.row_count.ensures c.if-row_count-i.true _

pub overflow_mul-at : goal.overflow_mul-at
overflow_mul-at c = omega (arith, last_word c.args.lists.now _ _ c.row_count.ensures c.if-row_count-i.false)

pub overflow_add-at : goal.overflow_add-at
overflow_add-at c = omega (arith, last_word c.args.lists.now _ _ c.row_count.ensures c.if-row_count-i.false)

pub offset_bounds-lists-at : goal.offset_bounds-lists-at
offset_bounds-lists-at c = omega (arith, last_word c.args.lists.now _ _ c.row_count.ensures c.if-row_count-i.false)

pub slice_bounds-copy_from_slice-end : goal.slice_bounds-copy_from_slice-end
slice_bounds-copy_from_slice-end c = omega (arith, last_word c.args.lists.now _ _ c.row_count.ensures c.if-row_count-i.false)

pub returns : goal.returns
returns c = rw c.copy_from_slice.ensures.after (row_put c.args.lists.now _ _ c.row_count.ensures c.if-row_count-i.false _ _ (omega arith))
