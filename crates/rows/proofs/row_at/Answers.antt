-- `row_at` meets its contract. Assumes nothing.
use native.Mathlib.Omega.{arith}
use Prim.Native.Nat.{ℕ}
use mathlib.Core.Path.{◌∙◌, sym, ap}
use mathlib.Core.List.{List, []}
use lib.ListN.{get_or}
use Rattle.rows.proofs.Laws.Rows.{count-rows, no_row, part-there}
use Rattle.rows.proofs.row_at.Goals as goal

pub returns-in_default : goal.returns-in_default
returns-in_default c =
    let few = c.as_chunks.ensures.front_len ∙ sym (count-rows c.args.lists.now) in
    rw (c.null.ensures, c.empty-none.ensures) (sym (no_row c.args.lists.now _ _ few c.in_default.ensures.lookup.3))

pub returns : goal.returns
returns c =
    let i = c.args.i in
    let there = c.in-Some.ensures.lookup.3 in
    let words = there.1 [] ∙ ap (λ (l : List (List ℕ)). get_or l i []) c.as_chunks.ensures.front in
    rw (c.new.ensures, c.new-2.ensures)
    (part-there c.args.lists.now _ i _ (sym (count-rows c.args.lists.now)) (let h = there.0 in let e = c.as_chunks.ensures.front_len in omega arith) (sym words))
