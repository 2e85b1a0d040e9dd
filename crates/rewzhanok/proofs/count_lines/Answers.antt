-- `count_lines` meets its contract: the lines counted and the lines left are all lines. Assumes nothing.
use Rattle.std.proofs.Common.{arith}
use Rattle.rewzhanok.proofs.Laws.Count.{left-all, left-next, left_end, one_if}
use Rattle.rewzhanok.proofs.count_lines.Goals as goal

pub overflow_add-lines : goal.overflow_add-lines
overflow_add-lines c = let f = one_if _ _ c.from-lines.ensures in omega (arith, f.1)

pub loop-byte-preserved : goal.loop-byte-preserved
loop-byte-preserved c =
    let l = c.loop-byte in
    let f = one_if _ _ c.from-lines.ensures in
    let n = left-next l.begun c.args.commands.now l.byte-index (omega arith) in
    record { few = omega (arith, f.1); all = omega (arith, f.0, n, l.invariant.all) }

pub overflow_add-result : goal.overflow_add-result
overflow_add-result c = let f = one_if _ _ c.from.ensures in omega (arith, f.1)

pub returns : goal.returns
returns c =
    let s = c.args.commands.now in
    let l = c.loop-byte in
    let f = one_if _ _ c.from.ensures in
    let e = left_end l.begun s l.byte-index (omega arith) in
    omega (arith, f.0, e, l.invariant.all, left-all s)
