-- `rewzhanok_run` meets its contract. Assumes nothing.
use native.Mathlib.Omega.{arith}
use Prim.Native.Nat.{◌*◌, ◌≤◌}
use lib.ListN.{length}
use Rattle.lines.specs.Inputs.{lines_of}
use Rattle.rewzhanok.proofs.Laws.Count.{few}
use Rattle.rewzhanok.proofs.Laws.Entry.{too_long, no-room, wrote-is, runs_entry, run-whole}
use Rattle.rewzhanok.proofs.rewzhanok_run.Goals as goal

pub returns-then-commands-gt-INPUT_LIMIT : goal.returns-then-commands-gt-INPUT_LIMIT
returns-then-commands-gt-INPUT_LIMIT c = too_long c.args.commands.now c.args.answers.now c.if-commands-gt-INPUT_LIMIT.true

pub overflow_mul-count_lines : goal.overflow_mul-count_lines
overflow_mul-count_lines c = omega (arith, c.count_lines.ensures, few c.args.commands.now, c.if-commands-gt-INPUT_LIMIT.false)

pub returns-then-answers-count_lines : goal.returns-then-answers-count_lines
returns-then-answers-count_lines c =
    no-room c.args.commands.now c.args.answers.now (omega (arith, c.if-commands-gt-INPUT_LIMIT.false)) (omega (arith, c.count_lines.ensures, c.if-answers-count_lines.true))

pub overflow_cast-result : goal.overflow_cast-result
overflow_cast-result c =
    let r = c.run-s in
    let f = c.finish-end in
    let long : length c.args.commands.now ≤ 65536 = omega (arith, c.if-commands-gt-INPUT_LIMIT.false) in
    let room : 11 * length (lines_of c.args.commands.now) ≤ length c.args.answers.now = omega (arith, c.count_lines.ensures, c.if-answers-count_lines.false) in
    let whole =
    run-whole c.args.commands.now c.args.answers.now _ _ _ _ _ _ _ c.fresh.ensures c.new.ensures r.ensures f.ensures in
    omega (arith, long, wrote-is c.args.commands.now c.args.answers.now long room _ whole, few c.args.commands.now)

pub returns : goal.returns
returns c =
    let r = c.run-s in
    let f = c.finish-end in
    let long : length c.args.commands.now ≤ 65536 = omega (arith, c.if-commands-gt-INPUT_LIMIT.false) in
    let room : 11 * length (lines_of c.args.commands.now) ≤ length c.args.answers.now = omega (arith, c.count_lines.ensures, c.if-answers-count_lines.false) in
    let whole =
    run-whole c.args.commands.now c.args.answers.now _ _ _ _ _ _ _ c.fresh.ensures c.new.ensures r.ensures f.ensures in
    runs_entry c.args.commands.now c.args.answers.now long room _ whole
