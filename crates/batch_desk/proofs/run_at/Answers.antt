-- `run_at` meets its contract: the run from here over what is left is the run from the start over the whole input. Assumes nothing.
use borrow.Author.Rules.{rules}
use borrow.Author.Tests.{not-true, not-false}
use native.Mathlib.Omega.{arith}
use mathlib.Core.Path.{sym, ap, ◌∙◌}
use lib.ListN.{drop}
use Rattle.batch_desk.specs.Step.{kept_of}
use Rattle.batch_desk.specs.Run.{Running, running, run_from}
use Rattle.batch_desk.proofs.Laws.Take.{lined, opens, on, run_out}
use Rattle.batch_desk.proofs.Laws.Finish.{ended_is}
use Rattle.batch_desk.proofs.run_at.Goals as goal

pub returns-then-not-t : goal.returns-then-not-t
returns-then-not-t c =
    let l = c.loop-i in
    sym (opens (drop l.i c.args.input.now) (running l.out (kept_of l.desk) l.line l.wrote) l.i _ c.take_line-t.ensures (not-true _ c.if-not-t.true))
    ∙ l.invariant.left

pub loop-i-smaller : goal.loop-i-smaller
loop-i-smaller c =
    let l = c.loop-i in
    let o = on c.args.input.now (running l.out (kept_of l.desk) l.line l.wrote) l.i _ l.invariant.come c.take_line-t.ensures (not-false _ c.if-not-t.false) in
    omega (arith, o.0, o.1)

pub loop-i-preserved : goal.loop-i-preserved
loop-i-preserved c =
    let l = c.loop-i in
    let xs = c.args.input.now in
    let s = running l.out (kept_of l.desk) l.line l.wrote in
    let t = c.take_line-t.result in
    let o = on xs s l.i t l.invariant.come c.take_line-t.ensures (not-false _ c.if-not-t.false) in
    record {
      come = o.1;
      out = search rules;
      left =
          ap (λ (r : Running). run_from r (drop t.next xs))
          (ended_is (lined s t.line) _ _ _ _ _ c.parse.ensures c.step_rows-reply.ensures c.put_reply-wrote.ensures c.new-line.ensures)
          ∙ sym o.2
          ∙ l.invariant.left;
    }

pub returns : goal.returns
returns c =
    let l = c.loop-i in
    sym (run_out c.args.input.now (running l.out (kept_of l.desk) l.line l.wrote) l.i (search rules)) ∙ l.invariant.left
