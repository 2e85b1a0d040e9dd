-- `take_bytes` meets its contract: what is left of the line from here is what was left from the start. Assumes nothing.
use Rattle.std.proofs.Common.{ℕ, ◌+◌, drop, false, sym, ap, ◌∙◌, arith}
use Rattle.lines.specs.declared.line.Line.{Line}
use Rattle.stream.specs.Stream.{took, take_from}
use Rattle.stream.proofs.Laws.Take.{at-end, at-feed, at_other}
use Rattle.stream.proofs.take_bytes.Goals as goal

pub returns-then-input-i-eq10 : goal.returns-then-input-i-eq10
returns-then-input-i-eq10 c =
    sym (at-feed _ c.args.input.now _ c.loop-i-test.true c.if-input-i-eq10.true) ∙ c.loop-i.invariant.left

pub loop-i-preserved : goal.loop-i-preserved
loop-i-preserved c =
    let input = c.args.input.now in
    let i = c.loop-i.i in
    record {
      left =
          ap (λ (l : Line). take_from l (i + 1) (drop (i + 1) input)) c.feed-line.ensures
          ∙ sym (at_other _ input i c.loop-i-test.true c.if-input-i-eq10.false)
          ∙ c.loop-i.invariant.left;
      within = omega arith;
    }

pub returns : goal.returns
returns c =
    ap (λ (n : ℕ). took c.loop-i.line n false) (omega arith)
    ∙ sym (at-end _ c.args.input.now c.loop-i.i (omega arith))
    ∙ c.loop-i.invariant.left
