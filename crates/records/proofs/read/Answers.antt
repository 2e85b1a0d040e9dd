-- `read` meets its contract. Assumes nothing.
use Rattle.std.proofs.Common.{sym, ap, ◌∙◌, arith}
use Rattle.std.specs.Prelude.{is_err}
use native.Mathlib.Nat.{add-sub_cancel_left}
use Rattle.records.specs.Records.{read_at}
use Rattle.records.proofs.Laws.Read.{located, never-nothing}
use Rattle.records.proofs.read.Goals as goal

pub returns-then-is_err : goal.returns-then-is_err
unfolding read_at
returns-then-is_err c = rw (← c.read_test.ensures, ← c.is_err.ensures.value, c.if-is_err.true)

pub returns-in_default : goal.returns-in_default
returns-in_default c =
    absurd
    (never-nothing _ _ c.args.cursor _ _ (ap is_err (sym c.read_test.ensures) ∙ sym c.is_err.ensures.value ∙ c.if-is_err.false) (sym c.node.ensures ∙ c.in_default.is))

pub overflow_mul-from : goal.overflow_mul-from
overflow_mul-from c =
    let l = located _ _ _ _ _ _ (ap is_err (sym c.read_test.ensures) ∙ sym c.is_err.ensures.value ∙ c.if-is_err.false) (sym c.node.ensures ∙ c.in-Some.is) in
    omega (arith, l.small)

pub overflow_add-to : goal.overflow_add-to
overflow_add-to c =
    let l = located _ _ _ _ _ _ (ap is_err (sym c.read_test.ensures) ∙ sym c.is_err.ensures.value ∙ c.if-is_err.false) (sym c.node.ensures ∙ c.in-Some.is) in
    omega (arith, l.small, l.wide)

pub slice_bounds-result-end-2 : goal.slice_bounds-result-end-2
slice_bounds-result-end-2 c =
    let l = located _ _ _ _ _ _ (ap is_err (sym c.read_test.ensures) ∙ sym c.is_err.ensures.value ∙ c.if-is_err.false) (sym c.node.ensures ∙ c.in-Some.is) in
    omega (arith, l.inside)

pub returns : goal.returns
unfolding read_at
returns c =
    let l = located _ _ _ _ _ _ (ap is_err (sym c.read_test.ensures) ∙ sym c.is_err.ensures.value ∙ c.if-is_err.false) (sym c.node.ensures ∙ c.in-Some.is) in
    rw (← c.read_test.ensures, ← c.is_err.ensures.value, c.if-is_err.false, ← l.node, add-sub_cancel_left)
