-- `walk_from` meets its contract. After each turn the walk from the head is the walk from here, over the nodes that are left. Assumes nothing.
use Rattle.std.proofs.Common.{arith, rules, refl, sym, ap, ◌∙◌}
use lib.Bits.{bit_xor}
use Rattle.words.specs.declared.names.Name.{Name}
use Rattle.words.proofs.Laws.Names.{named-node}
use Rattle.words.proofs.Laws.Names.{decoded, undecoded}
use Rattle.walk.proofs.Laws.Loop.{walks-start, walks-on, ends-dry, ends-lost, ends-again, ends-here, fits_word, next-is, at-tail}
use Rattle.walk.proofs.step.walk_from.Goals as goal

pub overflow_cast-nodes : goal.overflow_cast-nodes
overflow_cast-nodes c = let f = fits_word _ c.requires.words_value in omega arith

pub loop-count-init : goal.loop-count-init
loop-count-init c = walks-start bit_xor _ _ _ _ _

pub returns-in_default : goal.returns-in_default
returns-in_default c = ends-lost bit_xor _ _ _ _ _ _ _ _ _ c.loop-count.invariant c.loop-count-test.true (undecoded _ _ (sym c.decode.ensures ∙ c.in_default.is))

pub bounds-marks-x : goal.bounds-marks-x
bounds-marks-x c =
    let d = decoded _ _ _ (sym c.decode.ensures ∙ c.in-Some.is) in
    let r = named-node _ _ d.here in
    omega (arith, c.requires.marks_len)

pub returns-then-marks-x-gt0 : goal.returns-then-marks-x-gt0
returns-then-marks-x-gt0 c =
    let d = decoded _ _ _ (sym c.decode.ensures ∙ c.in-Some.is) in
    ends-again bit_xor _ _ _ _ _ _ _ _ _ c.loop-count.invariant c.loop-count-test.true c.requires.marks_len c.requires.mark_nonzero d.here _ d.node _ refl c.if-marks-x-gt0.true

pub bounds-marks-x-in-loop-count : goal.bounds-marks-x-in-loop-count
bounds-marks-x-in-loop-count c =
    let d = decoded _ _ _ (sym c.decode.ensures ∙ c.in-Some.is) in
    let r = named-node _ _ d.here in
    omega (arith, c.requires.marks_len)

pub returns-then-eq : goal.returns-then-eq
returns-then-eq c =
    let d = decoded _ _ _ (sym c.decode.ensures ∙ c.in-Some.is) in
    let q = ap (λ (n : Name). n.0) c.next-next.ensures ∙ next-is _ _ _ d.here in
    rw c.is_null.ensures
    (ends-here bit_xor _ _ _ _ _ _ _ _ _ c.loop-count.invariant c.loop-count-test.true c.requires.marks_len c.requires.mark_nonzero d.here _ d.node _ q c.if-marks-x-gt0.false (at-tail _ _ _ (sym c.eq.ensures ∙ c.if-eq.true)))

pub loop-count-preserved : goal.loop-count-preserved
loop-count-preserved c =
    let d = decoded _ _ _ (sym c.decode.ensures ∙ c.in-Some.is) in
    let q = ap (λ (n : Name). n.0) c.next-next.ensures ∙ next-is _ _ _ d.here in
    walks-on bit_xor _ _ _ _ _ _ _ _ _ c.loop-count.invariant c.loop-count-test.true c.requires.marks_len c.requires.mark_nonzero d.here _ d.node _ q c.if-marks-x-gt0.false (at-tail _ _ _ (sym c.eq.ensures ∙ c.if-eq.false))

pub returns : goal.returns
returns c = ends-dry bit_xor _ _ _ _ _ _ _ _ _ c.loop-count.invariant (search rules)
