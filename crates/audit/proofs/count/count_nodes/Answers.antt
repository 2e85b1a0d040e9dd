-- `count_nodes` meets its contract: the nodes passed are counted. Assumes nothing.
use Rattle.std.proofs.Common.{◌∙◌, arith, rules, length-append}
use Rattle.std.proofs.lemmas.Slice.Zip.{zip_turn, zip_end}
use Rattle.walk.specs.Marks.{sizes_fit}
use Rattle.audit.proofs.Laws.Tally.{at_most_one, counts-none, counts-refused, counts-more, counts_all}
use Rattle.audit.proofs.count.count_nodes.Goals as goal

pub returns-then-not-pool_fits-marks : goal.returns-then-not-pool_fits-marks
unfolding sizes_fit
returns-then-not-pool_fits-marks c = counts-refused _ _ (rw (← c.pool_fits.ensures) (c.if-not-pool_fits-marks.true))

pub loop-word-init : goal.loop-word-init
unfolding sizes_fit
loop-word-init c = counts-none _ _ (rw (← c.pool_fits.ensures) (c.if-not-pool_fits-marks.false))

pub overflow_add-on_lists : goal.overflow_add-on_lists
overflow_add-on_lists c = omega (arith, at_most_one _ _ c.on_list-on_lists.ensures)

pub overflow_add-stranded : goal.overflow_add-stranded
overflow_add-stranded c = omega (arith, at_most_one _ _ c.off_lists-stranded.ensures)

pub loop-word-preserved : goal.loop-word-preserved
loop-word-preserved c =
    let t = zip_turn c.args.words.now c.args.marks.now c.loop-word.yielded c.into_iter-word-iterator.result c.loop-word.word-iterator c.next.new.self _ (search rules) (search rules) c.loop-word.yielded_by _ c.in-Some.is c.next.ensures.steps in
    rw length-append
    (counts-more _ _ _ _ _ _ _ c.loop-word.invariant t.0 (c.on_list-on_lists.ensures ∙ rw (t.3 0)) (c.off_lists-stranded.ensures ∙ rw (t.2 0, t.3 0)))

pub returns : goal.returns
returns c =
    let t = zip_end c.args.words.now c.args.marks.now c.loop-word.yielded c.into_iter-word-iterator.result c.loop-word.word-iterator c.next.new.self _ (search rules) (search rules) c.loop-word.yielded_by c.in-None.is c.next.ensures.steps in
    counts_all _ _ _ _ _ c.loop-word.invariant (let m = c.loop-word.invariant.long in omega arith)
