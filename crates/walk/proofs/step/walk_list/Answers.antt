-- `walk_list` meets its contract. Assumes nothing.
use mathlib.Core.Path.{sym, ◌∙◌}
use Rattle.walk.specs.Marks.{sizes_fit}
use Rattle.walk.specs.Calls.{can_walk}
use Rattle.walk.proofs.Laws.Calls.{can, list-refused, list-empty, list-from}
use Rattle.walk.proofs.step.walk_list.Goals as goal

pub returns-then-not-sizes_fit-mark : goal.returns-then-not-sizes_fit-mark
unfolding can_walk sizes_fit
returns-then-not-sizes_fit-mark c = sym (list-refused _ _ _ _ (rw (← c.pool_fits.ensures, ← c.ends_hold.ensures) (c.if-not-sizes_fit-mark.true)))

pub returns-then-is_empty : goal.returns-then-is_empty
unfolding can_walk sizes_fit
returns-then-is_empty c = list-empty _ _ _ _ (rw (← c.pool_fits.ensures, ← c.ends_hold.ensures) (c.if-not-sizes_fit-mark.false)) (sym c.is_empty.ensures ∙ c.if-is_empty.true)

pub walk_from-requires : goal.walk_from-requires
unfolding can_walk sizes_fit
walk_from-requires c =
    let a = c.args in
    let k = can a.words.now a.marks.now a.ends a.mark (rw (← c.pool_fits.ensures, ← c.ends_hold.ensures) (c.if-not-sizes_fit-mark.false)) in
    record { words_value = k.sized.fits; marks_len = k.sized.long; mark_nonzero = k.marks }

pub returns : goal.returns
unfolding can_walk sizes_fit
returns c = c.walk_from.ensures ∙ list-from _ _ _ _ (rw (← c.pool_fits.ensures, ← c.ends_hold.ensures) (c.if-not-sizes_fit-mark.false)) (sym c.is_empty.ensures ∙ c.if-is_empty.false)
