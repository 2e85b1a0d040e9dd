-- `Name::decode` meets its contract. Assumes nothing.
use native.Mathlib.Omega.{arith}
use mathlib.Core.Path.{sym, ◌∙◌}
use Rattle.words.specs.Names.{decoding}
use Rattle.words.proofs.Laws.Names.{named}
use Rattle.words.proofs.names.Name.decode.Goals as goal

pub overflow_sub-result : goal.overflow_sub-result
overflow_sub-result c = omega (arith, (named _ _ (sym c.in_range.ensures ∙ c.if-in_range.true)).some)

pub returns-then-in_range : goal.returns-then-in_range
unfolding decoding
returns-then-in_range c = rw (← c.in_range.ensures, c.if-in_range.true)

pub returns : goal.returns
unfolding decoding
returns c = rw (← c.in_range.ensures, c.if-in_range.false)
