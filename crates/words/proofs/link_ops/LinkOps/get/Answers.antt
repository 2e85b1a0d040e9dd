-- `LinkOps::get` meets its contract. Assumes nothing.
use mathlib.Core.Path.{sym, ◌∙◌}
use Rattle.words.specs.Pool.{word_at}
use Rattle.words.proofs.Laws.Names.{decoded, undecoded}
use Rattle.words.proofs.link_ops.LinkOps.get.Goals as goal

pub returns-in_default : goal.returns-in_default
unfolding word_at
returns-in_default c = rw (undecoded _ c.args.ptr (sym c.decode.ensures ∙ c.in_default.is))

pub bounds-words-i : goal.bounds-words-i
bounds-words-i c = (decoded _ c.args.ptr _ (sym c.decode.ensures ∙ c.in-Some.is)).below

pub returns : goal.returns
unfolding word_at
returns c = rw ((decoded _ c.args.ptr _ (sym c.decode.ensures ∙ c.in-Some.is)).here, ← (decoded _ c.args.ptr _ (sym c.decode.ensures ∙ c.in-Some.is)).node)
