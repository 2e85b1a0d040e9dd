-- What is there is what the nodes below i come to.
use Rattle.std.proofs.Common.{◌≡◌}
use Rattle.words.specs.Pool.{outcome}
use Rattle.ends.specs.Ends.{list_edited}
use Rattle.example_loop.specs.Pushed.{pushed_all}
use Rattle.example_loop.proofs.push_all.Given as goal

abbrev pub invariant-loop-i : goal.invariant-loop-i
invariant-loop-i l = outcome l.words (list_edited l.list.answer l.list.ends) ≡ pushed_all l.i l.initial.words
