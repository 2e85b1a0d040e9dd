-- `run_at` meets its contract: the run from here over what is left is the run from the start over the whole input. Assumes nothing.
use Rattle.std.proofs.Common.{◌≡◌, ◌≤◌, ◌-◌, length, drop}
use Rattle.batch_desk.specs.Step.{kept_of}
use Rattle.batch_desk.specs.Run.{running, run_from}
use Rattle.batch_desk.proofs.run_at.Given as goal

abbrev pub invariant-loop-i : goal.invariant-loop-i
invariant-loop-i l = record {
  come : l.i ≤ length l.input;
  out : length l.out ≡ length l.initial.out;
  left : run_from (running l.out (kept_of l.desk) l.line l.wrote) (drop l.i l.input) ≡ run_from (running l.initial.out (kept_of l.initial.desk) l.initial.line l.at) l.input;
}

abbrev pub decreases-loop-i : goal.decreases-loop-i
decreases-loop-i l = length l.input - l.i
