-- `take_bytes` meets its contract: what is left of the line from here is what was left from the start. Assumes nothing.
use Rattle.std.proofs.Common.{◌≡◌, ◌≤◌, drop, max}
use Rattle.stream.specs.Stream.{take_from}
use Rattle.stream.proofs.take_bytes.Given as goal

abbrev pub invariant-loop-i : goal.invariant-loop-i
invariant-loop-i l = record {
  left : take_from l.line l.i (drop l.i l.input) ≡ take_from l.initial.line l.at (drop l.at l.input);
  within : l.i ≤ max l.at l.i-end;
}
