-- `count_lines` meets its contract: the lines counted and the lines left are all lines. Assumes nothing.
use Rattle.std.proofs.Common.{◌≡◌, ◌≤◌, ◌+◌, drop}
use Rattle.rewzhanok.proofs.Laws.Count.{left}
use Rattle.rewzhanok.proofs.count_lines.Given as goal

abbrev pub invariant-loop-byte : goal.invariant-loop-byte
invariant-loop-byte l = record {
  few : l.lines ≤ l.byte-index;
  all : l.lines + left l.begun (drop l.byte-index l.commands) ≡ left l.initial.begun l.commands;
}
