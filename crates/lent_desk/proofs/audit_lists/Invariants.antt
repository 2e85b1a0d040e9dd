-- `audit_lists` meets its contract. Assumes nothing.
use Rattle.std.proofs.Common.{◌≡◌, length, take}
use Rattle.rows.specs.Rows.{rows_of}
use Rattle.desk.specs.Step.{ends_of_all}
use Rattle.lent_desk.proofs.audit_lists.Given as goal

abbrev pub invariant-loop-i : goal.invariant-loop-i
invariant-loop-i l = record {
  room : length l.dir ≡ 64;
  copied : take l.i l.dir ≡ ends_of_all (take l.i (rows_of l.lists));
}
