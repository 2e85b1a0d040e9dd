-- Every call keeps to the table, on anything. Assumes nothing.
use Rattle.table.specs.Calls.{at-cursor, at-both, on-list, take, placing, read, step, walk, clear, audit}
use Rattle.table.specs.Refused.{AllCalls}
use Rattle.table.proofs.Laws.AtCursor.{at-cursor-keeps}
use Rattle.table.proofs.Laws.AtBoth.{at-both-keeps, take-keeps}
use Rattle.table.proofs.Laws.OnList.{on-list-keeps}
use Rattle.table.proofs.Laws.Placing.{placing-keeps}
use Rattle.table.proofs.Laws.Reads.{read_keeps, step_keeps}
use Rattle.table.proofs.Laws.Walks.{walk-keeps, clear-keeps}
use Rattle.table.proofs.Laws.Audits.{audit-keeps}

pub all-calls : AllCalls
all-calls ws ms (at-cursor k e c) = at-cursor-keeps ws ms k e c
all-calls ws ms (at-both k e c o) = at-both-keeps ws ms k e c o
all-calls ws ms (on-list k e) = on-list-keeps ws ms k e
all-calls ws ms (take e o) = take-keeps ws ms e o
all-calls ws ms (placing k e) = placing-keeps ws ms k e
all-calls ws ms (read e c rs w) = read_keeps ws ms e c rs w
all-calls ws ms (step s it) = step_keeps ws ms s it
all-calls ws ms (walk e) = walk-keeps ws ms e
all-calls ws ms (clear e) = clear-keeps ws ms e
all-calls ws ms (audit es) = audit-keeps ws es ms
