-- `row_count` meets its contract. Assumes nothing.
use mathlib.Core.Path.{sym}
use Rattle.rows.proofs.Laws.Rows.{count-rows}
use Rattle.rows.proofs.row_count.Goals as goal

pub returns : goal.returns
returns c = sym (count-rows c.args.lists.now)
