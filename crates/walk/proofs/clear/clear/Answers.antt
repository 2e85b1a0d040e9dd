-- `clear` meets its contract. Assumes nothing.
use mathlib.Core.Path.{sym, ◌∙◌}
use Rattle.walk.proofs.Laws.Calls.{clear-refused, clear-long, clear-done}
use Rattle.walk.proofs.clear.clear.Goals as goal

pub returns-then-is_err : goal.returns-then-is_err
returns-then-is_err c = rw c.new.ensures (clear-refused _ _ _ _ _ c.walk-answer.ensures (sym c.is_err.ensures.value ∙ c.if-is_err.true))

pub release_marked-requires : goal.release_marked-requires
release_marked-requires c = clear-long _ _ _ _ _ c.walk-answer.ensures (sym c.is_err.ensures.value ∙ c.if-is_err.false)

pub returns : goal.returns
returns c = rw c.new-2.ensures (clear-done _ _ _ _ _ c.walk-answer.ensures (sym c.is_err.ensures.value ∙ c.if-is_err.false) _ c.release_marked.ensures _ c.empty.ensures)
