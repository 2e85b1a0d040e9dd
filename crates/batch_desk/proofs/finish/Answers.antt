-- `finish` meets its contract. Assumes nothing.
use Rattle.batch_desk.proofs.Laws.Finish.{rests, answers}
use Rattle.batch_desk.proofs.finish.Goals as goal

pub returns-then-line-eq0 : goal.returns-then-line-eq0
returns-then-line-eq0 c = rests _ _ _ _ c.if-line-eq0.true

pub returns : goal.returns
returns c = answers _ _ _ _ c.if-line-eq0.false _ c.run_at.ensures
