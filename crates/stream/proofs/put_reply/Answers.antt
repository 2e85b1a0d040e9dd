-- `put_reply` meets its contract. Assumes nothing.
use native.Mathlib.Omega.{arith}
use Rattle.stream.proofs.Laws.Place.{no-room, placed}
use Rattle.stream.proofs.put_reply.Goals as goal

pub returns-then-room-lt11 : goal.returns-then-room-lt11
returns-then-room-lt11 c = no-room _ _ _ (omega (arith, c.if-room-lt11.true))

pub returns : goal.returns
returns c = placed _ _ _ _ (omega arith) c.put_answer.ensures
