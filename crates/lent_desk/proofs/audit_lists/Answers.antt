-- `audit_lists` meets its contract. Assumes nothing.
use Rattle.std.proofs.Common.{arith, length-set, ◌∙◌}
use Rattle.lent_desk.proofs.Laws.Copies.{copied_more, copies-audited}
use Rattle.lent_desk.proofs.audit_lists.Goals as goal

pub loop-i-preserved : goal.loop-i-preserved
loop-i-preserved c = record {
  room = length-set _ _ _ ∙ c.loop-i.invariant.room;
  copied = copied_more _ _ _ _ (omega arith) (omega (arith, c.row_count-k.ensures)) c.row_at.ensures c.loop-i.invariant.copied;
}

pub returns : goal.returns
returns c = copies-audited _ _ _ _ c.row_count-k.ensures c.loop-i-test.false (omega arith) c.loop-i.invariant.copied _ _ _ _ _ c.audit_records.ensures c.to_audit.ensures
