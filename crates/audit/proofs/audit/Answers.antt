-- `audit` meets its contract: its steps come to the audit. Assumes nothing.
use Rattle.std.proofs.Common.{◌≡◌, ap, ◌∙◌, Result}
use Rattle.walk.specs.Marks.{Marking, marking}
use Rattle.audit.specs.declared.Fault.{Fault}
use Rattle.audit.specs.declared.count.Counted.{Counted}
use Rattle.audit.specs.Steps.{reported}
use Rattle.audit.proofs.Laws.Passes.{steps-audit}
use Rattle.audit.proofs.audit.Goals as goal

pub returns : goal.returns
returns c =
    ap (λ a. marking c.count_lists.new.marks a) c.report.ensures
    ∙ ap (λ (s : Marking (Result Counted Fault)). marking s.marks (reported s.result)) c.count_lists.ensures ∙ steps-audit _ _ _
