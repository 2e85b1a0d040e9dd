-- The steps that the audit's code is made of. The audit itself is in Audit; a law says that the steps come to it.
use Rattle.std.specs.Prelude.{ℕ, cond, List, length, Result, Ok, Err}
use Rattle.answers.specs.declared.Refusal.{Refusal}
use Rattle.answers.specs.declared.Refusal.TheVariants.{Size, EndsDoNotHold, NoListing}
use Rattle.answers.specs.Answer.{done}
use Rattle.ends.specs.declared.Ends.{Ends}
use Rattle.walk.specs.Marks.{is_marked, unmarked, sizes_fit, Marking, marking}
use Rattle.audit.specs.declared.Audited.{Audited}
use Rattle.audit.specs.declared.Fault.{Fault}
use Rattle.audit.specs.declared.count.Counted.{Counted}
use Rattle.audit.specs.Audit.{Lowest, none, list, tally, is_stranded, audit_fits, lowest_unheld, walks_of, refused_at}

-- Both counts of nodes; none where the sizes do not fit.
unfoldable pub counted_of : List ℕ → List ℕ → Counted
counted_of ws ms =
    cond (sizes_fit ws ms)
    (record { on_lists = tally (length ws) (is_marked ms); stranded = tally (length ws) (is_stranded ws ms) })
    (record { on_lists = 0; stranded = 0 })

-- What a pass over the lists says, by the list that fails first, if any does.
abbrev pub unless_at : Refusal → Lowest → Result Unit Fault
unless_at r none = Ok tt
unless_at r (list k) = Err (record { refusal = r; list = k })

-- The marks that are left of these after the walks: none, if one of them comes out wrong.
abbrev pub unmarked_at : List ℕ → Lowest → List ℕ
unmarked_at ms none = ms
unmarked_at ms (list k) = unmarked ms

-- Both counts, unless a pass says otherwise.
abbrev pub and_counted : Result Unit Fault → Counted → Result Counted Fault
and_counted (Ok u) c = Ok c
and_counted (Err f) c = Err f

-- What the steps leave of the marks and say, after the test of all ends: the walks, over marks of which none is set, and the counts.
abbrev pub after_test : List ℕ → List Ends → List ℕ → Result Unit Fault → Marking (Result Counted Fault)
after_test ws es ms (Err f) = marking ms (Err f)
after_test ws es ms (Ok u) =
    let w = walks_of ws 0 es (unmarked ms) in
    let m = unmarked_at w.marks w.result in
    marking m (and_counted (unless_at NoListing w.result) (counted_of ws m))

-- All of them: the sizes, the ends, the walks, the counts.
unfoldable pub counted_steps : List ℕ → List Ends → List ℕ → Marking (Result Counted Fault)
counted_steps ws es ms =
    cond (audit_fits ws es ms)
    (after_test ws es ms (unless_at EndsDoNotHold (lowest_unheld ws 0 es)))
    (marking ms (Err (record { refusal = Size; list = 0 })))

-- What is handed back: both counts, or the refusal and the list that it names.
abbrev pub reported : Result Counted Fault → Audited
reported (Ok c) = record { answer = done; list = 0; on_lists = c.on_lists; stranded = c.stranded }
reported (Err f) = refused_at f.refusal f.list
