-- `audit_in` meets its contract. Assumes nothing.
use Rattle.std.proofs.Common.{rules, arith, ◌≡◌, ◌<◌, ℕ, List, get_or, sym, ap, ◌∙◌}
use Rattle.std.proofs.lemmas.List.{same_lists, get_or-map, length-map}
use Rattle.ends.specs.declared.Ends.{Ends}
use Rattle.walk.specs.Marks.{Marking}
use Rattle.audit.specs.declared.Audited.{Audited}
use Rattle.audit.specs.Audit.{audit_all}
use Rattle.desk.specs.Reply.{reply_to_audit}
use Rattle.desk.specs.Step.{fresh_row, ends_of_all}
use Rattle.batch_desk.specs.Step.{no_marks}
use Rattle.batch_desk.proofs.audit_in.Goals as goal

pub returns : goal.returns
unfolding no_marks
returns c =
    let rows = c.args.rows.now in
    let each : (k : ℕ) (d : Ends) → k < 8 → get_or c.map-dir.result k d ≡ (get_or rows k fresh_row).ends =
    λ k d l. let h = (c.map-dir.ensures.items.at k fresh_row d l).2 in search rules in
    let long = c.map-dir.ensures.items.long in
    let dir : c.map-dir.result ≡ ends_of_all rows =
    same_lists _ _ (long ∙ sym (length-map rows (λ r. r.ends) ∙ c.told-rows)) (λ k d l. each k d (omega arith) ∙ sym (get_or-map (λ r. r.ends) rows k fresh_row d (omega arith))) in
    c.to_audit.ensures
    ∙ ap reply_to_audit (ap (λ (m : Marking Audited). m.result) (c.audit_records.ensures ∙ ap (λ (es : List Ends). audit_all c.args.words.now es no_marks) dir))
