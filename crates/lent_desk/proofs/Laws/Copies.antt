-- Ends that are copied list by list come to the ends of all lists. Assumes nothing.
use mathlib.Core.Path.{◌≡◌, refl, sym, ap, ◌∙◌}
use mathlib.Core.List.{List, [], ◌∷◌, ◌++◌}
use Prim.Native.Nat.{ℕ, zero, suc, ◌+◌, ◌<◌, ◌≤◌}
use native.Mathlib.Omega.{arith}
use native.Mathlib.Numerals.{add-one}
use lib.ListN.{length, get_or, set, take}
use Rattle.std.proofs.Math.Seq.{take-suc-set}
use Rattle.walk.specs.Marks.{marking}
use Rattle.ends.specs.declared.Ends.{Ends}
use Rattle.audit.specs.declared.Audited.{Audited}
use Rattle.audit.specs.Audit.{audit_all}
use Rattle.lines.specs.declared.answer.Reply.{Reply}
use Rattle.desk.specs.declared.Row.{Row}
use Rattle.desk.specs.Reply.{reply_to_audit}
use Rattle.desk.specs.Step.{fresh_row, ends_of_all}
use Rattle.lent_desk.specs.Steps.{audit_reply}

read-last : (rs : List Row) (i : ℕ) → i < length rs
    → ends_of_all (take (suc i) rs) ≡ ends_of_all (take i rs) ++ ((get_or rs i fresh_row).ends ∷ [])
read-last [] i h = absurd (omega arith)
read-last (r ∷ rs) zero h = refl
read-last (r ∷ rs) (suc i) h = ap (λ (l : List Ends). r.ends ∷ l) (read-last rs i (omega arith))

-- one list more
pub copied_more : (es : List Ends) (rs : List Row) (i : ℕ) (r : Row) → i < length es → i < length rs → r ≡ get_or rs i fresh_row
    → take i es ≡ ends_of_all (take i rs) → take (i + 1) (set es i r.ends) ≡ ends_of_all (take (i + 1) rs)
copied_more es rs i r h k e so =
    rw (add-one i)
    (take-suc-set es i r.ends h
    ∙ ap (λ (l : List Ends). l ++ (r.ends ∷ [])) so
    ∙ ap (λ (q : Row). ends_of_all (take i rs) ++ (q.ends ∷ [])) e
    ∙ sym (read-last rs i k))

take_all : (rs : List Row) → take (length rs) rs ≡ rs
take_all [] = refl
take_all (r ∷ rs) = ap (λ (l : List Row). r ∷ l) (take_all rs)

-- all lists
pub copies-audited : (rs : List Row) (k : ℕ) (es : List Ends) (i : ℕ) → k ≡ length rs → k ≤ i → i ≤ k → take i es ≡ ends_of_all (take i rs)
    → (ws ms ms' : List ℕ) (a : Audited) (r : Reply) → marking ms' a ≡ audit_all ws (take k es) ms → r ≡ reply_to_audit a
    → marking ms' r ≡ audit_reply ws rs ms
unfolding audit_reply
copies-audited rs k es i n over within so ws ms ms' a r made told =
    let z : k ≡ i = omega arith in
    let y : i ≡ length rs = omega arith in
    let all : take k es ≡ ends_of_all rs =
    ap (λ (j : ℕ). take j es) z ∙ so ∙ ap (λ (j : ℕ). ends_of_all (take j rs)) y ∙ ap ends_of_all (take_all rs) in
    let m = made ∙ ap (λ (l : List Ends). audit_all ws l ms) all in rw (told, ← m)
