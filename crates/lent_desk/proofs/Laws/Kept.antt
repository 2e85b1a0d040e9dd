-- What a line leaves in the lent slices is the desk of the step, so that the next line finds it there. Assumes nothing.
use mathlib.Core.Path.{◌≡◌, refl, ap, ◌∙◌}
use mathlib.Core.Bool.{Bool, true, false, cond}
use mathlib.Core.List.{List}
use Prim.Native.Nat.{ℕ}
use lib.Dec.{eqb}
use lib.ListN.{length, set, length-set}
use Rattle.walk.specs.Marks.{Marking}
use Rattle.lines.specs.declared.line.Order.{Order}
use Rattle.std.specs.Prelude.{Option, Some, None}
use Rattle.lines.specs.Lines.{tested}
use Rattle.desk.specs.declared.Row.{Row}
use Rattle.desk.specs.Step.{Desk, DeskStepped, desk_fits, lists_there, put_back, audited, unread, step_tested, step}
use Rattle.rows.proofs.Laws.Rows.{rows-laid}
use Rattle.lent_desk.specs.Lent.{Lent, desk_of, left_by, lent_step}

-- a step keeps the number of lists
abbrev many : Marking DeskStepped → ℕ
many m = length m.result.desk.lists

either : (c : Bool) (x y : Marking DeskStepped) (n : ℕ) → many x ≡ n → many y ≡ n → many (cond c x y) ≡ n
either true x y n p q = p
either false x y n p q = q

step_count : (d : Desk) (ms : List ℕ) (p : Option Order) → many (step_tested d ms p) ≡ length d.lists
unfolding unread audited put_back
step_count d ms None = refl
step_count d ms (Some o) =
    let n = length d.lists in
    either (desk_fits d ms) _ _ n
    (either (eqb o.code 20) _ _ n refl
    (either (lists_there d o) _ _ n (length-set (set d.lists o.other _) o.list _ ∙ length-set d.lists o.other _) refl))
    refl

-- the desk of these words and lists
abbrev desk_with : List ℕ → List Row → Desk
desk_with ws rs = record { words = ws; lists = rs }

-- the desk that a line leaves is the step's
pub desk-kept : (s : Lent) (p : Option Order) → desk_of (lent_step s p).lent ≡ (step (desk_of s) s.marks p).result.desk
unfolding lent_step left_by desk_of
desk-kept s p =
    let d = (step (desk_of s) s.marks p).result.desk in
    ap (desk_with d.words) (rows-laid d.lists s.lists (step_count (desk_of s) s.marks (tested p)))
