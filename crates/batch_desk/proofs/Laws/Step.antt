-- What each way through the step of the batch desk comes to. Assumes nothing.
use Prim.Native.Nat.{ℕ, ◌<◌}
use mathlib.Core.Path.{◌≡◌, refl, sym, ap, ◌∙◌}
use mathlib.Core.Bool.{Bool, true, false, ◌&&◌, ◌||◌, cond}
use mathlib.Core.List.{List, map}
use native.Mathlib.Omega.{arith}
use lib.Dec.{leb, ltb, eqb}
use lib.ListN.{length, set, length-map}
use borrow.Author.Tests.{leb-true, leb-false, lt-ltb, le-ltb, eq-eqb, ne_eqb}
use Rattle.std.specs.Prelude.{Option, Some, None}
use Rattle.words.specs.Names.{directory_limit, directory_fits}
use Rattle.words.specs.Pool.{Outcome, outcome}
use Rattle.answers.specs.declared.Refusal.TheVariants.{Size, NoSuchList, Malformed}
use Rattle.audit.specs.Audit.{audit_all}
use Rattle.lines.specs.declared.line.Order.{Order}
use Rattle.lines.specs.Lines.{tested}
use Rattle.lines.specs.declared.answer.Reply.{Reply}
use Rattle.desk.specs.declared.Row.{Row}
use Rattle.desk.specs.declared.Worked.{Worked}
use Rattle.desk.specs.Reply.{reply_to, reply_to_audit, reply_unread}
use Rattle.desk.specs.Step.{Desk, DeskStepped, desk_stepped, row_at, put_row, put_words, ends_of_all, desk_limit, desk_fits, lists_there, command, put_back, audited, unread}
use Rattle.batch_desk.specs.Step.{no_marks, batch_step}
use Rattle.batch_desk.specs.Steps.{unmarking, desk_on, batch_tested}

-- a test that a list is out of range, and the same test as the definition has it
pub beyond : (l m : ℕ) → leb 8 l || leb 8 m ≡ true → ltb l 8 && ltb m 8 ≡ false
beyond l m h = go (leb 8 l) (leb 8 m) refl refl h
  where
    go : (s t : Bool) → leb 8 l ≡ s → leb 8 m ≡ t → s || t ≡ true → ltb l 8 && ltb m 8 ≡ false
    go true t e f h = rw (le-ltb l 8 (leb-true 8 l e))
    go false true e f h = rw (lt-ltb l 8 (leb-false 8 l e), le-ltb m 8 (leb-true 8 m f))
    go false false e f h = cc

pub within : (l m : ℕ) → leb 8 l || leb 8 m ≡ false → (l < 8) × (m < 8)
within l m h = go (leb 8 l) (leb 8 m) refl refl h
  where
    go : (s t : Bool) → leb 8 l ≡ s → leb 8 m ≡ t → s || t ≡ false → (l < 8) × (m < 8)
    go false false e f h = (leb-false 8 l e, leb-false 8 m f)
    go false true e f h = let z : ◌≡◌ {A = ℕ} 0 1 = cc in absurd (omega arith)
    go true t e f h = let z : ◌≡◌ {A = ℕ} 0 1 = cc in absurd (omega arith)

-- the step of a line that is right, by its three tests
by_tests : (d : Desk) (o : Order) (t u v : Bool) → desk_fits d no_marks ≡ t → eqb o.code 20 ≡ u → lists_there d o ≡ v
    → batch_tested d (Some o)
    ≡ (cond t
    (cond u (audited d no_marks)
    (cond v (put_back d o (command d.words no_marks (row_at d o.list) (row_at d o.other) o)) (unread d no_marks NoSuchList)))
    (unread d no_marks Size)).result
unfolding batch_tested
by_tests d o t u v e f g = rw (← e, ← f, ← g)

-- 11 is tested first
pub tested-first : (d : Desk) (p q : Option Order) (s : DeskStepped) → q ≡ tested p → s ≡ batch_tested d q → s ≡ batch_step d p
unfolding batch_tested batch_step
tested-first d p q s e h = h ∙ ap (batch_tested d) e

-- a command that is not clear comes to the same whatever marks are lent
pub unread-marks : (ws ms : List ℕ) (r q : Row) (o : Order) → (o.code ≡ 13 → ⊥)
    → unmarking (command ws ms r q o) ≡ unmarking (command ws no_marks r q o)
unfolding command
unread-marks ws ms r q o h = rw (ne_eqb o.code 13 h)

-- an array of a struct has the length that its type says
pub known : {A B : Type 0} (f : A → B) (xs : List A) (n : ℕ) → length (map f xs) ≡ n → length xs ≡ n
known f xs n h = sym (length-map xs f) ∙ h

-- ---- what a line comes to

module _ (d : Desk) (hw : length d.words ≡ 1024) (he : length d.lists ≡ 8) where
  fits : desk_fits d no_marks ≡ true
  unfolding desk_fits desk_limit directory_fits directory_limit no_marks
  fits = rw (hw, he)

  listed : (o : Order) (t : Bool) → ltb o.list 8 && ltb o.other 8 ≡ t → lists_there d o ≡ t
  unfolding lists_there
  listed o t e = rw he e

  -- 11
  pub at-malformed : (p : Option Order) → p ≡ None → (a : Reply) → a ≡ reply_unread Malformed → desk_stepped d a ≡ batch_tested d p
  unfolding batch_tested unread
  at-malformed p e a h = rw (e, h)

  -- the audit
  pub at-audit : (p : Option Order) (o : Order) → p ≡ Some o → o.code ≡ 20 → (a : Reply)
      → a ≡ reply_to_audit (audit_all d.words (ends_of_all d.lists) no_marks).result → desk_stepped d a ≡ batch_tested d p
  unfolding audited
  at-audit p o e k a h = rw (e, h) (sym (by_tests d o true true (lists_there d o) fits (eq-eqb o.code 20 k) refl))

  -- 2
  pub at-no-list : (p : Option Order) (o : Order) → p ≡ Some o → (o.code ≡ 20 → ⊥) → leb 8 o.list || leb 8 o.other ≡ true → (a : Reply)
      → a ≡ reply_unread NoSuchList → desk_stepped d a ≡ batch_tested d p
  unfolding unread
  at-no-list p o e k t a h =
      rw (e, h) (sym (by_tests d o true false false fits (ne_eqb o.code 20 k) (listed o false (beyond o.list o.other t))))

  -- a command on lists
  pub at-command : (p : Option Order) (o : Order) → p ≡ Some o → (o.code ≡ 20 → ⊥) → leb 8 o.list || leb 8 o.other ≡ false
      → (end : List ℕ) (w : Worked) (a : Reply) → outcome end w ≡ unmarking (command d.words no_marks (row_at d o.list) (row_at d o.other) o) → a ≡ reply_to 1024 w
      → desk_stepped (desk_on end (set (set d.lists o.other w.other) o.list w.named)) a ≡ batch_tested d p
  unfolding put_back
  at-command p o e k t end w a c h =
      let i = within o.list o.other t in
      let there : lists_there d o ≡ true = listed o true (rw (lt-ltb o.list 8 i.0, lt-ltb o.other 8 i.1)) in
      let left : Outcome Worked → DeskStepped = λ x. desk_stepped (put_row (put_row (put_words d x.words) o.other x.result.other) o.list x.result.named) (reply_to 1024 x.result) in
      rw (e, h) (ap left c ∙ rw (← hw) (sym (by_tests d o true false true fits (ne_eqb o.code 20 k) there)))
