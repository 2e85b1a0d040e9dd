-- The steps of the code come to the lent desk. Assumes nothing.
use mathlib.Core.Path.{◌≡◌, sym, ap, ◌∙◌}
use mathlib.Core.Bool.{Bool, true, false, ◌&&◌, ◌||◌, not}
use mathlib.Core.List.{List}
use Prim.Native.Nat.{ℕ, ◌≤◌}
use native.Mathlib.Omega.{arith}
use lib.Dec.{ltb, leb, eqb}
use lib.ListN.{length, get_or, set}
use borrow.Author.Tests.{not-true, not-false, leb-true, eq-eqb, ne_eqb}
use Rattle.std.proofs.lemmas.Bool.Decides.{nat_tests}
use Rattle.words.specs.Names.{directory_limit, directory_fits}
use Rattle.words.specs.Pool.{outcome}
use Rattle.words.proofs.Laws.Cases.{both}
use Rattle.answers.specs.declared.Refusal.TheVariants.{Size, NoSuchList, Malformed}
use Rattle.walk.specs.Marks.{Marking, marking}
use Rattle.lines.specs.declared.line.Order.{Order}
use Rattle.std.specs.Prelude.{Option, Some, None}
use Rattle.lines.specs.Lines.{tested}
use Rattle.lines.specs.declared.answer.Reply.{Reply}
use Rattle.desk.specs.declared.Row.{Row}
use Rattle.desk.specs.declared.Worked.{Worked}
use Rattle.desk.specs.Reply.{reply_to, reply_unread}
use Rattle.desk.specs.Step.{desk_stepped, fresh_row, desk_limit, desk_fits, lists_there, command, put_back, audited, unread}
use Rattle.rows.specs.Rows.{rows_of, laid}
use Rattle.rows.proofs.Laws.Rows.{laid-own, laid-two}
use Rattle.lent_desk.specs.Lent.{Lent, lent, LentStepped, lent_stepped, desk_of, left_by, lent_step}
use Rattle.lent_desk.specs.Steps.{audit_reply, command_step, lent_tested}

-- a command that is read, done and stored
pub command-stored : (s : Lent) (o : Order) (r q : Row)
    → r ≡ get_or (rows_of s.lists) o.list fresh_row → q ≡ get_or (rows_of s.lists) o.other fresh_row
    → (ws' ms' : List ℕ) (w : Worked) → outcome ws' (marking ms' w) ≡ command s.words s.marks r q o
    → (ls' ls'' : List ℕ) → ls' ≡ laid (set (rows_of s.lists) o.other w.other) s.lists
    → ls'' ≡ laid (set (rows_of ls') o.list w.named) ls'
    → (a : Reply) → a ≡ reply_to (length s.words) w → lent_stepped (lent ws' ls'' ms') a ≡ command_step s o
unfolding command_step left_by put_back desk_of
command-stored s o r q rs qs ws' ms' w made ls' ls'' first second a told =
    rw (told, second ∙ laid-two s.lists o.other o.list w.other w.named ls' first, ← rs, ← qs, ← made)

-- ---- what a step of the desk leaves

module _ (s : Lent) where
  -- a desk whose lists have not changed
  kept : (ms : List ℕ) (a : Reply) → left_by s (marking ms (desk_stepped (desk_of s) a)) ≡ lent_stepped (lent s.words s.lists ms) a
  unfolding left_by desk_of
  kept ms a = rw (laid-own s.lists)

  pub malformed : (a : Reply) → a ≡ reply_unread Malformed → lent_stepped s a ≡ lent_tested s None
  unfolding lent_tested unread
  malformed a told = ap (lent_stepped s) told ∙ sym (kept s.marks (reply_unread Malformed))

-- 11 is tested first
pub tested-first : (s : Lent) (p q r : Option Order) (t : LentStepped) → q ≡ tested p → q ≡ r → t ≡ lent_tested s r → t ≡ lent_step s p
unfolding lent_tested lent_step
tested-first s p q r t e f h = rw (← e, f) h

-- ---- a right line, by its tests

-- a test that a list is there, and the same test as the code has it
neither : (l m k : ℕ) → ltb l k && ltb m k ≡ not (leb k l || leb k m)
neither l m k = grind (arith, nat_tests)

module _ (s : Lent) (o : Order) (k : ℕ) (few : k ≡ length (rows_of s.lists)) (b : Bool)
    (fit : b ≡ ((leb (length s.words) desk_limit && eqb (length s.marks) (length s.words)) && directory_fits k)) where
  fits : desk_fits (desk_of s) s.marks ≡ b
  unfolding desk_fits desk_of
  fits = rw (← few) (sym fit)

  -- so that an audit has room for the ends
  pub few-lists : not b ≡ false → length (rows_of s.lists) ≤ 64
  unfolding directory_fits directory_limit
  few-lists h =
      let p = leb (length s.words) desk_limit && eqb (length s.marks) (length s.words) in
      let t = (both p (directory_fits k) (sym fit ∙ not-false b h)).1 in
      let l = leb-true k 64 t in omega arith

  -- 2, as the code has it
  there : (t : Bool) → (leb k o.list || leb k o.other) ≡ t → lists_there (desk_of s) o ≡ not t
  unfolding lists_there desk_of
  there t e = rw (← few, ← e) (neither o.list o.other k)

  pub too-big : not b ≡ true → (a : Reply) → a ≡ reply_unread Size → lent_stepped s a ≡ lent_tested s (Some o)
  unfolding lent_tested unread
  too-big h a told = rw (fits ∙ not-true b h, told) (sym (kept s s.marks (reply_unread Size)))

  audit-known : (ms : List ℕ) (a : Reply) → marking ms a ≡ audit_reply s.words (rows_of s.lists) s.marks
      → marking ms (desk_stepped (desk_of s) a) ≡ audited (desk_of s) s.marks
  unfolding audited audit_reply desk_of
  audit-known ms a made = ap (λ (y : Marking Reply). marking y.marks (desk_stepped (desk_of s) y.result)) made

  pub audit-left : not b ≡ false → o.code ≡ 20
      → (ms : List ℕ) (a : Reply) → marking ms a ≡ audit_reply s.words (rows_of s.lists) s.marks
      → lent_stepped (lent s.words s.lists ms) a ≡ lent_tested s (Some o)
  unfolding lent_tested
  audit-left h c ms a made =
      rw (fits ∙ not-false b h, eq-eqb o.code 20 c) (sym (kept s ms a) ∙ ap (left_by s) (audit-known ms a made))

  pub no-list : not b ≡ false → (o.code ≡ 20 → ⊥) → leb k o.list || leb k o.other ≡ true
      → (a : Reply) → a ≡ reply_unread NoSuchList → lent_stepped s a ≡ lent_tested s (Some o)
  unfolding lent_tested unread
  no-list h c n a told =
      rw (fits ∙ not-false b h, ne_eqb o.code 20 c, there true n, told) (sym (kept s s.marks (reply_unread NoSuchList)))

  pub command-left : not b ≡ false → (o.code ≡ 20 → ⊥) → leb k o.list || leb k o.other ≡ false
      → (t : LentStepped) → t ≡ command_step s o → t ≡ lent_tested s (Some o)
  unfolding lent_tested command_step desk_of
  command-left h c n t made = rw (fits ∙ not-false b h, ne_eqb o.code 20 c, there false n) made
