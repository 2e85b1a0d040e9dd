-- Demand 1: what a refused call leaves, and what is promised of every call, on anything.
use Rattle.std.specs.Prelude.{ℕ, ◌≡◌, Bool, true, false, ◌&&◌, cond, List, [], ◌∷◌, eqb, length, Err}
use Rattle.answers.specs.declared.Refusal.{Refusal}
use Rattle.answers.specs.Answer.{number}
use Rattle.cursor.specs.Cursor.{null_cursor}
use Rattle.walk.specs.Marks.{unmarked}
use Rattle.walk.specs.Walk.{walk_of}
use Rattle.audit.specs.Audit.{Lowest, none, list, lowest_unheld, walks_of}
use Rattle.table.specs.Calls.{Call, at-cursor, at-both, on-list, take, placing, read, step, walk, clear, audit}
use Rattle.table.specs.Calls.{Back, cursor-back, both-back, list_back, lists_back, iter-back, nothing-back, Left, left, calls}
use Rattle.table.specs.Table.{FirstFailing, row}

-- The calls that follow a chain.
abbrev pub follows_chain : Call → Bool
follows_chain (at-cursor k e c) = false
follows_chain (at-both k e c o) = false
follows_chain (on-list k e) = false
follows_chain (take e o) = false
follows_chain (placing k e) = false
follows_chain (read e c rs w) = false
follows_chain (step s it) = false
follows_chain (walk e) = true
follows_chain (clear e) = true
follows_chain (audit es) = true

-- The marks after a refusal with the number n: all 0 after 10 where a chain is followed, and as they were after every other. No
-- other definition says so.
abbrev pub marks_after : Bool → ℕ → List ℕ → List ℕ
marks_after follows n ms = cond (follows && eqb n 10) (unmarked ms) ms

abbrev pub marks_under : Call → Refusal → List ℕ → List ℕ
marks_under c r ms = marks_after (follows_chain c) (number r) ms

-- Which list is lowest; 0 if none is.
abbrev pub which : Lowest → ℕ
which none = 0
which (list k) = k

-- The numbers that a refusal gives: of the walk under 10 how many nodes it stood on, of the audit under 4 the lowest list whose ends
-- do not hold, under 10 the lowest that has no listing or shares a node with a lower one. All others are 0, and a refused read
-- gives no byte.
abbrev pub numbers_under : List ℕ → List ℕ → Call → Refusal → List ℕ
numbers_under ws ms (at-cursor k e c) r = []
numbers_under ws ms (at-both k e c o) r = []
numbers_under ws ms (on-list k e) r = []
numbers_under ws ms (take e o) r = []
numbers_under ws ms (placing k e) r = []
numbers_under ws ms (read e c rs w) r = []
numbers_under ws ms (step s it) r = []
numbers_under ws ms (walk e) r = cond (eqb (number r) 10) (length (walk_of ws (unmarked ms) e).met) 0 ∷ []
numbers_under ws ms (clear e) r = []
numbers_under ws ms (audit es) r =
    cond (eqb (number r) 4) (which (lowest_unheld ws 0 es)) (cond (eqb (number r) 10) (which (walks_of ws 0 es (unmarked ms)).result) 0)
    ∷ 0 ∷ 0 ∷ []

-- What was given, of that which a call hands back. A call that makes a cursor was given none: it is the null one of the given ends.
abbrev pub given : Call → Back
given (at-cursor k e c) = cursor-back e c
given (at-both k e c o) = both-back e c o
given (on-list k e) = list_back e
given (take e o) = lists_back e o
given (placing k e) = cursor-back e (null_cursor e)
given (read e c rs w) = nothing-back
given (step s it) = iter-back it
given (walk e) = nothing-back
given (clear e) = list_back e
given (audit es) = nothing-back

-- A refused call: no word is changed, what was given comes back, and no node is handed out.
abbrev pub refused : List ℕ → List ℕ → Call → Refusal → Left
refused ws ms c r = left ws (marks_under c r ms) (Err r) (given c) (numbers_under ws ms c r)

-- What is promised of a call: it is refused by the first test of its row that fails, and done if none fails; and refused, it has
-- changed nothing but marks, by the one definition of that.
pub record Keeps (ws ms : List ℕ) (c : Call) : Type 0 where
  pub tests : FirstFailing (row ws ms c) (calls ws ms c).answer
  pub unchanged : (r : Refusal) → (calls ws ms c).answer ≡ Err r → calls ws ms c ≡ refused ws ms c r

-- Any words and any marks, and any call with anything that it is given.
abbrev pub AllCalls : Type 0
AllCalls = (ws ms : List ℕ) (c : Call) → Keeps ws ms c
