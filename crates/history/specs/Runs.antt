-- Many lines, one after another (demand 3).
use Rattle.std.specs.Prelude.{ℕ, ◌≡◌, Bool, ◌||◌, List, [], ◌∷◌, eqb, length, Option}
use Rattle.lines.specs.declared.line.Order.{Order}
use Rattle.lines.specs.Lines.{line_of}
use Rattle.lines.specs.declared.answer.Reply.{Reply}
use Rattle.desk.specs.Step.{Desk, step}
use Rattle.history.specs.History.{History, plain_step}

-- A line, as its bytes without the line feed, and the marks that the desk is lent for it.
pub record MarkedLine : Type 0 where
  pub line : List ℕ
  pub marks : List ℕ

-- There is one mark a node, whatever it is.
abbrev pub AllMarked : ℕ → List MarkedLine → Type 0
AllMarked n [] = Unit
AllMarked n (g ∷ gs) = (length g.marks ≡ n) × AllMarked n gs

-- The desk after these lines, and the history.
unfoldable pub desk_after : Desk → List MarkedLine → Desk
desk_after d [] = d
desk_after d (g ∷ gs) = desk_after (step d g.marks (line_of g.line)).result.desk gs

unfoldable pub history_after : ℕ → History → List MarkedLine → History
history_after n h [] = h
history_after n h (g ∷ gs) = history_after n (plain_step n h (line_of g.line)).history gs

-- The answers to these lines: the history's, and those of a desk that is lent the same marks for each.
unfoldable pub plain_answers : ℕ → History → List (Option Order) → List Reply
plain_answers n h [] = []
plain_answers n h (p ∷ ps) = let t = plain_step n h p in t.reply ∷ plain_answers n t.history ps

unfoldable pub answer_all : Desk → List ℕ → List (Option Order) → List Reply
answer_all d ms [] = []
answer_all d ms (p ∷ ps) = let s = (step d ms p).result in s.reply ∷ answer_all s.desk ms ps

-- The numbers that no line is answered with: 1, 4, 5, 10, 12.
unfoldable pub never_answered : ℕ → Bool
never_answered a = eqb a 1 || eqb a 4 || eqb a 5 || eqb a 10 || eqb a 12
