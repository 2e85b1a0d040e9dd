-- What a plain edit of one list is (document 01, 'Edits'), and what is promised of a call against it.
-- No word is in a plain edit: n is how many nodes there are, and `linked` says which are linked.
use Rattle.std.specs.Prelude.{ℕ, ◌≡◌, Bool, ◌&&◌, ◌||◌, not, List, ltb, eqb, get_or}
use Rattle.words.specs.Names.{is_linked}
use Rattle.words.specs.Pool.{Outcome}
use Rattle.answers.specs.declared.Refusal.TheVariants.{NoSuchNode, AlreadyLinked}
use Rattle.answers.specs.Answer.{Answer, Tested, passed, need}
use Rattle.cursor.specs.declared.Edited.{Edited}
use Rattle.cursor.specs.Plain.{Place, nodes, Sound}
use Rattle.cursor.specs.Alone.{LeavesAlone}

-- What a plain edit gives: the answer, the place, and which nodes are linked.
pub record Plain : Type 0 where
  pub answer : Answer
  pub place : Place
  pub linked : ℕ → Bool

abbrev pub plain : Answer → Place → (ℕ → Bool) → Plain
plain a z linked = record { answer = a; place = z; linked = linked }

-- With i linked, and with i unlinked, besides.
abbrev pub linking : ℕ → (ℕ → Bool) → ℕ → Bool
linking i linked j = eqb j i || linked j

abbrev pub unlinking : ℕ → (ℕ → Bool) → ℕ → Bool
unlinking i linked j = not (eqb j i) && linked j

-- 7, then 9.
abbrev pub free_test : ℕ → (ℕ → Bool) → ℕ → Tested
free_test n linked i = need (ltb i n) NoSuchNode (need (not (linked i)) AlreadyLinked passed)

-- What is promised of a call on a sound list, against its plain edit: the same answer, with the node handed out; the words
-- and the ends of the new sequence, with a true cursor at its place; the linked marks; and everything else left alone.
pub record Does (ws : List ℕ) (z : Place) (o : Outcome Edited) (d : Plain) : Type 0 where
  pub answer : o.result.answer ≡ d.answer
  pub sound : Sound o.words o.result.ends o.result.cursor d.place
  pub marks : (j : ℕ) → is_linked (get_or o.words j 0) ≡ d.linked j
  pub alone : LeavesAlone ws o.words (nodes z) (nodes d.place)

-- Which nodes are linked, by their words.
abbrev pub linked_in : List ℕ → ℕ → Bool
linked_in ws j = is_linked (get_or ws j 0)
