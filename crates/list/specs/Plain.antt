-- The plain edits that the list calls stand for (document 01, 'Edits'), and what is promised of a call. No word is in them.
use Rattle.std.specs.Prelude.{ℕ, ◌≡◌, Bool, List, get_or}
use Rattle.std.specs.Int.Bits.{bit_xor}
use Rattle.words.specs.Names.{is_linked}
use Rattle.words.specs.Pool.{Outcome}
use Rattle.words.specs.Listing.{Listing}
use Rattle.answers.specs.Answer.{Answer}
use Rattle.cursor.specs.Plain.{at_null, nodes, next_place, prev_place}
use Rattle.cursor.specs.Alone.{LeavesAlone}
use Rattle.cursor.specs.Does.{Plain}
use Rattle.insert.specs.Plain.{plain_insert_after, plain_insert_before}
use Rattle.remove.specs.Plain.{plain_remove}
use Rattle.ends.specs.declared.ListEdited.{ListEdited}

-- What a plain edit of a list gives: the answer, the sequence, and which nodes are linked.
pub record PlainList : Type 0 where
  pub answer : Answer
  pub nodes : List ℕ
  pub linked : ℕ → Bool

-- A plain edit at a place, with the place left out.
abbrev pub as_list : Plain → PlainList
as_list d = record { answer = d.answer; nodes = nodes d.place; linked = d.linked }

-- Push is an insert at null.
abbrev pub plain_push_front : ℕ → (ℕ → Bool) → ℕ → List ℕ → PlainList
plain_push_front n linked i xs = as_list (plain_insert_after n linked i (at_null xs))

abbrev pub plain_push_back : ℕ → (ℕ → Bool) → ℕ → List ℕ → PlainList
plain_push_back n linked i xs = as_list (plain_insert_before n linked i (at_null xs))

-- Pop is a remove at the first node, or at the last; of an empty list it is one at null.
abbrev pub plain_pop_front : (ℕ → Bool) → List ℕ → PlainList
plain_pop_front linked xs = as_list (plain_remove linked (next_place (at_null xs)))

abbrev pub plain_pop_back : (ℕ → Bool) → List ℕ → PlainList
plain_pop_back linked xs = as_list (plain_remove linked (prev_place (at_null xs)))

-- What is promised of a call on a list with a listing, against its plain edit, as for a call at a cursor.
pub record DoesList (ws : List ℕ) (xs : List ℕ) (o : Outcome ListEdited) (d : PlainList) : Type 0 where
  pub answer : o.result.answer ≡ d.answer
  pub listing : Listing bit_xor o.words o.result.ends.head.0 o.result.ends.tail.0 d.nodes
  pub marks : (j : ℕ) → is_linked (get_or o.words j 0) ≡ d.linked j
  pub alone : LeavesAlone ws o.words xs d.nodes
