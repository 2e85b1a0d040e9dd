-- The plain edits that splices stand for (document 01, 'Edits'), and what is promised of a call on two lists. No word is in them.
-- The crate `split` has the plain edits of splits, which are promised in the same way.
use Rattle.std.specs.Prelude.{ℕ, ◌≡◌, List, [], ◌++◌, get_or}
use Rattle.std.specs.Int.Bits.{bit_xor}
use Rattle.words.specs.Names.{is_linked}
use Rattle.words.specs.Pool.{Outcome}
use Rattle.words.specs.Listing.{Listing}
use Rattle.answers.specs.Answer.{Answer, done}
use Rattle.cursor.specs.declared.EditedTwo.{EditedTwo}
use Rattle.cursor.specs.Plain.{Place, at, at_null, nodes, Sound}
use Rattle.cursor.specs.Alone.{LeavesAlone}

-- What a plain edit of two sequences gives: the answer, the place on the named one, and the other one.
pub record PlainTwo : Type 0 where
  pub answer : Answer
  pub place : Place
  pub other : List ℕ

abbrev pub two : Answer → Place → List ℕ → PlainTwo
two a z ys = record { answer = a; place = z; other = ys }

-- The whole other sequence goes beside the node of the place; at null to the front, to the back. The other becomes empty.
abbrev pub plain_splice_after : List ℕ → Place → PlainTwo
plain_splice_after ys (at L x R) = two done (at L x (ys ++ R)) []
plain_splice_after ys (at_null xs) = two done (at_null (ys ++ xs)) []

abbrev pub plain_splice_before : List ℕ → Place → PlainTwo
plain_splice_before ys (at L x R) = two done (at (L ++ ys) x R) []
plain_splice_before ys (at_null xs) = two done (at_null (xs ++ ys)) []

-- What is promised of a call on two sound lists that share no node: the same answer; the words and the ends of both new
-- sequences, with a true cursor at its place; every linked mark as it was; and everything else left alone.
pub record DoesTwo (ws : List ℕ) (z : Place) (ys : List ℕ) (o : Outcome EditedTwo) (d : PlainTwo) : Type 0 where
  pub answer : o.result.answer ≡ d.answer
  pub sound : Sound o.words o.result.ends o.result.cursor d.place
  pub other : Listing bit_xor o.words o.result.other.head.0 o.result.other.tail.0 d.other
  pub marks : (j : ℕ) → is_linked (get_or o.words j 0) ≡ is_linked (get_or ws j 0)
  pub alone : LeavesAlone ws o.words (nodes z ++ ys) (nodes d.place ++ d.other)
