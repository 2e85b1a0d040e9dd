-- Take, reverse, clear and fast clear as plain edits of sequences (document 01, 'Edits'), which the history has as commands of a desk; and
-- what is seen and read at a place. No word is in them. Below them, how the calls that hand back no cursor, or marks besides, are held to
-- the same promises.
use Rattle.std.specs.Prelude.{ℕ, Bool, List, [], ◌∷◌, reverse, Err, None, Option, Some}
use Rattle.words.specs.declared.names.Node.{Node}
use Rattle.words.specs.Pool.{Outcome, outcome}
use Rattle.answers.specs.declared.Refusal.TheVariants.{NotEmpty, AtNull}
use Rattle.answers.specs.Answer.{Answer, done, Tested, passed}
use Rattle.cursor.specs.declared.EditedTwo.{EditedTwo}
use Rattle.cursor.specs.Cursor.{null_cursor, edited_two}
use Rattle.cursor.specs.Plain.{Place, at, at_null}
use Rattle.cursor.specs.Does.{unlinking}
use Rattle.splice.specs.Plain.{PlainTwo, two}
use Rattle.ends.specs.declared.ListEdited.{ListEdited}
use Rattle.list.specs.declared.Taken.{Taken}
use Rattle.list.specs.Plain.{PlainList}
use Rattle.records.specs.Records.{record_of}
use Rattle.walk.specs.Marks.{Marking}

-- ---- edits of a sequence

abbrev pub on_list : Answer → List ℕ → (ℕ → Bool) → PlainList
on_list a xs linked = record { answer = a; nodes = xs; linked = linked }

-- Reverse: the sequence backward, and every mark as it was.
abbrev pub plain_reverse : (ℕ → Bool) → List ℕ → PlainList
plain_reverse linked xs = on_list done (reverse xs) linked

-- With each of these nodes unlinked besides.
abbrev pub unlinking_all : List ℕ → (ℕ → Bool) → ℕ → Bool
unlinking_all [] linked = linked
unlinking_all (x ∷ xs) linked = unlinking x (unlinking_all xs linked)

-- Clear: nothing is left, and all that stood there is unlinked.
abbrev pub plain_clear : (ℕ → Bool) → List ℕ → PlainList
plain_clear linked xs = on_list done [] (unlinking_all xs linked)

-- Fast clear: nothing is left, and every mark is as it was.
abbrev pub plain_fast_clear : (ℕ → Bool) → List ℕ → PlainList
plain_fast_clear linked xs = on_list done [] linked

-- Take: all of xs moves to the other sequence, 6 unless that is empty.
abbrev pub plain_take : List ℕ → List ℕ → PlainTwo
plain_take [] xs = two done (at_null []) xs
plain_take (y ∷ ys) xs = two (Err NotEmpty) (at_null xs) (y ∷ ys)

-- ---- at a place

-- The node that a cursor shows: none at null.
abbrev pub under : Place → Option Node
under (at L x R) = Some (record { 0 = x })
under (at_null xs) = None

-- Read: the record of the node; 8 at null, and no byte.
abbrev pub plain_read_test : Place → Tested
plain_read_test (at L x R) = passed
plain_read_test (at_null xs) = Err AtNull

abbrev pub plain_read : List ℕ → ℕ → Place → List ℕ
plain_read rs width (at L x R) = record_of rs width x
plain_read rs width (at_null xs) = []

-- ---- calls

-- A take borrows the words and hands back no cursor: it leaves the words, and the cursor of its list is at null.
abbrev pub left_by_take : List ℕ → Taken → Outcome EditedTwo
left_by_take ws r = outcome ws (edited_two r.answer r.ends (null_cursor r.ends) r.other)

-- A clear, with its marks left out.
abbrev pub left_by_clear : Outcome (Marking ListEdited) → Outcome ListEdited
left_by_clear o = outcome o.words o.result.result
