-- The plain edits that splits stand for (document 01, 'Edits'). No word is in them.
use Rattle.std.specs.Prelude.{ℕ, List, [], ◌∷◌, Err}
use Rattle.answers.specs.declared.Refusal.TheVariants.{NotEmpty}
use Rattle.answers.specs.Answer.{done}
use Rattle.cursor.specs.Plain.{Place, at, at_null}
use Rattle.splice.specs.Plain.{PlainTwo, two}

-- What is beyond, or ahead of, the node of the place moves out, and the node stays; at null everything moves out. 6 if the
-- other sequence is not empty, even if nothing would move.
abbrev pub plain_split_after : List ℕ → Place → PlainTwo
plain_split_after [] (at L x R) = two done (at L x []) R
plain_split_after [] (at_null xs) = two done (at_null []) xs
plain_split_after (y ∷ ys) (at L x R) = two (Err NotEmpty) (at L x R) (y ∷ ys)
plain_split_after (y ∷ ys) (at_null xs) = two (Err NotEmpty) (at_null xs) (y ∷ ys)

abbrev pub plain_split_before : List ℕ → Place → PlainTwo
plain_split_before [] (at L x R) = two done (at [] x R) L
plain_split_before [] (at_null xs) = two done (at_null []) xs
plain_split_before (y ∷ ys) (at L x R) = two (Err NotEmpty) (at L x R) (y ∷ ys)
plain_split_before (y ∷ ys) (at_null xs) = two (Err NotEmpty) (at_null xs) (y ∷ ys)
