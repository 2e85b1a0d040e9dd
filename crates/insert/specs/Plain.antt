-- The plain edits that inserts stand for (document 01, 'Edits').
use Rattle.std.specs.Prelude.{ℕ, Bool, [], ◌∷◌, ◌++◌, Err}
use Rattle.answers.specs.Answer.{done, if_refused}
use Rattle.cursor.specs.Plain.{Place, at, at_null}
use Rattle.cursor.specs.Does.{Plain, plain, linking, free_test}

-- Beside the node of the place, which stays; at null, at the front, and at the back.
abbrev pub place_after : ℕ → Place → Place
place_after i (at L x R) = at L x (i ∷ R)
place_after i (at_null xs) = at_null (i ∷ xs)

abbrev pub place_before : ℕ → Place → Place
place_before i (at L x R) = at (L ++ i ∷ []) x R
place_before i (at_null xs) = at_null (xs ++ i ∷ [])

unfoldable pub plain_insert_after : ℕ → (ℕ → Bool) → ℕ → Place → Plain
plain_insert_after n linked i z =
    if_refused (free_test n linked i) (λ r. plain (Err r) z linked) (plain done (place_after i z) (linking i linked))

unfoldable pub plain_insert_before : ℕ → (ℕ → Bool) → ℕ → Place → Plain
plain_insert_before n linked i z =
    if_refused (free_test n linked i) (λ r. plain (Err r) z linked) (plain done (place_before i z) (linking i linked))
