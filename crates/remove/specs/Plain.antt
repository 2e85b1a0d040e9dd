-- The plain edits that remove and replace stand for (document 01, 'Edits').
use Rattle.std.specs.Prelude.{ℕ, Bool, List, [], ◌∷◌, ltb, Some, Ok, Err}
use Rattle.answers.specs.declared.Refusal.TheVariants.{NoSuchNode, AtNull}
use Rattle.answers.specs.Answer.{need, if_refused}
use Rattle.cursor.specs.Plain.{Place, at, at_null}
use Rattle.cursor.specs.Does.{Plain, plain, linking, unlinking, free_test}

-- To the following node, or null.
abbrev pub place_without : List ℕ → List ℕ → Place
place_without L [] = at_null L
place_without L (y ∷ R) = at L y R

-- The node goes out, unlinked; 8 at null.
abbrev pub plain_remove : (ℕ → Bool) → Place → Plain
plain_remove linked (at L x R) = plain (Ok (Some (record { 0 = x }))) (place_without L R) (unlinking x linked)
plain_remove linked (at_null xs) = plain (Err AtNull) (at_null xs) linked

-- The new node takes the place, the old one goes out, unlinked; 7, then 8 at null, even if the new node is linked, then 9.
abbrev pub plain_replace : ℕ → (ℕ → Bool) → ℕ → Place → Plain
plain_replace n linked i (at L x R) =
    if_refused (free_test n linked i) (λ r. plain (Err r) (at L x R) linked)
    (plain (Ok (Some (record { 0 = x }))) (at L i R) (linking i (unlinking x linked)))
plain_replace n linked i (at_null xs) = plain (need (ltb i n) NoSuchNode (Err AtNull)) (at_null xs) linked
