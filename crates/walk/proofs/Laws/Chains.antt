-- Chains of the paper, by computation. Assumes nothing.
use mathlib.Core.Path.{◌≡◌, refl}
use mathlib.Core.Bool.{false}
use mathlib.Core.List.{[], ◌∷◌}
use Rattle.words.specs.Names.{is_name, pool_fits, pool_limit}
use Rattle.words.specs.Pool.{word_at}
use Rattle.answers.specs.declared.Refusal.TheVariants.{NoListing}
use Rattle.std.specs.Prelude.{Err}
use Rattle.answers.specs.Answer.{done}
use Rattle.ends.specs.Ends.{ends_of}
use Rattle.ends.specs.Tests.{link_with, ends_hold}
use Rattle.walk.specs.Marks.{is_marked, paint, sizes_fit, marking}
use Rattle.walk.specs.Walk.{is_free, walk_from, at_tail, walk_of}
use Rattle.walk.specs.Calls.{verdict, walk_all}

-- seven words: it stands on 0, 4, 1, 3 and comes to 4 again
pub seven : walk_all (10 ∷ 2 ∷ 1 ∷ 14 ∷ 6 ∷ 1 ∷ 10 ∷ []) (9 ∷ 9 ∷ 9 ∷ 9 ∷ 9 ∷ 9 ∷ 9 ∷ []) (ends_of (record { 0 = 2 }) (record { 0 = 14 }))
    ≡ marking (0 ∷ 0 ∷ 0 ∷ 0 ∷ 0 ∷ 0 ∷ 0 ∷ []) (record { answer = Err NoListing; count = 4 })
unfolding walk_all verdict walk_of walk_from is_free at_tail is_marked paint sizes_fit pool_fits pool_limit ends_hold link_with word_at is_name
seven = refl

pub seven-stood : walk_of (10 ∷ 2 ∷ 1 ∷ 14 ∷ 6 ∷ 1 ∷ 10 ∷ []) (0 ∷ 0 ∷ 0 ∷ 0 ∷ 0 ∷ 0 ∷ 0 ∷ []) (ends_of (record { 0 = 2 }) (record { 0 = 14 }))
    ≡ record { ok = false; met = 3 ∷ 1 ∷ 4 ∷ 0 ∷ [] }
unfolding walk_of walk_from is_free at_tail is_marked is_name
seven-stood = refl

-- the listing 0, 1, 2, and its fourth node without a mark
pub three : walk_all (4 ∷ 4 ∷ 4 ∷ 1 ∷ []) (9 ∷ 9 ∷ 9 ∷ 9 ∷ []) (ends_of (record { 0 = 2 }) (record { 0 = 6 }))
    ≡ marking (1 ∷ 1 ∷ 1 ∷ 0 ∷ []) (record { answer = done; count = 3 })
unfolding walk_all verdict walk_of walk_from is_free at_tail is_marked paint sizes_fit pool_fits pool_limit ends_hold link_with word_at is_name
three = refl
