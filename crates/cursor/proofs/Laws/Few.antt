-- An edit that acquires a node changes no more than four words, if its steps do not. Assumes nothing.
use mathlib.Core.Path.{refl, ◌∙◌}
use mathlib.Core.Bool.{Bool, true, false}
use mathlib.Core.List.{List, [], ◌∷◌}
use Prim.Native.Nat.{ℕ}
use lib.Dec.{lit≤}
use Rattle.words.specs.declared.names.Name.{Name}
use Rattle.words.specs.Pool.{Outcome, outcome}
use Rattle.words.specs.LinkOps.{linked_at, acquire_link}
use Rattle.words.specs.Changes.{Changes, AtMostFour}
use Rattle.words.proofs.Laws.Pool.{changes-put, few-none}
use Rattle.std.specs.Prelude.{Ok, Err, Result}
use Rattle.ends.specs.declared.Ends.{Ends}
use Rattle.answers.specs.declared.Refusal.{Refusal}
use Rattle.answers.specs.Answer.{Tested, if_refused}
use Rattle.cursor.specs.declared.Cursor.{Cursor}
use Rattle.cursor.specs.declared.Edited.{Edited}
use Rattle.cursor.specs.Cursor.{acquire_node}
use Rattle.cursor.specs.Edits.{unless_refused}
use Rattle.cursor.proofs.Laws.Refused.{acquires}

-- a node is acquired at one word
acquired : {A : Type 0} (ws : List ℕ) (t : Result A Refusal) (new : Name) → Changes (new.0 ∷ []) ws (acquire_node ws t new).words
unfolding acquire_node acquire_link
acquired ws (Err r) new = record { long = refl; same = λ i o. refl }
acquired ws (Ok u) new = go (linked_at ws new.0)
  where
    go : (l : Bool) → Changes (new.0 ∷ []) ws (acquires ws new l).words
    go true = record { long = refl; same = λ i o. refl }
    go false = changes-put ws new.0 0

-- steps after that, at p, q, the same word, and u
pub acquire-steps : {A : Type 0} (ws : List ℕ) (e : Ends) (c : Cursor) (t : Result A Refusal) (new : Name) (o : Outcome Edited) (p q u : ℕ)
    → Changes (p ∷ q ∷ new.0 ∷ u ∷ []) (acquire_node ws t new).words o.words
    → AtMostFour ws (unless_refused (acquire_node ws t new).result (acquire_node ws t new).words e c o).words
acquire-steps ws e c t new o p q u k = go (acquire_node ws t new).result
  where
    h : Changes (new.0 ∷ []) ws (acquire_node ws t new).words
    h = acquired ws t new

    go : (a : Tested) → AtMostFour ws (unless_refused a (acquire_node ws t new).words e c o).words
    go (Err r) = record { names = new.0 ∷ []; few = lit≤ tt; changes = h }
    go (Ok v) =
        record {
          names = p ∷ q ∷ new.0 ∷ u ∷ [];
          few = lit≤ tt;
          changes = record { long = k.long ∙ h.long; same = λ i f. k.same i f ∙ h.same i (f.1.1.0, tt) };
        }

-- what the tests refuse changes no word
pub few-refused : {A : Type 0} (t : Tested) (ws : List ℕ) (left : Refusal → A) (o : Outcome A) → AtMostFour ws o.words
    → AtMostFour ws (if_refused t (λ r. outcome ws (left r)) o).words
few-refused (Err r) ws left o k = few-none ws
few-refused (Ok u) ws left o k = k
