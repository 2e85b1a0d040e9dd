-- No remove or replace changes more than four words, for any words, ends, cursor and node. Assumes nothing.
use mathlib.Core.List.{List, [], ◌∷◌}
use Prim.Native.Nat.{ℕ}
use lib.Dec.{lit≤}
use Rattle.words.specs.declared.names.Node.{Node}
use Rattle.words.specs.Names.{naming}
use Rattle.words.specs.Changes.{AtMostFour}
use Rattle.links.proofs.Laws.Cuts.{taken_out, taken-changes, exchanged, exchanged-changes}
use Rattle.ends.specs.declared.Ends.{Ends}
use Rattle.cursor.specs.declared.Cursor.{Cursor}
use Rattle.cursor.specs.Cursor.{stand_test, node_test, some_test, acquire_node}
use Rattle.remove.specs.Removes.{removed, remove, replaced, replace}
use Rattle.cursor.proofs.Laws.Few.{acquire-steps, few-refused}

pub removed-few : (ws : List ℕ) (e : Ends) (c : Cursor) → AtMostFour ws (removed ws e c).words
unfolding removed taken_out
removed-few ws e c =
    record { names = c.current.0 ∷ c.prev.0 ∷ c.next.0 ∷ []; few = lit≤ tt; changes = taken-changes ws c.current.0 c.prev.0 c.next.0 }

pub remove-few : (ws : List ℕ) (e : Ends) (c : Cursor) → AtMostFour ws (remove ws e c).words
unfolding remove
remove-few ws e c = few-refused (some_test (stand_test ws e c) c) ws _ _ (removed-few ws e c)

pub replace-few : (ws : List ℕ) (e : Ends) (c : Cursor) (i : Node) → AtMostFour ws (replace ws e c i).words
unfolding replace replaced exchanged
replace-few ws e c i =
    let t = some_test (node_test ws e c i) c in
    let l = (acquire_node ws t (naming i)).words in
    acquire-steps ws e c t (naming i) (replaced l e c (naming i)) c.prev.0 c.next.0 c.current.0
    (exchanged-changes l (naming i).0 c.current.0 c.prev.0 c.next.0)
