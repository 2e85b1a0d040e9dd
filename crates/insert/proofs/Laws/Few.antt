-- No insert changes more than four words, for any words, ends, cursor and node. Assumes nothing.
use mathlib.Core.Bool.{Bool, true, false, cond}
use mathlib.Core.List.{List, [], ◌∷◌}
use Prim.Native.Nat.{ℕ}
use Rattle.words.specs.declared.names.Node.{Node}
use Rattle.words.specs.Names.{is_null, naming}
use Rattle.words.specs.Pool.{outcome}
use Rattle.links.specs.XorOps.{link_between}
use Rattle.words.specs.Changes.{Changes, AtMostFour}
use Rattle.links.proofs.Laws.Between.{link-changes}
use Rattle.ends.specs.declared.Ends.{Ends}
use Rattle.cursor.specs.declared.Cursor.{Cursor}
use Rattle.cursor.specs.declared.Edited.{Edited}
use Rattle.cursor.specs.Cursor.{node_test, acquire_node}
use Rattle.insert.specs.Inserts.{inserted_after, inserted_before, insert_after, insert_before}
use Rattle.cursor.proofs.Laws.Few.{acquire-steps}

-- three names are four with one of them again
again : (p q w : ℕ) (a b : List ℕ) → Changes (p ∷ q ∷ w ∷ []) a b → Changes (p ∷ q ∷ w ∷ w ∷ []) a b
again p q w a b k = record { long = k.long; same = λ i o. k.same i (o.0, (o.1.0, (o.1.1.0, tt))) }

-- the same at either of two pairs of neighbours
at-either : (b : Bool) (l : List ℕ) (w p q p' q' : ℕ) (r r' : Edited)
    → Changes (cond b p p' ∷ cond b q q' ∷ w ∷ []) l (cond b (outcome (link_between l w p q) r) (outcome (link_between l w p' q') r')).words
at-either true l w p q p' q' r r' = link-changes l w p q
at-either false l w p q p' q' r r' = link-changes l w p' q'

pub insert-after-few : (ws : List ℕ) (e : Ends) (c : Cursor) (i : Node) → AtMostFour ws (insert_after ws e c i).words
unfolding insert_after inserted_after
insert-after-few ws e c i =
    let m = (naming i).0 in
    let b = is_null c.current in
    let l = (acquire_node ws (node_test ws e c i) (naming i)).words in
    acquire-steps ws e c (node_test ws e c i) (naming i) (inserted_after l e c (naming i)) (cond b 0 c.current.0) (cond b e.head.0 c.next.0) m
    (again _ _ m l _ (at-either b l m 0 e.head.0 c.current.0 c.next.0 _ _))

pub insert-before-few : (ws : List ℕ) (e : Ends) (c : Cursor) (i : Node) → AtMostFour ws (insert_before ws e c i).words
unfolding insert_before inserted_before
insert-before-few ws e c i =
    let m = (naming i).0 in
    let b = is_null c.current in
    let l = (acquire_node ws (node_test ws e c i) (naming i)).words in
    acquire-steps ws e c (node_test ws e c i) (naming i) (inserted_before l e c (naming i)) (cond b e.tail.0 c.prev.0) (cond b 0 c.current.0) m
    (again _ _ m l _ (at-either b l m e.tail.0 0 c.prev.0 c.current.0 _ _))
