-- No push and no pop changes more than four words, for any words, ends and node. Assumes nothing.
use mathlib.Core.List.{List}
use Prim.Native.Nat.{ℕ}
use Rattle.words.specs.declared.names.Node.{Node}
use Rattle.words.specs.Changes.{AtMostFour}
use Rattle.ends.specs.declared.Ends.{Ends}
use Rattle.std.specs.Prelude.{Err}
use Rattle.cursor.proofs.Laws.Few.{few-refused}
use Rattle.cursor.specs.Cursor.{null_cursor}
use Rattle.moves.specs.Moves.{moved_next, moved_prev}
use Rattle.remove.specs.Removes.{removed}
use Rattle.insert.proofs.Laws.Few.{insert-after-few, insert-before-few}
use Rattle.remove.proofs.Laws.Few.{removed-few}
use Rattle.ends.specs.Ends.{list_edited}
use Rattle.list.specs.Lists.{without_cursor, push_front, push_back, pop_test, pop_front, pop_back}

pub push-front-few : (ws : List ℕ) (e : Ends) (i : Node) → AtMostFour ws (push_front ws e i).words
unfolding push_front
push-front-few ws e i = insert-after-few ws e (null_cursor e) i

pub push-back-few : (ws : List ℕ) (e : Ends) (i : Node) → AtMostFour ws (push_back ws e i).words
unfolding push_back
push-back-few ws e i = insert-before-few ws e (null_cursor e) i

pub pop-front-few : (ws : List ℕ) (e : Ends) → AtMostFour ws (pop_front ws e).words
unfolding pop_front
pop-front-few ws e =
    few-refused (pop_test ws e) ws (λ r. list_edited (Err r) e) (without_cursor (removed ws e (moved_next ws e (null_cursor e))))
    (removed-few ws e (moved_next ws e (null_cursor e)))

pub pop-back-few : (ws : List ℕ) (e : Ends) → AtMostFour ws (pop_back ws e).words
unfolding pop_back
pop-back-few ws e =
    few-refused (pop_test ws e) ws (λ r. list_edited (Err r) e) (without_cursor (removed ws e (moved_prev ws e (null_cursor e))))
    (removed-few ws e (moved_prev ws e (null_cursor e)))
