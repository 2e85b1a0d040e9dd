-- How few words a call changes (demand 3), for any words, ends, cursor and node, sound or not.
use Rattle.std.specs.Prelude.{ℕ, List, [], ◌∷◌, map}
use Rattle.words.specs.declared.names.Node.{Node}
use Rattle.words.specs.Names.{name, unlinked_marker}
use Rattle.words.specs.Changes.{Changes, AtMost}
use Rattle.links.specs.XorOps.{link_between, splice_between}
use Rattle.ends.specs.declared.Ends.{Ends}
use Rattle.cursor.specs.declared.Cursor.{Cursor}
use Rattle.insert.specs.Inserts.{insert_after, insert_before}
use Rattle.remove.specs.Removes.{remove, replace}
use Rattle.splice.specs.Splices.{splice_after, splice_before}
use Rattle.split.specs.Splits.{split_after, split_before}
use Rattle.list.specs.Lists.{push_front, push_back, pop_front, pop_back}
use Rattle.walk.specs.Marks.{paint}

pub record Bounds : Type 0 where
  -- at a cursor
  pub insert-after : (ws : List ℕ) (e : Ends) (c : Cursor) (i : Node) → AtMost 4 ws (insert_after ws e c i).words
  pub insert-before : (ws : List ℕ) (e : Ends) (c : Cursor) (i : Node) → AtMost 4 ws (insert_before ws e c i).words
  pub remove : (ws : List ℕ) (e : Ends) (c : Cursor) → AtMost 4 ws (remove ws e c).words
  pub replace : (ws : List ℕ) (e : Ends) (c : Cursor) (i : Node) → AtMost 4 ws (replace ws e c i).words
  -- with another list
  pub splice-after : (ws : List ℕ) (e : Ends) (c : Cursor) (o : Ends) → AtMost 4 ws (splice_after ws e c o).words
  pub splice-before : (ws : List ℕ) (e : Ends) (c : Cursor) (o : Ends) → AtMost 4 ws (splice_before ws e c o).words
  pub split-after : (ws : List ℕ) (e : Ends) (c : Cursor) (o : Ends) → AtMost 4 ws (split_after ws e c o).words
  pub split-before : (ws : List ℕ) (e : Ends) (c : Cursor) (o : Ends) → AtMost 4 ws (split_before ws e c o).words
  -- at the ends
  pub push-front : (ws : List ℕ) (e : Ends) (i : Node) → AtMost 4 ws (push_front ws e i).words
  pub push-back : (ws : List ℕ) (e : Ends) (i : Node) → AtMost 4 ws (push_back ws e i).words
  pub pop-front : (ws : List ℕ) (e : Ends) → AtMost 4 ws (pop_front ws e).words
  pub pop-back : (ws : List ℕ) (e : Ends) → AtMost 4 ws (pop_back ws e).words
  -- the two that the edits are made of change the words of the nodes that they are given
  pub link-between : (ws : List ℕ) (w p q : ℕ) → Changes (p ∷ q ∷ w ∷ []) ws (link_between ws w p q)
  pub splice-between : (ws : List ℕ) (s t p q : ℕ) → Changes (p ∷ q ∷ s ∷ t ∷ []) ws (splice_between ws s t p q)
  -- a clear, those of its own nodes
  pub clear : (ws xs : List ℕ) → Changes (map name xs) ws (paint ws unlinked_marker xs)
