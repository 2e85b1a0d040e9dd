-- No splice changes more than four words, for any words, ends and cursor. Assumes nothing.
use mathlib.Core.List.{List, [], ◌∷◌}
use Prim.Native.Nat.{ℕ}
use lib.Dec.{lit≤}
use Rattle.words.specs.Changes.{AtMostFour}
use Rattle.words.proofs.Laws.Pool.{few-unless}
use Rattle.links.proofs.Laws.Between.{splice-changes}
use Rattle.ends.specs.declared.Ends.{Ends}
use Rattle.ends.specs.Ends.{is_empty}
use Rattle.cursor.specs.declared.Cursor.{Cursor}
use Rattle.cursor.specs.Cursor.{pair_test}
use Rattle.cursor.proofs.Laws.Few.{few-refused}
use Rattle.splice.specs.Splices.{spliced_after, spliced_before, splice_after, splice_before}

pub splice-after-few : (ws : List ℕ) (e : Ends) (c : Cursor) (o : Ends) → AtMostFour ws (splice_after ws e c o).words
unfolding splice_after spliced_after
splice-after-few ws e c o =
    few-refused (pair_test ws e c o) ws _ _
    (few-unless (is_empty o) ws _ _
    (record {
      names = c.current.0 ∷ c.next.0 ∷ o.head.0 ∷ o.tail.0 ∷ [];
      few = lit≤ tt;
      changes = splice-changes ws o.head.0 o.tail.0 c.current.0 c.next.0;
    }))

pub splice-before-few : (ws : List ℕ) (e : Ends) (c : Cursor) (o : Ends) → AtMostFour ws (splice_before ws e c o).words
unfolding splice_before spliced_before
splice-before-few ws e c o =
    few-refused (pair_test ws e c o) ws _ _
    (few-unless (is_empty o) ws _ _
    (record {
      names = c.prev.0 ∷ c.current.0 ∷ o.head.0 ∷ o.tail.0 ∷ [];
      few = lit≤ tt;
      changes = splice-changes ws o.head.0 o.tail.0 c.prev.0 c.current.0;
    }))
