-- No split changes more than two words, for any words, ends and cursor. Assumes nothing.
use mathlib.Core.List.{List, [], ◌∷◌}
use Prim.Native.Nat.{ℕ}
use lib.Dec.{lit≤}
use Rattle.words.specs.Names.{is_null}
use Rattle.words.specs.Changes.{AtMostFour}
use Rattle.words.proofs.Laws.Pool.{changes-then, few-unless}
use Rattle.links.proofs.Laws.Between.{changes-trade, changes-set}
use Rattle.ends.specs.declared.Ends.{Ends}
use Rattle.cursor.specs.declared.Cursor.{Cursor}
use Rattle.cursor.specs.Cursor.{split_test}
use Rattle.cursor.proofs.Laws.Few.{few-refused}
use Rattle.split.specs.Splits.{cut_after, cut_before, split_after, split_before}

pub split-after-few : (ws : List ℕ) (e : Ends) (c : Cursor) (o : Ends) → AtMostFour ws (split_after ws e c o).words
unfolding split_after cut_after
split-after-few ws e c o =
    few-refused (split_test ws e c o) ws _ _
    (few-unless (is_null c.current) ws _ _
    (record {
      names = c.next.0 ∷ c.current.0 ∷ [];
      few = lit≤ tt;
      changes = changes-then (c.next.0 ∷ []) (c.current.0 ∷ []) ws _ _ (changes-trade ws c.next.0 c.current.0 0) (changes-set _ c.current.0 c.prev.0 0);
    }))

pub split-before-few : (ws : List ℕ) (e : Ends) (c : Cursor) (o : Ends) → AtMostFour ws (split_before ws e c o).words
unfolding split_before cut_before
split-before-few ws e c o =
    few-refused (split_test ws e c o) ws _ _
    (few-unless (is_null c.current) ws _ _
    (record {
      names = c.prev.0 ∷ c.current.0 ∷ [];
      few = lit≤ tt;
      changes = changes-then (c.prev.0 ∷ []) (c.current.0 ∷ []) ws _ _ (changes-trade ws c.prev.0 c.current.0 0) (changes-set _ c.current.0 0 c.next.0);
    }))
