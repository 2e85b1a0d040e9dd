-- The tests that the calls make are those of the table, in its order. Assumes nothing.
use mathlib.Core.Path.{◌≡◌, refl, ap}
use mathlib.Core.Bool.{Bool, true, false, not}
use mathlib.Core.List.{List, [], ◌∷◌, ◌++◌}
use Prim.Native.Nat.{ℕ, ◌<◌}
use lib.Dec.{ltb}
use lib.ListN.{length, get_or}
use borrow.Author.Tests.{ltb-true, lt-ltb, not-true}
use Rattle.std.specs.Prelude.{Result, Ok, Err}
use Rattle.words.specs.declared.names.Node.{Node}
use Rattle.words.specs.declared.names.Name.{Name}
use Rattle.words.specs.Names.{is_null, is_linked, pool_fits, naming}
use Rattle.words.specs.LinkOps.{linked_at, acquire_link}
use Rattle.words.proofs.Laws.Pool.{word-name}
use Rattle.answers.specs.declared.Refusal.{Refusal}
use Rattle.answers.specs.declared.Refusal.TheVariants.{Size, EndsDoNotHold, CursorDoesNotStand, NotEmpty, NoSuchNode, AtNull, AlreadyLinked}
use Rattle.answers.specs.Answer.{Tested, passed, need, and_then}
use Rattle.ends.specs.declared.Ends.{Ends}
use Rattle.ends.specs.Ends.{is_empty}
use Rattle.ends.specs.Tests.{ends_hold, ends_test}
use Rattle.cursor.specs.declared.Cursor.{Cursor}
use Rattle.cursor.specs.Cursor.{cursor_stands, stand_test, node_test, some_test, pair_test, split_test, acquire_node}
use Rattle.cursor.proofs.Laws.Common.{naming-in}
use Rattle.cursor.proofs.Laws.Refused.{acquires}
use Rattle.table.specs.Table.{Test, test, FirstFailing, pool, ends, cursor, empty, node, at_node, free}
use Rattle.table.proofs.Laws.Ladder.{rung, flag, after, AllPass, done_all}

pub ends-first : (ws : List ℕ) (e : Ends) → FirstFailing (pool ws ∷ ends ws e ∷ []) (ends_test ws e)
unfolding ends_test
ends-first ws e =
    flag (pool_fits (length ws)) Size (need (ends_hold ws e) EndsDoNotHold passed) (ends ws e ∷ [])
    (λ p. flag (ends_hold ws e) EndsDoNotHold passed [] (λ q. refl))

pub stand-first : (ws : List ℕ) (e : Ends) (c : Cursor) → FirstFailing (pool ws ∷ ends ws e ∷ cursor ws e c ∷ []) (stand_test ws e c)
unfolding stand_test
stand-first ws e c =
    after (pool ws ∷ ends ws e ∷ []) (cursor ws e c ∷ []) (ends_test ws e) (need (cursor_stands ws e c) CursorDoesNotStand passed) (ends-first ws e)
    (λ h. flag (cursor_stands ws e c) CursorDoesNotStand passed [] (λ q. refl))

pub node-rung : {A : Type 0} (ws : List ℕ) (i : Node) (rest : Result A Refusal) (ts : List Test) → (i.0 < length ws → FirstFailing ts rest)
    → FirstFailing (node ws i ∷ ts) (need (ltb i.0 (length ws)) NoSuchNode rest)
node-rung ws i rest ts k =
    rung (ltb i.0 (length ws)) NoSuchNode (i.0 < length ws) rest ts (λ h. ltb-true i.0 (length ws) h) (λ h. lt-ltb i.0 (length ws) h)
    (λ h. k (ltb-true i.0 (length ws) h))

pub node-first : (ws : List ℕ) (e : Ends) (c : Cursor) (i : Node)
    → FirstFailing (pool ws ∷ ends ws e ∷ cursor ws e c ∷ node ws i ∷ []) (node_test ws e c i)
unfolding node_test
node-first ws e c i =
    after (pool ws ∷ ends ws e ∷ cursor ws e c ∷ []) (node ws i ∷ []) (stand_test ws e c) (need (ltb i.0 (length ws)) NoSuchNode passed)
    (stand-first ws e c) (λ h. node-rung ws i passed [] (λ q. refl))

-- not false
pub denied : (b : Bool) (r : Refusal) → FirstFailing (test r (b ≡ false) ∷ []) (need (not b) r passed)
denied b r = rung (not b) r (b ≡ false) passed [] (λ h. not-true b h) (λ h. ap not h) (λ q. refl)

pub some_first : {A : Type 0} (ts : List Test) (t : Result A Refusal) (c : Cursor) → FirstFailing ts t → FirstFailing (ts ++ at_node c ∷ []) (some_test t c)
unfolding some_test
some_first ts t c f =
    after ts (at_node c ∷ []) t (need (not (is_null c.current)) AtNull passed) f (λ h. denied (is_null c.current) AtNull)

pub pair-first : (ws : List ℕ) (e : Ends) (c : Cursor) (o : Ends)
    → FirstFailing (pool ws ∷ ends ws e ∷ ends ws o ∷ cursor ws e c ∷ []) (pair_test ws e c o)
unfolding pair_test
pair-first ws e c o =
    let last = need (cursor_stands ws e c) CursorDoesNotStand passed in
    after (pool ws ∷ ends ws e ∷ []) (ends ws o ∷ cursor ws e c ∷ []) (ends_test ws e) (need (ends_hold ws o) EndsDoNotHold last) (ends-first ws e)
    (λ h. flag (ends_hold ws o) EndsDoNotHold last (cursor ws e c ∷ []) (λ p. flag (cursor_stands ws e c) CursorDoesNotStand passed [] (λ q. refl)))

pub split-first : (ws : List ℕ) (e : Ends) (c : Cursor) (o : Ends)
    → FirstFailing (pool ws ∷ ends ws e ∷ ends ws o ∷ cursor ws e c ∷ empty o ∷ []) (split_test ws e c o)
unfolding split_test
split-first ws e c o =
    after (pool ws ∷ ends ws e ∷ ends ws o ∷ cursor ws e c ∷ []) (empty o ∷ []) (pair_test ws e c o) (need (is_empty o) NotEmpty passed)
    (pair-first ws e c o) (λ h. flag (is_empty o) NotEmpty passed [] (λ q. refl))

-- ---- 9

acquire-ladder : {A : Type 0} (ws : List ℕ) (t : Result A Refusal) (new : Name)
    → (acquire_node ws t new).result ≡ and_then t (need (not (linked_at ws new.0)) AlreadyLinked passed)
unfolding acquire_node acquire_link
acquire-ladder ws (Err r) new = refl
acquire-ladder ws (Ok u) new = go (linked_at ws new.0)
  where
    go : (l : Bool) → (acquires ws new l).result ≡ need (not l) AlreadyLinked passed
    go true = refl
    go false = refl

-- the word of a node of the pool
linked-in : (ws : List ℕ) (i : Node) → pool_fits (length ws) ≡ true → i.0 < length ws → linked_at ws (naming i).0 ≡ is_linked (get_or ws i.0 0)
unfolding linked_at
linked-in ws i f h = rw (naming-in (length ws) i f h, word-name ws i.0)

pub acquire-first : {A : Type 0} (ws : List ℕ) (i : Node) (ts : List Test) (t : Result A Refusal) → FirstFailing ts t
    → (AllPass ts → (pool_fits (length ws) ≡ true) × (i.0 < length ws)) → FirstFailing (ts ++ free ws i ∷ []) (acquire_node ws t (naming i)).result
acquire-first ws i ts t f k =
    rw (acquire-ladder ws t (naming i))
    (after ts (free ws i ∷ []) t (need (not (linked_at ws (naming i).0)) AlreadyLinked passed) f
    (λ h. let p = k (done_all ts t f h) in rw (linked-in ws i p.0 p.1) (denied (is_linked (get_or ws i.0 0)) AlreadyLinked)))
