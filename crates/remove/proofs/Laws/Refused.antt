-- A refused remove or replace changes nothing, for any words, ends, cursor and node: it hands back what it was given.
-- Assumes nothing.
use mathlib.Core.Path.{◌≡◌, refl}
use mathlib.Core.Bool.{false}
use mathlib.Core.List.{List}
use Prim.Native.Nat.{ℕ}
use Rattle.words.specs.declared.names.Node.{Node}
use Rattle.words.specs.Names.{naming}
use Rattle.ends.specs.declared.Ends.{Ends}
use Rattle.std.specs.Prelude.{is_err}
use Rattle.cursor.specs.declared.Cursor.{Cursor}
use Rattle.cursor.specs.Cursor.{stand_test, node_test, some_test, acquire_node}
use Rattle.remove.specs.Removes.{removed, remove, replaced, replace}
use Rattle.cursor.proofs.Laws.Refused.{Unchanged, unless, acquired}

-- ---- the steps are never refused

pub removed-done : (ws : List ℕ) (e : Ends) (c : Cursor) → is_err (removed ws e c).result.answer ≡ false
unfolding removed
removed-done ws e c = refl

-- ---- the calls

pub remove-unchanged : (ws : List ℕ) (e : Ends) (c : Cursor) → Unchanged ws e c (remove ws e c)
unfolding remove
remove-unchanged ws e c =
    unless (some_test (stand_test ws e c) c) ws ws e c (removed ws e c) (λ r. refl) (removed-done ws e c)

pub replace-unchanged : (ws : List ℕ) (e : Ends) (c : Cursor) (i : Node) → Unchanged ws e c (replace ws e c i)
unfolding replace replaced
replace-unchanged ws e c i =
    let t = some_test (node_test ws e c i) c in
    let l = (acquire_node ws t (naming i)).words in
    acquired ws e c t (naming i) (replaced l e c (naming i)) refl
