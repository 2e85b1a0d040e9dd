-- A refused insert changes nothing, for any words, ends, cursor and node: it hands back what it was given. Assumes nothing.
use mathlib.Core.Path.{◌≡◌, refl}
use mathlib.Core.Bool.{Bool, true, false, cond}
use mathlib.Core.List.{List}
use Prim.Native.Nat.{ℕ}
use Rattle.words.specs.declared.names.Node.{Node}
use Rattle.words.specs.declared.names.Name.{Name}
use Rattle.words.specs.Names.{is_null, naming}
use Rattle.words.specs.Pool.{Outcome, outcome}
use Rattle.std.specs.Prelude.{is_err}
use Rattle.ends.specs.declared.Ends.{Ends}
use Rattle.answers.specs.Answer.{done}
use Rattle.cursor.specs.declared.Cursor.{Cursor}
use Rattle.cursor.specs.declared.Edited.{Edited}
use Rattle.cursor.specs.Cursor.{edited, node_test, acquire_node}
use Rattle.insert.specs.Inserts.{inserted_after, inserted_before, insert_after, insert_before}
use Rattle.cursor.proofs.Laws.Refused.{Unchanged, acquired}

-- ---- the steps are never refused

either-done : (b : Bool) (x y : Outcome Edited) → is_err x.result.answer ≡ false → is_err y.result.answer ≡ false
    → is_err (cond b x y).result.answer ≡ false
either-done true x y h k = h
either-done false x y h k = k

after-done : (ws : List ℕ) (e : Ends) (c : Cursor) (new : Name) → is_err (inserted_after ws e c new).result.answer ≡ false
unfolding inserted_after
after-done ws e c new = either-done (is_null c.current) (outcome _ (edited done _ _)) (outcome _ (edited done _ _)) refl refl

before-done : (ws : List ℕ) (e : Ends) (c : Cursor) (new : Name) → is_err (inserted_before ws e c new).result.answer ≡ false
unfolding inserted_before
before-done ws e c new = either-done (is_null c.current) (outcome _ (edited done _ _)) (outcome _ (edited done _ _)) refl refl

-- ---- the calls

pub insert-after-unchanged : (ws : List ℕ) (e : Ends) (c : Cursor) (i : Node) → Unchanged ws e c (insert_after ws e c i)
unfolding insert_after
insert-after-unchanged ws e c i =
    let t = node_test ws e c i in
    let l = (acquire_node ws t (naming i)).words in
    acquired ws e c t (naming i) (inserted_after l e c (naming i)) (after-done l e c (naming i))

pub insert-before-unchanged : (ws : List ℕ) (e : Ends) (c : Cursor) (i : Node) → Unchanged ws e c (insert_before ws e c i)
unfolding insert_before
insert-before-unchanged ws e c i =
    let t = node_test ws e c i in
    let l = (acquire_node ws t (naming i)).words in
    acquired ws e c t (naming i) (inserted_before l e c (naming i)) (before-done l e c (naming i))
