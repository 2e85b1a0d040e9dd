-- A refused split changes nothing, for any words, ends and cursor: it hands back what it was given. Assumes nothing.
use mathlib.Core.Path.{◌≡◌, refl}
use mathlib.Core.Bool.{Bool, true, false, cond}
use mathlib.Core.List.{List}
use Prim.Native.Nat.{ℕ}
use Rattle.words.specs.Names.{is_null}
use Rattle.words.specs.Pool.{Outcome, outcome}
use Rattle.ends.specs.declared.Ends.{Ends}
use Rattle.std.specs.Prelude.{is_err}
use Rattle.cursor.specs.declared.Cursor.{Cursor}
use Rattle.cursor.specs.declared.EditedTwo.{EditedTwo}
use Rattle.cursor.specs.Cursor.{split_test}
use Rattle.split.specs.Splits.{cut_after, cut_before, cut_at_null, split_after, split_before}
use Rattle.splice.proofs.Laws.Refused.{UnchangedTwo, unless}

-- the steps are never refused
cut-done : (b : Bool) (ws : List ℕ) (x : EditedTwo) (r : Outcome EditedTwo) → is_err x.answer ≡ false → is_err r.result.answer ≡ false
    → is_err (cond b (outcome ws x) r).result.answer ≡ false
cut-done true ws x r h k = h
cut-done false ws x r h k = k

pub split-after-unchanged : (ws : List ℕ) (e : Ends) (c : Cursor) (o : Ends) → UnchangedTwo ws e c o (split_after ws e c o)
unfolding split_after cut_after cut_at_null
split-after-unchanged ws e c o =
    unless (split_test ws e c o) ws e c o (cond (is_null c.current) (outcome ws (cut_at_null e)) (cut_after ws e c))
    (cut-done (is_null c.current) ws (cut_at_null e) (cut_after ws e c) refl refl)

pub split-before-unchanged : (ws : List ℕ) (e : Ends) (c : Cursor) (o : Ends) → UnchangedTwo ws e c o (split_before ws e c o)
unfolding split_before cut_before cut_at_null
split-before-unchanged ws e c o =
    unless (split_test ws e c o) ws e c o (cond (is_null c.current) (outcome ws (cut_at_null e)) (cut_before ws e c))
    (cut-done (is_null c.current) ws (cut_at_null e) (cut_before ws e c) refl refl)
