-- A refused splice changes nothing, for any words, ends and cursor: it hands back what it was given. Assumes nothing.
use mathlib.Core.Path.{◌≡◌, refl, sym, ◌∙◌}
use mathlib.Core.Bool.{Bool, true, false, cond}
use mathlib.Core.List.{List}
use Prim.Native.Nat.{ℕ}
use Rattle.words.specs.Names.{is_null}
use Rattle.words.specs.Pool.{Outcome, outcome}
use Rattle.std.specs.Prelude.{Ok, Err, is_err}
use Rattle.ends.specs.declared.Ends.{Ends}
use Rattle.answers.specs.Answer.{Tested, done, if_refused}
use Rattle.ends.specs.Ends.{is_empty}
use Rattle.answers.proofs.Laws.Ladder.{not-both}
use Rattle.cursor.specs.declared.Cursor.{Cursor}
use Rattle.cursor.specs.declared.EditedTwo.{EditedTwo}
use Rattle.cursor.specs.Cursor.{edited_two, pair_test}
use Rattle.splice.specs.Splices.{spliced_after, spliced_before, splice_after, splice_before}

-- refused, it is all as it was
abbrev pub UnchangedTwo : List ℕ → Ends → Cursor → Ends → Outcome EditedTwo → Type 0
UnchangedTwo ws e c o r = is_err r.result.answer ≡ true → r ≡ outcome ws (edited_two r.result.answer e c o)

-- tests, and an edit that is made
pub unless : (t : Tested) (ws : List ℕ) (e : Ends) (c : Cursor) (o : Ends) (r : Outcome EditedTwo) → is_err r.result.answer ≡ false
    → UnchangedTwo ws e c o (if_refused t (λ x. outcome ws (edited_two (Err x) e c o)) r)
unless (Err x) ws e c o r k h = refl
unless (Ok u) ws e c o r k h = absurd (not-both (sym h ∙ k))

-- ---- the steps are never refused

either-done : (b : Bool) (x y : EditedTwo) → is_err x.answer ≡ false → is_err y.answer ≡ false → is_err (cond b x y).answer ≡ false
either-done true x y h k = h
either-done false x y h k = k

-- nor is a call that leaves an empty other list alone
empty-done : (b : Bool) (ws : List ℕ) (e : Ends) (c : Cursor) (o : Ends) (r : Outcome EditedTwo) → is_err r.result.answer ≡ false
    → is_err (cond b (outcome ws (edited_two done e c o)) r).result.answer ≡ false
empty-done true ws e c o r k = refl
empty-done false ws e c o r k = k

after-done : (ws : List ℕ) (e : Ends) (c : Cursor) (o : Ends) → is_err (spliced_after ws e c o).result.answer ≡ false
unfolding spliced_after
after-done ws e c o = either-done (is_null c.current) (edited_two done _ _ _) (edited_two done _ _ _) refl refl

before-done : (ws : List ℕ) (e : Ends) (c : Cursor) (o : Ends) → is_err (spliced_before ws e c o).result.answer ≡ false
unfolding spliced_before
before-done ws e c o = either-done (is_null c.current) (edited_two done _ _ _) (edited_two done _ _ _) refl refl

-- ---- the calls

pub splice-after-unchanged : (ws : List ℕ) (e : Ends) (c : Cursor) (o : Ends) → UnchangedTwo ws e c o (splice_after ws e c o)
unfolding splice_after
splice-after-unchanged ws e c o =
    unless (pair_test ws e c o) ws e c o (cond (is_empty o) (outcome ws (edited_two done e c o)) (spliced_after ws e c o))
    (empty-done (is_empty o) ws e c o (spliced_after ws e c o) (after-done ws e c o))

pub splice-before-unchanged : (ws : List ℕ) (e : Ends) (c : Cursor) (o : Ends) → UnchangedTwo ws e c o (splice_before ws e c o)
unfolding splice_before
splice-before-unchanged ws e c o =
    unless (pair_test ws e c o) ws e c o (cond (is_empty o) (outcome ws (edited_two done e c o)) (spliced_before ws e c o))
    (empty-done (is_empty o) ws e c o (spliced_before ws e c o) (before-done ws e c o))
