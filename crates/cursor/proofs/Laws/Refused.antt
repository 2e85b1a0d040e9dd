-- What a refused edit has to leave as it was, and why the tests and the acquiring of a node do so. Assumes nothing.
use mathlib.Core.Path.{◌≡◌, refl, sym, ap, ◌∙◌}
use mathlib.Core.Bool.{Bool, true, false, cond}
use mathlib.Core.List.{List}
use Prim.Native.Nat.{ℕ}
use Rattle.words.specs.declared.names.Name.{Name}
use Rattle.words.specs.Pool.{put_at, Outcome, outcome}
use Rattle.words.specs.LinkOps.{linked_at, acquire_link}
use Rattle.answers.specs.declared.Refusal.{Refusal}
use Rattle.answers.specs.declared.Refusal.TheVariants.{AlreadyLinked}
use Rattle.std.specs.Prelude.{Ok, Err, is_err, Result}
use Rattle.ends.specs.declared.Ends.{Ends}
use Rattle.answers.specs.Answer.{Tested, passed, need}
use Rattle.answers.proofs.Laws.Ladder.{not-both}
use Rattle.cursor.specs.declared.Cursor.{Cursor}
use Rattle.cursor.specs.declared.Edited.{Edited}
use Rattle.cursor.specs.Cursor.{edited, acquire_node}
use Rattle.cursor.specs.Edits.{unless_refused}

-- refused, it is all as it was
abbrev pub Unchanged : List ℕ → Ends → Cursor → Outcome Edited → Type 0
Unchanged ws e c o = is_err o.result.answer ≡ true → o ≡ outcome ws (edited o.result.answer e c)

-- tests that change no word where they refuse, and an edit that is made
pub unless : (t : Tested) (w ws : List ℕ) (e : Ends) (c : Cursor) (o : Outcome Edited) → (is_err t ≡ true → w ≡ ws)
    → is_err o.result.answer ≡ false → Unchanged ws e c (unless_refused t w e c o)
unless (Err x) w ws e c o k d r = ap (λ (v : List ℕ). outcome v (edited (Err x) e c)) (k refl)
unless (Ok u) w ws e c o k d r = absurd (not-both (sym r ∙ d))

-- how a node is acquired, by whether it is linked
abbrev pub acquires : List ℕ → Name → Bool → Outcome Tested
acquires ws new linked =
    let a = cond linked (outcome ws false) (outcome (put_at ws new.0 0) true) in
    outcome a.words (need a.result AlreadyLinked passed)

-- a node that is not acquired is left alone
not-acquired : {A : Type 0} (ws : List ℕ) (t : Result A Refusal) (new : Name) → is_err (acquire_node ws t new).result ≡ true → (acquire_node ws t new).words ≡ ws
unfolding acquire_node acquire_link
not-acquired ws (Err x) new r = refl
not-acquired ws (Ok u) new r = go (linked_at ws new.0) r
  where
    go : (l : Bool) → is_err (acquires ws new l).result ≡ true → (acquires ws new l).words ≡ ws
    go true r = refl
    go false r = absurd (not-both (sym r))

pub acquired : {A : Type 0} (ws : List ℕ) (e : Ends) (c : Cursor) (t : Result A Refusal) (new : Name) (o : Outcome Edited) → is_err o.result.answer ≡ false
    → Unchanged ws e c (unless_refused (acquire_node ws t new).result (acquire_node ws t new).words e c o)
acquired ws e c t new o d = unless (acquire_node ws t new).result (acquire_node ws t new).words ws e c o (not-acquired ws t new) d
