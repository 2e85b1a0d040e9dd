-- What a ladder of tests tells of the first test that fails. Assumes nothing.
use mathlib.Core.Path.{◌≡◌, refl, sym, ap, ◌∙◌}
use mathlib.Core.Logic.{inl, inr}
use mathlib.Core.Bool.{Bool, true, false, cond}
use mathlib.Core.List.{List, [], ◌∷◌, ◌++◌}
use Rattle.std.specs.Prelude.{Result, Ok, Err, is_err}
use Rattle.answers.specs.declared.Refusal.{Refusal}
use Rattle.answers.specs.Answer.{Answer, done, Tested, answered, if_refused, need, and_then}
use Rattle.answers.proofs.Laws.Ladder.{not-both}
use Rattle.table.specs.Table.{Test, test, FirstFailing}

-- a rung
pub rung : {A : Type 0} (b : Bool) (r : Refusal) (P : Type 0) (rest : Result A Refusal) (ts : List Test) → (b ≡ true → P) → (P → b ≡ true)
    → (b ≡ true → FirstFailing ts rest) → FirstFailing (test r P ∷ ts) (need b r rest)
rung true r P rest ts f g k = inl (f refl, k refl)
rung false r P rest ts f g k = inr (λ p. not-both (sym (g p)), refl)

-- a rung that is itself the test of the table
pub flag : {A : Type 0} (b : Bool) (r : Refusal) (rest : Result A Refusal) (ts : List Test) → (b ≡ true → FirstFailing ts rest)
    → FirstFailing (test r (b ≡ true) ∷ ts) (need b r rest)
flag b r rest ts k = rung b r (b ≡ true) rest ts (λ p. p) (λ p. p) k

-- one ladder after another
pub after : {A B : Type 0} (ts us : List Test) (a : Result A Refusal) (b : Result B Refusal) → FirstFailing ts a → (is_err a ≡ false → FirstFailing us b)
    → FirstFailing (ts ++ us) (and_then a b)
after [] us (Ok u) b f g = g f
after [] us (Err r) b f g = absurd (not-both f)
after (t ∷ ts) us a b (inl w) g = inl (w.0, after ts us a b w.1 g)
after (t ∷ ts) us a b (inr w) g = inr (w.0, ap (λ x. and_then x b) w.1)

-- an answer that is refused where another is, and by the same refusal
pub same : {A B : Type 0} (ts : List Test) (a : Result A Refusal) (b : Result B Refusal) → ((r : Refusal) → a ≡ Err r → b ≡ Err r)
    → (is_err a ≡ false → is_err b ≡ false) → FirstFailing ts a → FirstFailing ts b
same [] a b h k f = k f
same (t ∷ ts) a b h k (inl w) = inl (w.0, same ts a b h k w.1)
same (t ∷ ts) a b h k (inr w) = inr (w.0, h t.refusal w.1)

-- what a call makes of its tests: refused by them, or else not refused
pub made : {A : Type 0} (f : A → Answer) (ts : List Test) (t : Tested) (x : Refusal → A) (y : A) → ((r : Refusal) → f (x r) ≡ Err r)
    → is_err (f y) ≡ false → FirstFailing ts t → FirstFailing ts (f (if_refused t x y))
made f ts (Ok u) x y p q k = same ts (Ok u) (f y) (λ r z. absurd (not-both (sym (ap is_err z)))) (λ z. q) k
made f ts (Err r) x y p q k = same ts (Err r) (f (x r)) (λ s z. p r ∙ ap answered z) (λ z. absurd (not-both z)) k

-- a call that does no more than its tests
pub told : (ts : List Test) (t : Tested) → FirstFailing ts t → FirstFailing ts (answered t)
told ts t f = made (λ a. a) ts t (λ r. Err r) done (λ r. refl) refl f

pub either : {A : Type 0} (f : A → Answer) (b : Bool) (x y : A) → is_err (f x) ≡ false → is_err (f y) ≡ false
    → is_err (f (cond b x y)) ≡ false
either f true x y p q = p
either f false x y p q = q

-- a test that passes can be left out
pub without : {A : Type 0} (ts us : List Test) (t : Test) (a : Result A Refusal) → t.Passes → FirstFailing (ts ++ t ∷ us) a → FirstFailing (ts ++ us) a
without [] us t a p (inl w) = w.1
without [] us t a p (inr w) = absurd (w.0 p)
without (u ∷ ts) us t a p (inl w) = inl (w.0, without ts us t a p w.1)
without (u ∷ ts) us t a p (inr w) = inr w

-- ---- what it means: done exactly if every test passes

abbrev pub AllPass : List Test → Type 0
AllPass [] = Unit
AllPass (t ∷ ts) = t.Passes × AllPass ts

pub done_all : {A : Type 0} (ts : List Test) (a : Result A Refusal) → FirstFailing ts a → is_err a ≡ false → AllPass ts
done_all [] a f h = tt
done_all (t ∷ ts) a (inl w) h = (w.0, done_all ts a w.1 h)
done_all (t ∷ ts) a (inr w) h = absurd (not-both (sym (ap is_err w.1) ∙ h))

pub all_done : {A : Type 0} (ts : List Test) (a : Result A Refusal) → FirstFailing ts a → AllPass ts → is_err a ≡ false
all_done [] a f h = f
all_done (t ∷ ts) a (inl w) h = all_done ts a w.1 h.1
all_done (t ∷ ts) a (inr w) h = absurd (w.0 h.0)
