-- How each call comes out, by the tests that it makes. Assumes nothing.
use mathlib.Core.Path.{◌≡◌, refl, sym, ap, ◌∙◌}
use mathlib.Core.Logic.{◌≢◌}
use mathlib.Core.Bool.{Bool, true, false, ◌&&◌, not}
use mathlib.Core.List.{List, []}
use Prim.Native.Nat.{ℕ}
use lib.Bits.{bit_xor}
use lib.Dec.{eqb}
use lib.ListN.{length, replicate, length-replicate}
use borrow.Author.Tests.{eqb-true, eqb-false, eq-eqb, ne_eqb, not-true}
use Rattle.words.specs.Names.{pool_fits}
use Rattle.words.specs.Pool.{outcome}
use Rattle.words.proofs.Laws.Cases.{both}
use Rattle.answers.specs.declared.Refusal.TheVariants.{Size, EndsDoNotHold, NoListing}
use Rattle.std.specs.Prelude.{None, Ok, Err, is_err}
use Rattle.ends.specs.declared.Ends.{Ends}
use Rattle.ends.specs.Ends.{is_empty, empty_ends}
use Rattle.ends.specs.Tests.{ends_hold}
use Rattle.walk.specs.declared.step.Stood.{Stood}
use Rattle.walk.specs.declared.walk.Walked.{Walked}
use Rattle.walk.specs.Marks.{paint, unmarked, sizes_fit, Marking, marking}
use Rattle.walk.specs.Walk.{walk_from, at_tail, walk_of}
use Rattle.walk.specs.Calls.{stood, can_walk, walk_list, verdict, unbegun, walk_all, clear_all}
use Rattle.walk.specs.Released.{Released}
use Rattle.walk.proofs.Laws.Marks.{false-true, paint-length}
use Rattle.walk.proofs.Laws.Passes.{released-met}

-- ---- the tests

pub record Sizes (ws ms : List ℕ) : Type 0 where
  pub fits : pool_fits (length ws) ≡ true
  pub long : length ms ≡ length ws

pub sizes : (ws ms : List ℕ) → sizes_fit ws ms ≡ true → Sizes ws ms
unfolding sizes_fit
sizes ws ms h =
    let a = both (pool_fits (length ws)) (eqb (length ms) (length ws)) h in
    record { fits = a.0; long = eqb-true (length ms) (length ws) a.1 }

pub sizes-fit : (ws ms : List ℕ) → pool_fits (length ws) ≡ true → length ms ≡ length ws → sizes_fit ws ms ≡ true
unfolding sizes_fit
sizes-fit ws ms f l = rw (f, eq-eqb (length ms) (length ws) l)

pub record Can (ws ms : List ℕ) (e : Ends) (m : ℕ) : Type 0 where
  pub sized : Sizes ws ms
  pub marks : m ≢ 0
  pub held : ends_hold ws e ≡ true

pub can : (ws ms : List ℕ) (e : Ends) (m : ℕ) → can_walk ws ms e m ≡ true → Can ws ms e m
unfolding can_walk
can ws ms e m h =
    let a = both (sizes_fit ws ms && not (eqb m 0)) (ends_hold ws e) h in
    let b = both (sizes_fit ws ms) (not (eqb m 0)) a.0 in
    record { sized = sizes ws ms b.0; marks = eqb-false m 0 (not-true (eqb m 0) b.1); held = a.1 }

pub can-walk : (ws ms : List ℕ) (e : Ends) (m : ℕ) → sizes_fit ws ms ≡ true → m ≢ 0 → ends_hold ws e ≡ true → can_walk ws ms e m ≡ true
unfolding can_walk
can-walk ws ms e m s n h = rw (s, ne_eqb m 0 n, h)

-- ---- the step of one list

pub of-empty : (ws ms : List ℕ) (e : Ends) → is_empty e ≡ true → walk_of ws ms e ≡ record { ok = true; met = [] }
unfolding walk_of
of-empty ws ms e h = rw h

pub of-head : (ws ms : List ℕ) (e : Ends) → is_empty e ≡ false
    → walk_of ws ms e ≡ walk_from bit_xor (at_tail e.tail.0) (length ws) ws ms [] 0 e.head.0
unfolding walk_of
of-head ws ms e h = rw h

pub list-refused : (ws ms : List ℕ) (e : Ends) (m : ℕ) → can_walk ws ms e m ≡ false → walk_list ws ms e m ≡ marking ms (record { ok = false; count = 0 })
unfolding walk_list
list-refused ws ms e m h = rw h

pub list-walks : (ws ms : List ℕ) (e : Ends) (m : ℕ) → can_walk ws ms e m ≡ true → walk_list ws ms e m ≡ stood ms m (walk_of ws ms e)
unfolding walk_list
list-walks ws ms e m h = rw h

pub list-empty : (ws ms : List ℕ) (e : Ends) (m : ℕ) → can_walk ws ms e m ≡ true → is_empty e ≡ true
    → marking ms (record { ok = true; count = 0 }) ≡ walk_list ws ms e m
unfolding stood paint
list-empty ws ms e m c h = sym (list-walks ws ms e m c ∙ ap (stood ms m) (of-empty ws ms e h))

pub list-from : (ws ms : List ℕ) (e : Ends) (m : ℕ) → can_walk ws ms e m ≡ true → is_empty e ≡ false
    → stood ms m (walk_from bit_xor (at_tail e.tail.0) (length ws) ws ms [] 0 e.head.0) ≡ walk_list ws ms e m
list-from ws ms e m c h = sym (list-walks ws ms e m c ∙ ap (stood ms m) (of-head ws ms e h))

-- ---- the walk

module _ (ws ms : List ℕ) (e : Ends) where
  -- the four ways that it comes out
  pub data View : Type 0 where
    size : sizes_fit ws ms ≡ false → walk_all ws ms e ≡ unbegun ms Size → View
    ends : sizes_fit ws ms ≡ true → ends_hold ws e ≡ false → walk_all ws ms e ≡ unbegun ms EndsDoNotHold → View
    fault : sizes_fit ws ms ≡ true → ends_hold ws e ≡ true → (walk_of ws (unmarked ms) e).ok ≡ false
        → walk_all ws ms e ≡ marking (unmarked ms) (record { answer = Err NoListing; count = length (walk_of ws (unmarked ms) e).met }) → View
    done : sizes_fit ws ms ≡ true → ends_hold ws e ≡ true → (walk_of ws (unmarked ms) e).ok ≡ true
        → walk_all ws ms e ≡ marking (paint (unmarked ms) 1 (walk_of ws (unmarked ms) e).met) (record { answer = Ok None; count = length (walk_of ws (unmarked ms) e).met }) → View

  pub walk-size : sizes_fit ws ms ≡ false → walk_all ws ms e ≡ unbegun ms Size
  unfolding walk_all
  walk-size s = rw s

  pub walk_ends : sizes_fit ws ms ≡ true → ends_hold ws e ≡ false → walk_all ws ms e ≡ unbegun ms EndsDoNotHold
  unfolding walk_all
  walk_ends s h = rw (s, h)

  pub walk-fault : sizes_fit ws ms ≡ true → ends_hold ws e ≡ true → (walk_of ws (unmarked ms) e).ok ≡ false
      → walk_all ws ms e ≡ marking (unmarked ms) (record { answer = Err NoListing; count = length (walk_of ws (unmarked ms) e).met })
  unfolding walk_all verdict
  walk-fault s h o = rw (s, h, o)

  pub walk-done : sizes_fit ws ms ≡ true → ends_hold ws e ≡ true → (walk_of ws (unmarked ms) e).ok ≡ true
      → walk_all ws ms e ≡ marking (paint (unmarked ms) 1 (walk_of ws (unmarked ms) e).met) (record { answer = Ok None; count = length (walk_of ws (unmarked ms) e).met })
  unfolding walk_all verdict
  walk-done s h o = rw (s, h, o)

  pub view : View
  view = go (sizes_fit ws ms) refl (ends_hold ws e) refl (walk_of ws (unmarked ms) e).ok refl
    where
      go : (a : Bool) → sizes_fit ws ms ≡ a → (b : Bool) → ends_hold ws e ≡ b → (o : Bool) → (walk_of ws (unmarked ms) e).ok ≡ o → View
      go false s b h o k = size s (walk-size s)
      go true s false h o k = ends s h (walk_ends s h)
      go true s true h false k = fault s h k (walk-fault s h k)
      go true s true h true k = done s h k (walk-done s h k)

  -- from the step, made over marks that were taken away
  module _ (s : sizes_fit ws ms ≡ true) (h : ends_hold ws e ≡ true) (ms1 ms2 : List ℕ) (r : Stood) (z : ms1 ≡ unmarked ms)
      (l : marking ms2 r ≡ walk_list ws ms1 e 1) where
    stepped : marking ms2 r ≡ stood (unmarked ms) 1 (walk_of ws (unmarked ms) e)
    stepped =
        let z' = unmarked ms in
        let one : ◌≢◌ {A = ℕ} 1 0 = λ e. false-true (eq-eqb 1 0 e) in
        let fits = sizes ws ms s in
        let s' : sizes_fit ws z' ≡ true = sizes-fit ws z' fits.fits (length-replicate {A = ℕ} (length ms) 0 ∙ fits.long) in
        l ∙ ap (λ (k : List ℕ). walk_list ws k e 1) z ∙ list-walks ws z' e 1 (can-walk ws z' e 1 s' one h)

    pub step-done : r.ok ≡ true → marking ms2 (record { answer = Ok None; count = r.count }) ≡ walk_all ws ms e
    unfolding stood
    step-done o =
        let ok = sym (ap (λ (x : Marking Stood). x.result.ok) stepped) ∙ o in
        ap (λ (x : Marking Stood). marking x.marks (record { answer = Ok None; count = x.result.count })) stepped ∙ sym (walk-done s h ok)

    pub step-fault : r.ok ≡ false → marking (unmarked ms2) (record { answer = Err NoListing; count = r.count }) ≡ walk_all ws ms e
    unfolding stood
    step-fault o =
        let ok = sym (ap (λ (x : Marking Stood). x.result.ok) stepped) ∙ o in
        let long : length ms2 ≡ length ms =
        ap (λ (x : Marking Stood). length x.marks) stepped ∙ paint-length (unmarked ms) 1 _ ∙ length-replicate {A = ℕ} (length ms) 0 in
        ap (λ (n : ℕ). marking (replicate n 0) (record { answer = Err NoListing; count = r.count })) long
        ∙ ap (λ (x : Marking Stood). marking (unmarked ms) (record { answer = Err NoListing; count = x.result.count })) stepped
        ∙ sym (walk-fault s h ok)

-- ---- clear

-- what a walk that is not refused did
pub record Accepted (ws ms : List ℕ) (e : Ends) : Type 0 where
  pub sized : sizes_fit ws ms ≡ true
  pub held : ends_hold ws e ≡ true
  pub right : (walk_of ws (unmarked ms) e).ok ≡ true
  pub comes : walk_all ws ms e ≡ marking (paint (unmarked ms) 1 (walk_of ws (unmarked ms) e).met) (record { answer = Ok None; count = length (walk_of ws (unmarked ms) e).met })

pub accepted : (ws ms : List ℕ) (e : Ends) → is_err (walk_all ws ms e).result.answer ≡ false → Accepted ws ms e
accepted ws ms e h = go (view ws ms e)
  where
    refused : (o : Marking Walked) → walk_all ws ms e ≡ o → is_err o.result.answer ≡ true → ⊥
    refused o p k = false-true (sym h ∙ ap (λ (x : Marking Walked). is_err x.result.answer) p ∙ k)

    go : View ws ms e → Accepted ws ms e
    go (size s p) = absurd (refused (unbegun ms Size) p refl)
    go (ends s k p) = absurd (refused (unbegun ms EndsDoNotHold) p refl)
    go (fault s k o p) = absurd (refused _ p refl)
    go (done s k o p) = record { sized = s; held = k; right = o; comes = p }

module _ (ws ms : List ℕ) (e : Ends) (ms1 : List ℕ) (w : Walked) (l : marking ms1 w ≡ walk_all ws ms e) where
  pub clear-refused : is_err w.answer ≡ true → outcome ws (marking ms1 (record { answer = w.answer; ends = e })) ≡ clear_all ws ms e
  unfolding clear_all
  clear-refused r = rw (← l, r)

  went : is_err w.answer ≡ false → Accepted ws ms e
  went r = accepted ws ms e (rw (← l) r)

  pub clear-long : is_err w.answer ≡ false → length ms1 ≡ length ws
  clear-long r =
      let a = went r in
      ap (λ (x : Marking Walked). length x.marks) (l ∙ a.comes) ∙ paint-length (unmarked ms) 1 _
      ∙ length-replicate {A = ℕ} (length ms) 0 ∙ (sizes ws ms a.sized).long

  pub clear-done : is_err w.answer ≡ false → (ws' : List ℕ) → Released ws ms1 ws' → (e' : Ends) → e' ≡ empty_ends
      → outcome ws' (marking ms1 (record { answer = w.answer; ends = e' })) ≡ clear_all ws ms e
  unfolding clear_all
  clear-done r ws' d e' none =
      let a = went r in
      let met = (walk_of ws (unmarked ms) e).met in
      let marks : ms1 ≡ paint (unmarked ms) 1 met = ap (λ (x : Marking Walked). x.marks) (l ∙ a.comes) in
      let words : ws' ≡ paint ws 1 met = released-met ws ms met ws' (sizes ws ms a.sized).long (rw marks at d) in
      rw (none, ← l, r, words)
