-- The passes over the lists of a directory, and what they make of the audit. Assumes nothing.
use Rattle.std.proofs.Common.{◌≡◌, ℕ, ◌+◌, ◌<◌, ◌≤◌, Bool, true, false, cond, leb, List, [], ◌∷◌, length, get_or, drop, sym, refl, ap, ◌∙◌, ⊎_elim, add-one, drop-cons, leb-true}
use Rattle.std.specs.Prelude.{Result, Ok, Err}
use Rattle.std.proofs.lemmas.List.{drop_all}
use lib.ListN.{length-replicate}
use Rattle.words.proofs.Laws.Cases.{true-or-false, both}
use Rattle.words.specs.Names.{directory_limit, directory_fits}
use Rattle.answers.specs.declared.Refusal.TheVariants.{Size, EndsDoNotHold, NoListing}
use Rattle.ends.specs.declared.Ends.{Ends}
use Rattle.ends.specs.Ends.{empty_ends}
use Rattle.ends.specs.Tests.{ends_hold}
use Rattle.walk.specs.Marks.{unmarked, sizes_fit, Marking, marking}
use Rattle.walk.specs.declared.step.Stood.{Stood}
use Rattle.walk.specs.Walk.{walk_of}
use Rattle.walk.specs.Calls.{stood, can_walk, walk_list}
use Rattle.walk.proofs.Laws.Marks.{paint-length}
use Rattle.walk.proofs.Laws.Calls.{sizes, sizes-fit, list-refused, list-walks}
use Rattle.audit.specs.declared.Audited.{Audited}
use Rattle.audit.specs.declared.count.Counted.{Counted}
use Rattle.audit.specs.declared.Fault.{Fault}
use Rattle.audit.specs.Audit.{audit_fits, Lowest, none, list, lowest_unheld, walks_of, refused_at, after_walks, after_ends, audit_all}
use Rattle.audit.specs.Steps.{counted_of, unless_at, unmarked_at, and_counted, after_test, counted_steps, reported}

-- ---- marks stay one a node

pub list_length : (ws ms : List ℕ) (e : Ends) (m : ℕ) → length (walk_list ws ms e m).marks ≡ length ms
unfolding stood
list_length ws ms e m = ⊎_elim walks refused (true-or-false (can_walk ws ms e m))
  where
    walks : can_walk ws ms e m ≡ true → length (walk_list ws ms e m).marks ≡ length ms
    walks c = ap (λ (x : Marking Stood). length x.marks) (list-walks ws ms e m c) ∙ paint-length ms m (walk_of ws ms e).met

    refused : can_walk ws ms e m ≡ false → length (walk_list ws ms e m).marks ≡ length ms
    refused c = ap (λ (x : Marking Stood). length x.marks) (list-refused ws ms e m c)

-- the walks of a directory, by how the first one comes out
module _ (ws : List ℕ) (k : ℕ) (e : Ends) (es : List Ends) (ms : List ℕ) where
  pub walks-on : (walk_list ws ms e (k + 1)).result.ok ≡ true → walks_of ws k (e ∷ es) ms ≡ walks_of ws (k + 1) es (walk_list ws ms e (k + 1)).marks
  unfolding walks_of
  walks-on o = rw o

  pub walks-stop : (walk_list ws ms e (k + 1)).result.ok ≡ false → walks_of ws k (e ∷ es) ms ≡ marking (walk_list ws ms e (k + 1)).marks (list k)
  unfolding walks_of
  walks-stop o = rw o

  pub held_on : ends_hold ws e ≡ true → lowest_unheld ws k (e ∷ es) ≡ lowest_unheld ws (k + 1) es
  unfolding lowest_unheld
  held_on o = rw o

  pub held-stop : ends_hold ws e ≡ false → lowest_unheld ws k (e ∷ es) ≡ list k
  unfolding lowest_unheld
  held-stop o = rw o

pub walks-length : (ws : List ℕ) (k : ℕ) (es : List Ends) (ms : List ℕ) → length (walks_of ws k es ms).marks ≡ length ms
unfolding walks_of
walks-length ws k [] ms = refl
walks-length ws k (e ∷ es) ms =
    ⊎_elim (on (walks-length ws (k + 1) es (walk_list ws ms e (k + 1)).marks)) stop (true-or-false (walk_list ws ms e (k + 1)).result.ok)
  where
    on : length (walks_of ws (k + 1) es (walk_list ws ms e (k + 1)).marks).marks ≡ length (walk_list ws ms e (k + 1)).marks
        → (walk_list ws ms e (k + 1)).result.ok ≡ true → length (walks_of ws k (e ∷ es) ms).marks ≡ length ms
    on ih o =
        ap (λ (x : Marking Lowest). length x.marks) (walks-on ws k e es ms o)
        ∙ ih ∙ list_length ws ms e (k + 1)

    stop : (walk_list ws ms e (k + 1)).result.ok ≡ false → length (walks_of ws k (e ∷ es) ms).marks ≡ length ms
    stop o = ap (λ (x : Marking Lowest). length x.marks) (walks-stop ws k e es ms o) ∙ list_length ws ms e (k + 1)

-- ---- a pass over the lists, which has come to list i with the ends e

module _ (ws : List ℕ) (es : List Ends) (i : ℕ) (e : Ends) (is : e ≡ get_or es i empty_ends) (h : i < length es) where
  split : drop i es ≡ e ∷ drop (i + 1) es
  split = rw (is, add-one i) (drop-cons es i empty_ends h)

  pub test-next : ends_hold ws e ≡ true → lowest_unheld ws i (drop i es) ≡ lowest_unheld ws (i + 1) (drop (i + 1) es)
  test-next o = ap (lowest_unheld ws i) split ∙ held_on ws i e (drop (i + 1) es) [] o

  pub test-stop : ends_hold ws e ≡ false → lowest_unheld ws i (drop i es) ≡ list i
  test-stop o = ap (lowest_unheld ws i) split ∙ held-stop ws i e (drop (i + 1) es) [] o

  module _ (ms ms' : List ℕ) (s : Stood) (w : marking ms' s ≡ walk_list ws ms e (i + 1)) where
    out : (b : Bool) → s.ok ≡ b → (walk_list ws ms e (i + 1)).result.ok ≡ b
    out b o = ap (λ (x : Marking Stood). x.result.ok) (sym w) ∙ o

    pub walk-next : s.ok ≡ true → walks_of ws i (drop i es) ms ≡ walks_of ws (i + 1) (drop (i + 1) es) ms'
    walk-next o =
        ap (λ (l : List Ends). walks_of ws i l ms) split
        ∙ walks-on ws i e (drop (i + 1) es) ms (out true o)
        ∙ ap (λ (x : Marking Stood). walks_of ws (i + 1) (drop (i + 1) es) x.marks) (sym w)

    pub walk-stop : s.ok ≡ false → walks_of ws i (drop i es) ms ≡ marking ms' (list i)
    walk-stop o =
        ap (λ (l : List Ends). walks_of ws i l ms) split
        ∙ walks-stop ws i e (drop (i + 1) es) ms (out false o)
        ∙ ap (λ (x : Marking Stood). marking x.marks (list i)) (sym w)

-- past the last list
module _ (ws : List ℕ) (es : List Ends) (i : ℕ) (h : length es ≤ i) where
  pub test-done : lowest_unheld ws i (drop i es) ≡ none
  unfolding lowest_unheld
  test-done = ap (lowest_unheld ws i) (drop_all i es h)

  pub walk-done : (ms : List ℕ) → walks_of ws i (drop i es) ms ≡ marking ms none
  unfolding walks_of
  walk-done ms = ap (λ (l : List Ends). walks_of ws i l ms) (drop_all i es h)

-- ---- the audit, by what the passes say

module _ (ws : List ℕ) (es : List Ends) (ms : List ℕ) where
  pub few : audit_fits ws es ms ≡ true → length es ≤ 64
  unfolding audit_fits directory_fits directory_limit
  few h = leb-true (length es) 64 (both (sizes_fit ws ms) (leb (length es) 64) h).1

  sized : audit_fits ws es ms ≡ true → sizes_fit ws ms ≡ true
  unfolding audit_fits
  sized h = (both (sizes_fit ws ms) (directory_fits (length es)) h).0

  pub audit-unfit : audit_fits ws es ms ≡ false → marking ms (refused_at Size 0) ≡ audit_all ws es ms
  unfolding audit_all
  audit-unfit h = rw h

  module _ (f : audit_fits ws es ms ≡ true) where
    -- the ends of a list do not hold
    pub audit-unheld : (e : Fault) → Err e ≡ unless_at EndsDoNotHold (lowest_unheld ws 0 es)
        → marking ms (refused_at e.refusal e.list) ≡ audit_all ws es ms
    unfolding audit_all
    audit-unheld e t = rw f (go (lowest_unheld ws 0 es) t)
      where
        go : (l : Lowest) → Err e ≡ unless_at EndsDoNotHold l → marking ms (refused_at e.refusal e.list) ≡ after_ends ws es ms l
        go none k = absurd (cc)
        go (list j) k = let z : ◌≡◌ {A = Fault} e (record { refusal = EndsDoNotHold; list = j }) = cc in rw z

    -- the ends of all lists hold, and the lists were walked over the marks z, which left the marks m and came out as r says
    module _ (t : Ok tt ≡ unless_at EndsDoNotHold (lowest_unheld ws 0 es)) (z : List ℕ) (zero : z ≡ unmarked ms) (m : List ℕ) (r : Result (Unit {0}) Fault)
        (k : marking m r ≡ marking (unmarked_at (walks_of ws 0 es z).marks (walks_of ws 0 es z).result) (unless_at NoListing (walks_of ws 0 es z).result)) where
      held : audit_all ws es ms ≡ after_ends ws es ms none
      unfolding audit_all
      held = rw f (go (lowest_unheld ws 0 es) t)
        where
          go : (l : Lowest) → Ok tt ≡ unless_at EndsDoNotHold l → after_ends ws es ms l ≡ after_ends ws es ms none
          go none e = refl
          go (list j) e = absurd (cc)

      pub audit-walked : marking m (reported (and_counted r (counted_of ws m))) ≡ audit_all ws es ms
      unfolding counted_of
      audit-walked =
          let w = walks_of ws 0 es z in
          let a = sizes ws ms (sized f) in
          let long : length w.marks ≡ length ws = walks-length ws 0 es z ∙ ap length zero ∙ length-replicate {A = ℕ} (length ms) 0 ∙ a.long in
          go w.result w.marks (sizes-fit ws w.marks a.fits long) k
          ∙ ap (λ (x : List ℕ). let v = walks_of ws 0 es x in after_walks ws v.marks v.result) zero ∙ sym held
        where
          go : (l : Lowest) (ms1 : List ℕ) → sizes_fit ws ms1 ≡ true → marking m r ≡ marking (unmarked_at ms1 l) (unless_at NoListing l)
              → marking m (reported (and_counted r (counted_of ws m))) ≡ after_walks ws ms1 l
          go none ms1 s e =
              ap (λ (x : Marking (Result (Unit {0}) Fault)). marking x.marks (reported (and_counted x.result (counted_of ws x.marks)))) e ∙ rw s
          go (list j) ms1 s e =
              ap (λ (x : Marking (Result (Unit {0}) Fault)). marking x.marks (reported (and_counted x.result (counted_of ws x.marks)))) e

-- ---- the steps one after another, and what is handed back of them

abbrev pub steps_of : List ℕ → List Ends → List ℕ → Marking Audited
steps_of ws es ms = let s = counted_steps ws es ms in marking s.marks (reported s.result)

-- the steps come to the audit
pub steps-audit : (ws : List ℕ) (es : List Ends) (ms : List ℕ) → steps_of ws es ms ≡ audit_all ws es ms
unfolding counted_steps
steps-audit ws es ms = go (audit_fits ws es ms) refl
  where
    ended : audit_fits ws es ms ≡ true → (l : Lowest) → lowest_unheld ws 0 es ≡ l
        → (let s = after_test ws es ms (unless_at EndsDoNotHold l) in marking s.marks (reported s.result)) ≡ audit_all ws es ms
    ended f none h = audit-walked ws es ms f (sym (ap (unless_at EndsDoNotHold) h)) (unmarked ms) refl _ _ refl
    ended f (list k) h = audit-unheld ws es ms f (record { refusal = EndsDoNotHold; list = k }) (sym (ap (unless_at EndsDoNotHold) h))

    go : (b : Bool) → audit_fits ws es ms ≡ b
        → (let s = cond b (after_test ws es ms (unless_at EndsDoNotHold (lowest_unheld ws 0 es))) (marking ms (Err (record { refusal = Size; list = 0 })))
        in marking s.marks (reported s.result)) ≡ audit_all ws es ms
    go true f = ended f (lowest_unheld ws 0 es) refl
    go false f = audit-unfit ws es ms f
