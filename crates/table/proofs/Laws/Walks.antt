-- Walk and clear keep to the table. Assumes nothing.
use mathlib.Core.Path.{◌≡◌, refl, sym, ap, ◌∙◌}
use mathlib.Core.Logic.{inl, inr}
use mathlib.Core.Bool.{Bool, true, false, ◌&&◌, cond}
use mathlib.Core.List.{List, [], ◌∷◌}
use Prim.Native.Nat.{ℕ}
use lib.Dec.{eqb}
use lib.ListN.{length}
use borrow.Author.Tests.{eqb-false}
use Rattle.std.specs.Prelude.{Ok, Err, is_err, Option}
use Rattle.words.specs.declared.names.Node.{Node}
use Rattle.words.specs.Names.{pool_fits, unlinked_marker}
use Rattle.words.specs.Pool.{Outcome, outcome}
use Rattle.answers.specs.declared.Refusal.{Refusal}
use Rattle.answers.specs.declared.Refusal.TheVariants.{Size, EndsDoNotHold, NoListing}
use Rattle.answers.specs.Answer.{Answer}
use Rattle.answers.proofs.Laws.Ladder.{not-both}
use Rattle.ends.specs.declared.Ends.{Ends}
use Rattle.ends.specs.declared.ListEdited.{ListEdited}
use Rattle.ends.specs.Ends.{empty_ends}
use Rattle.walk.specs.declared.walk.Walked.{Walked}
use Rattle.walk.specs.Marks.{paint, unmarked, sizes_fit, Marking, marking}
use Rattle.walk.specs.Walk.{Walk, walk_of}
use Rattle.walk.specs.Calls.{walk_all, clear_all}
use Rattle.walk.proofs.Laws.Marks.{unmarked-clean}
use Rattle.walk.proofs.Laws.Calls.{sizes, View, size, ends, fault, done, view}
use Rattle.walk.proofs.Laws.Walk.{listing-walk, walk-listing}
use Rattle.walk.proofs.Laws.Clear.{clear-refuses}
use Rattle.table.specs.Calls.{Call, walk, clear, nothing-back, list_back, Left, left, calls}
use Rattle.table.specs.Table.{Test, FirstFailing, pool, marks, listing, row}
use Rattle.table.specs.Refused.{refused, Keeps}

-- ---- a call that is refused

refusal_of : Answer → Refusal
refusal_of (Ok i) = Size
refusal_of (Err r) = r

same-refusal : (r s : Refusal) → ◌≡◌ {A = Answer} (Err r) (Err s) → r ≡ s
unfolding refusal_of
same-refusal r s h = ap refusal_of h

-- by one refusal, and so by any that it may be
pub settled : (ws ms : List ℕ) (c : Call) (r : Refusal) → calls ws ms c ≡ refused ws ms c r
    → (s : Refusal) → (calls ws ms c).answer ≡ Err s → calls ws ms c ≡ refused ws ms c s
settled ws ms c r p s h = p ∙ ap (refused ws ms c) (same-refusal r s (sym (ap (λ (l : Left). l.answer) p) ∙ h))

pub not-refused : (ws ms : List ℕ) (c : Call) → is_err (calls ws ms c).answer ≡ false
    → (s : Refusal) → (calls ws ms c).answer ≡ Err s → calls ws ms c ≡ refused ws ms c s
not-refused ws ms c d s h = absurd (not-both (sym (ap is_err h) ∙ d))

alike : {A : Type 0} (f : A → Answer) (b : Bool) (x y : A) (a : Answer) → f x ≡ a → f y ≡ a → f (cond b x y) ≡ a
alike f true x y a p q = p
alike f false x y a p q = q

-- ---- 1

pub size-first : (ws ms : List ℕ) (ts : List Test) → sizes_fit ws ms ≡ false → FirstFailing {A = Option Node} (pool ws ∷ marks ws ms ∷ ts) (Err Size)
unfolding sizes_fit
size-first ws ms ts = go (pool_fits (length ws)) refl (eqb (length ms) (length ws)) refl
  where
    go : (a : Bool) → pool_fits (length ws) ≡ a → (b : Bool) → eqb (length ms) (length ws) ≡ b → a && b ≡ false
        → FirstFailing {A = Option Node} (pool ws ∷ marks ws ms ∷ ts) (Err Size)
    go false p b q h = inr (λ k. not-both (sym k ∙ p), refl)
    go true p false q h = inl (p, inr (λ k. eqb-false (length ms) (length ws) q k, refl))
    go true p true q h = absurd (not-both h)

-- ---- walk

module _ (ws ms : List ℕ) (e : Ends) where
  walk_first : View ws ms e → FirstFailing (row ws ms (walk e)) (walk_all ws ms e).result.answer
  walk_first (size s p) = rw p (size-first ws ms (Rattle.table.specs.Table.ends ws e ∷ listing ws e ∷ []) s)
  walk_first (ends s h p) = rw p (let z = sizes ws ms s in inl (z.fits, inl (z.long, inr (λ k. not-both (sym k ∙ h), refl))))
  walk_first (fault s h o p) =
      rw p
      (let z = sizes ws ms s in
      let ok : Walk → Bool = λ r. r.ok in
      inl (
        z.fits,
        inl (
          z.long,
          inl (h, inr (λ k. not-both (sym (ap ok (listing-walk ws (unmarked ms) e k.0 k.1 (unmarked-clean ms k.0))) ∙ o), refl)),
        ),
      ))
  walk_first (done s h o p) =
      rw p (let z = sizes ws ms s in inl (z.fits, inl (z.long, inl (h, inl ((_, (walk-listing ws (unmarked ms) e h o).listing), refl)))))

  abbrev walked : Marking Walked → Left
  walked w = left ws w.marks w.result.answer nothing-back (w.result.count ∷ [])

  walk-unchanged : View ws ms e → (r : Refusal) → (calls ws ms (walk e)).answer ≡ Err r → calls ws ms (walk e) ≡ refused ws ms (walk e) r
  walk-unchanged (size s p) = settled ws ms (walk e) Size (ap walked p)
  walk-unchanged (ends s h p) = settled ws ms (walk e) EndsDoNotHold (ap walked p)
  walk-unchanged (fault s h o p) = settled ws ms (walk e) NoListing (ap walked p)
  walk-unchanged (done s h o p) = not-refused ws ms (walk e) (ap (λ (w : Marking Walked). is_err w.result.answer) p)

  pub walk-keeps : Keeps ws ms (walk e)
  walk-keeps = record { tests = walk_first (view ws ms e); unchanged = walk-unchanged (view ws ms e) }

  -- ---- clear

  clear-answer : (clear_all ws ms e).result.result.answer ≡ (walk_all ws ms e).result.answer
  unfolding clear_all
  clear-answer =
      let w = walk_all ws ms e in
      let a = w.result.answer in
      alike {A = Outcome (Marking ListEdited)} (λ o. o.result.result.answer) (is_err a) (outcome ws (marking w.marks (record { answer = a; ends = e })))
      (outcome (paint ws unlinked_marker (walk_of ws (unmarked ms) e).met) (marking w.marks (record { answer = a; ends = empty_ends }))) a refl refl

  abbrev cleared : Outcome (Marking ListEdited) → Left
  cleared o = left o.words o.result.marks o.result.result.answer (list_back o.result.result.ends) []

  clear-by : (r : Refusal) (ms' : List ℕ) (n : ℕ) → walk_all ws ms e ≡ marking ms' (record { answer = Err r; count = n })
      → calls ws ms (clear e) ≡ left ws ms' (Err r) (list_back e) []
  clear-by r ms' n p =
      ap cleared (clear-refuses ws ms e (ap (λ (w : Marking Walked). is_err w.result.answer) p))
      ∙ ap (λ (w : Marking Walked). left ws w.marks w.result.answer (list_back e) []) p

  clear-unchanged : View ws ms e → (r : Refusal) → (calls ws ms (clear e)).answer ≡ Err r → calls ws ms (clear e) ≡ refused ws ms (clear e) r
  clear-unchanged (size s p) = settled ws ms (clear e) Size (clear-by Size ms 0 p)
  clear-unchanged (ends s h p) = settled ws ms (clear e) EndsDoNotHold (clear-by EndsDoNotHold ms 0 p)
  clear-unchanged (fault s h o p) = settled ws ms (clear e) NoListing (clear-by NoListing (unmarked ms) (length (walk_of ws (unmarked ms) e).met) p)
  clear-unchanged (done s h o p) =
      not-refused ws ms (clear e) (ap is_err clear-answer ∙ ap (λ (w : Marking Walked). is_err w.result.answer) p)

  pub clear-keeps : Keeps ws ms (clear e)
  clear-keeps = record { tests = rw clear-answer (walk_first (view ws ms e)); unchanged = clear-unchanged (view ws ms e) }
