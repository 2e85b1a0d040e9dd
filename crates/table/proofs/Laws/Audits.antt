-- The audit keeps to the table. Assumes nothing.
use mathlib.Core.Path.{◌≡◌, refl, sym, ap, ◌∙◌}
use mathlib.Core.Logic.{inl, inr}
use mathlib.Core.Bool.{Bool, true, false, ◌&&◌}
use mathlib.Core.List.{List, [], ◌∷◌}
use Prim.Native.Nat.{ℕ}
use lib.ListN.{length, replicate, length-replicate}
use Rattle.std.specs.Prelude.{Err, is_err, Option}
use Rattle.words.specs.declared.names.Node.{Node}
use Rattle.words.specs.Names.{directory_fits}
use Rattle.words.proofs.Laws.Cases.{both}
use Rattle.answers.specs.declared.Refusal.{Refusal}
use Rattle.answers.specs.declared.Refusal.TheVariants.{Size, EndsDoNotHold, NoListing}
use Rattle.answers.specs.Answer.{Answer}
use Rattle.answers.proofs.Laws.Ladder.{not-both}
use Rattle.ends.specs.declared.Ends.{Ends}
use Rattle.walk.specs.Marks.{unmarked, sizes_fit, Marking, marking}
use Rattle.walk.proofs.Laws.Calls.{sizes}
use Rattle.audit.specs.declared.Audited.{Audited}
use Rattle.audit.specs.Audit.{audit_fits, Lowest, none, list, lowest_unheld, walks_of, refused_at, after_walks, after_ends, audit_all}
use Rattle.audit.specs.Listed.{AllHold}
use Rattle.audit.proofs.Laws.Passes.{walks-length}
use Rattle.audit.proofs.Laws.Sequences.{distinct-all-apart}
use Rattle.audit.proofs.Laws.Walks.{list-none, holds-none, none-holds, walks-sound}
use Rattle.audit.proofs.Laws.Audit.{fits, audit-size, audit-accepts-apart}
use Rattle.table.specs.Calls.{audit, nothing-back, Left, left, calls}
use Rattle.table.specs.Table.{Test, test, FirstFailing, pool, marks, directory, listings, row}
use Rattle.table.specs.Refused.{which, refused, Keeps}
use Rattle.table.proofs.Laws.Walks.{settled, not-refused, size-first}

module _ (ws : List ℕ) (es : List Ends) (ms : List ℕ) where
  abbrev walks : Marking Lowest
  walks = walks_of ws 0 es (unmarked ms)

  -- ---- the four ways that it comes out

  after : audit_fits ws es ms ≡ true → (l : Lowest) → lowest_unheld ws 0 es ≡ l → audit_all ws es ms ≡ after_ends ws es ms l
  unfolding audit_all
  after f l h = rw f (ap (after_ends ws es ms) h)

  after-walks : audit_fits ws es ms ≡ true → lowest_unheld ws 0 es ≡ none → (l : Lowest) → walks.result ≡ l
      → audit_all ws es ms ≡ after_walks ws walks.marks l
  after-walks f h l w = after f none h ∙ ap (after_walks ws walks.marks) w

  after-fault : audit_fits ws es ms ≡ true → lowest_unheld ws 0 es ≡ none → (k : ℕ) → walks.result ≡ list k
      → audit_all ws es ms ≡ marking (unmarked ms) (refused_at NoListing k)
  after-fault f h k w =
      after-walks f h (list k) w
      ∙ ap (λ (n : ℕ). marking (replicate n 0) (refused_at NoListing k)) (walks-length ws 0 es (unmarked ms) ∙ length-replicate {A = ℕ} (length ms) 0)

  -- ---- the tests

  abbrev later : List Test
  later = test EndsDoNotHold (AllHold ws es) ∷ listings ws es ∷ []

  sizes-first : audit_fits ws es ms ≡ false → FirstFailing {A = Option Node} (pool ws ∷ marks ws ms ∷ directory es ∷ later) (Err Size)
  unfolding audit_fits
  sizes-first = go (sizes_fit ws ms) refl (directory_fits (length es)) refl
    where
      go : (a : Bool) → sizes_fit ws ms ≡ a → (b : Bool) → directory_fits (length es) ≡ b → a && b ≡ false
          → FirstFailing {A = Option Node} (pool ws ∷ marks ws ms ∷ directory es ∷ later) (Err Size)
      go false p b q h = size-first ws ms (directory es ∷ later) p
      go true p false q h = let z = sizes ws ms p in inl (z.fits, inl (z.long, inr (λ k. not-both (sym k ∙ q), refl)))
      go true p true q h = absurd (not-both h)

  -- the sizes fit, and the rest tells
  sized : (a : Answer) → audit_fits ws es ms ≡ true → FirstFailing later a → FirstFailing (row ws ms (audit es)) a
  unfolding audit_fits
  sized a f k =
      let p = both (sizes_fit ws ms) (directory_fits (length es)) f in
      let z = sizes ws ms p.0 in
      inl (z.fits, inl (z.long, inl (p.1, k)))

  audit-first : (b : Bool) → audit_fits ws es ms ≡ b → (l : Lowest) → lowest_unheld ws 0 es ≡ l → (m : Lowest) → walks.result ≡ m
      → FirstFailing (row ws ms (audit es)) (audit_all ws es ms).result.answer
  audit-first false f l h m w = rw (audit-size ws es ms f) (sizes-first f)
  audit-first true f (list k) h m w =
      rw (after f (list k) h) (sized (Err EndsDoNotHold) f (inr (λ a. list-none k (sym h ∙ holds-none ws 0 es a), refl)))
  audit-first true f none h (list k) w =
      rw (after-fault f h k w)
      (sized (Err NoListing) f
      (inl (
        none-holds ws 0 es h,
        inr (
          λ a. not-both
              (sym (ap (λ (o : Marking Audited). is_err o.result.answer) (after-fault f h k w))
              ∙ ap (λ (o : Marking Audited). is_err o.result.answer) (audit-accepts-apart ws es ms a.0 (fits ws es ms f) a.1 a.2)),
          refl,
        ),
      )))
  audit-first true f none h none w =
      rw (after-walks f h none w)
      (sized (after_walks ws walks.marks none).result.answer f
      (let s = walks-sound ws 0 es (unmarked ms) w in
      inl (none-holds ws 0 es h, inl ((s.nodes, s.listed, distinct-all-apart s.nodes s.distinct), refl))))

  -- ---- what it leaves

  abbrev audited : Marking Audited → Left
  audited a = left ws a.marks a.result.answer nothing-back (a.result.list ∷ a.result.on_lists ∷ a.result.stranded ∷ [])

  audit-unchanged : (b : Bool) → audit_fits ws es ms ≡ b → (l : Lowest) → lowest_unheld ws 0 es ≡ l → (m : Lowest) → walks.result ≡ m
      → (r : Refusal) → (calls ws ms (audit es)).answer ≡ Err r → calls ws ms (audit es) ≡ refused ws ms (audit es) r
  audit-unchanged false f l h m w = settled ws ms (audit es) Size (ap audited (audit-size ws es ms f))
  audit-unchanged true f (list k) h m w =
      settled ws ms (audit es) EndsDoNotHold
      (ap audited (after f (list k) h)
      ∙ ap (λ (l : Lowest). left ws ms (Err EndsDoNotHold) nothing-back (which l ∷ 0 ∷ 0 ∷ [])) (sym h))
  audit-unchanged true f none h (list k) w =
      settled ws ms (audit es) NoListing
      (ap audited (after-fault f h k w)
      ∙ ap (λ (l : Lowest). left ws (unmarked ms) (Err NoListing) nothing-back (which l ∷ 0 ∷ 0 ∷ [])) (sym w))
  audit-unchanged true f none h none w =
      not-refused ws ms (audit es) (ap (λ (o : Marking Audited). is_err o.result.answer) (after-walks f h none w))

  pub audit-keeps : Keeps ws ms (audit es)
  audit-keeps =
      record {
        tests = audit-first (audit_fits ws es ms) refl (lowest_unheld ws 0 es) refl walks.result refl;
        unchanged = audit-unchanged (audit_fits ws es ms) refl (lowest_unheld ws 0 es) refl walks.result refl;
      }
