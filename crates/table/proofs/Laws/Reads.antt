-- Reads and the steps of an iterator keep to the table. Assumes nothing.
use mathlib.Core.Path.{◌≡◌, refl, sym, ap, ◌∙◌}
use mathlib.Core.Logic.{◌⊎◌, inl, inr, ⊎_elim}
use mathlib.Core.Bool.{Bool, true, false, ◌&&◌, cond}
use mathlib.Core.List.{List, [], ◌∷◌}
use Prim.Native.Nat.{ℕ, ◌*◌, ◌≤◌}
use lib.Bits.{bit_xor}
use lib.Dec.{ltb, leb, eqb}
use lib.ListN.{length}
use borrow.Author.Tests.{ltb-true, lt-ltb, leb-true, le-leb, eqb-true, eqb-false, eq-eqb}
use Rattle.std.specs.Prelude.{Ok, Err, is_err}
use Rattle.words.specs.Names.{is_name, pool_fits, decoding, node_of}
use Rattle.words.specs.Pool.{word_at}
use Rattle.words.proofs.Laws.Cases.{both}
use Rattle.links.specs.XorOps.{next_of}
use Rattle.answers.specs.declared.Refusal.{Refusal}
use Rattle.answers.specs.declared.Refusal.TheVariants.{Size, NoListing}
use Rattle.answers.specs.Answer.{Answer, done, Tested, answered, need}
use Rattle.answers.proofs.Laws.Ladder.{not-both}
use Rattle.ends.specs.declared.Ends.{Ends}
use Rattle.cursor.specs.declared.Cursor.{Cursor}
use Rattle.cursor.specs.Cursor.{stand_test, some_test}
use Rattle.iter.specs.declared.Iter.{Iter}
use Rattle.iter.specs.declared.Stepped.{Stepped}
use Rattle.iter.specs.Iter.{stepped, over, turned_iter, next, next_back}
use Rattle.records.specs.Records.{records_fit, read_test, read_at, record_of}
use Rattle.table.specs.Calls.{Side, front, back, read, step, nothing-back, iter-back, Left, left}
use Rattle.table.specs.Table.{Test, test, FirstFailing, pool, ends, cursor, at_node, width, records, step_row, row}
use Rattle.table.specs.Refused.{Keeps}
use Rattle.table.proofs.Laws.Ladder.{rung, flag, told, without}
use Rattle.table.proofs.Laws.Tests.{stand-first, some_first}

-- ---- read

-- the sizes, in the order of the table
sizes : (a b c d : Bool) (rest : Tested) → need (a && b && (c && d)) Size rest ≡ need a Size (need (c && b) Size (need d Size rest))
sizes true true c d rest = swap c
  where
    swap : (x : Bool) → need (x && d) Size rest ≡ need (x && true) Size (need d Size rest)
    swap true = refl
    swap false = refl
sizes true false true d rest = refl
sizes true false false d rest = refl
sizes false b c d rest = refl

read_first : (ws : List ℕ) (e : Ends) (c : Cursor) (rs : List ℕ) (w : ℕ)
    → FirstFailing (pool ws ∷ width w ∷ records ws rs w ∷ ends ws e ∷ cursor ws e c ∷ at_node c ∷ []) (read_test ws e c (length rs) w)
unfolding read_test records_fit
read_first ws e c rs w =
    let n = length ws in
    let t = some_test (stand_test ws e c) c in
    let us = ends ws e ∷ cursor ws e c ∷ at_node c ∷ [] in
    let fits = ltb 0 w && leb w 256 in
    let long = eqb (length rs) (w * n) in
    rw (sizes (pool_fits n) (leb w 256) (ltb 0 w) long t)
    (flag (pool_fits n) Size (need fits Size (need long Size t)) (width w ∷ records ws rs w ∷ us)
    (λ p. rung fits Size ((1 ≤ w) × (w ≤ 256)) (need long Size t) (records ws rs w ∷ us)
    (λ h. let k = both (ltb 0 w) (leb w 256) h in (ltb-true 0 w k.0, leb-true w 256 k.1))
    (λ h. rw (lt-ltb 0 w h.0, le-leb w 256 h.1))
    (λ q. rung long Size (length rs ≡ w * n) t us (λ h. eqb-true (length rs) (w * n) h) (λ h. eq-eqb (length rs) (w * n) h)
    (λ r. without [] us (pool ws) t p (some_first (pool ws ∷ ends ws e ∷ cursor ws e c ∷ []) (stand_test ws e c) c (stand-first ws e c))))))

-- the part that is read, by the tests
abbrev part : List ℕ → ℕ → Cursor → Tested → List ℕ
part rs w c t = cond (is_err t) [] (record_of rs w (node_of c.current.0))

pub read_keeps : (ws ms : List ℕ) (e : Ends) (c : Cursor) (rs : List ℕ) (w : ℕ) → Keeps ws ms (read e c rs w)
unfolding read_at
read_keeps ws ms e c rs w =
    record {
      tests = told (row ws ms (read e c rs w)) (read_test ws e c (length rs) w) (read_first ws e c rs w);
      unchanged = go (read_test ws e c (length rs) w);
    }
  where
    go : (t : Tested) (r : Refusal) → answered t ≡ Err r → ◌≡◌ {A = Left} (left ws ms (answered t) nothing-back (part rs w c t)) (left ws ms (Err r) nothing-back [])
    go (Err x) r h = ap (λ (a : Answer). left ws ms a nothing-back []) h
    go (Ok u) r h = absurd (not-both (sym (ap is_err h)))

-- ---- the steps of an iterator

-- a step by its five tests
abbrev steps : Bool → Bool → Bool → Bool → Bool → Answer → Iter → Iter → Stepped
steps fits null named last more out it it' =
    cond fits
    (cond null (stepped done it)
    (cond named (cond last (stepped out over) (cond more (stepped out it') (stepped (Err NoListing) it)))
    (stepped (Err NoListing) it)))
    (stepped (Err Size) it)

-- the same tests, as the table says them
abbrev Step : ℕ → ℕ → Bool → Bool → Test
Step w t named more = test NoListing ((w ≡ 0) ⊎ ((named ≡ true) × ((w ≡ t) ⊎ (more ≡ true))))

module _ (out : Answer) (it it' : Iter) (d : is_err out ≡ false) (w t : ℕ) where
  steps_first : (fits named more : Bool) (null : Bool) → eqb w 0 ≡ null → (last : Bool) → eqb w t ≡ last
      → FirstFailing (test Size (fits ≡ true) ∷ Step w t named more ∷ []) (steps fits null named last more out it it').answer
  steps_first false named more null z last l = inr (λ h. not-both (sym h), refl)
  steps_first true named more true z last l = inl (refl, inl (inl (eqb-true w 0 z), refl))
  steps_first true true more false z true l = inl (refl, inl (inr (refl, inl (eqb-true w t l)), d))
  steps_first true true true false z false l = inl (refl, inl (inr (refl, inr refl), d))
  steps_first true true false false z false l =
      inl (refl, inr (⊎_elim (λ h. eqb-false w 0 z h) (λ h. ⊎_elim (λ k. eqb-false w t l k) (λ k. not-both (sym k)) h.1), refl))
  steps_first true false more false z last l = inl (refl, inr (⊎_elim (λ h. eqb-false w 0 z h) (λ h. not-both (sym h.0)), refl))

  steps-unchanged : (fits null named last more : Bool) → is_err (steps fits null named last more out it it').answer ≡ true
      → (steps fits null named last more out it it').iter ≡ it
  steps-unchanged false null named last more h = refl
  steps-unchanged true true named last more h = refl
  steps-unchanged true false true true more h = absurd (not-both (sym h ∙ d))
  steps-unchanged true false true false true h = absurd (not-both (sym h ∙ d))
  steps-unchanged true false true false false h = refl
  steps-unchanged true false false last more h = refl

next-first : (ws : List ℕ) (it : Iter) → FirstFailing (step_row ws front it) (next ws it).answer
unfolding next next_of
next-first ws it =
    let n = length ws in
    let w = it.head.0 in
    let x = bit_xor (word_at ws w) it.prev_head.0 in
    steps_first (Ok (decoding n it.head)) it
    (record { prev_head = it.head; head = record { 0 = x }; tail = it.tail; next_tail = it.next_tail })
    refl w it.tail.0 (pool_fits n) (is_name n w) (is_name n x) (eqb w 0) refl (eqb w it.tail.0) refl

next-unchanged : (ws : List ℕ) (it : Iter) → is_err (next ws it).answer ≡ true → (next ws it).iter ≡ it
unfolding next next_of
next-unchanged ws it h =
    let n = length ws in
    let w = it.head.0 in
    let x = bit_xor (word_at ws w) it.prev_head.0 in
    steps-unchanged (Ok (decoding n it.head)) it
    (record { prev_head = it.head; head = record { 0 = x }; tail = it.tail; next_tail = it.next_tail })
    refl w it.tail.0 (pool_fits n) (eqb w 0) (is_name n w) (eqb w it.tail.0) (is_name n x) h

back-first : (ws : List ℕ) (it : Iter) → FirstFailing (step_row ws back it) (next_back ws it).answer
unfolding next_back
back-first ws it = next-first ws (turned_iter it)

back-unchanged : (ws : List ℕ) (it : Iter) → is_err (next_back ws it).answer ≡ true → (next_back ws it).iter ≡ it
unfolding next_back
back-unchanged ws it h = ap turned_iter (next-unchanged ws (turned_iter it) h)

-- refused, it is the iterator that was given
came : (ws ms : List ℕ) (s : Stepped) (it : Iter) (r : Refusal) → (is_err s.answer ≡ true → s.iter ≡ it) → s.answer ≡ Err r
    → ◌≡◌ {A = Left} (left ws ms s.answer (iter-back s.iter) []) (left ws ms (Err r) (iter-back it) [])
came ws ms s it r u h =
    ap (λ (a : Answer). left ws ms a (iter-back s.iter) []) h ∙ ap (λ (i : Iter). left ws ms (Err r) (iter-back i) []) (u (ap is_err h))

pub step_keeps : (ws ms : List ℕ) (s : Side) (it : Iter) → Keeps ws ms (step s it)
step_keeps ws ms front it = record { tests = next-first ws it; unchanged = λ r h. came ws ms (next ws it) it r (next-unchanged ws it) h }
step_keeps ws ms back it = record { tests = back-first ws it; unchanged = λ r h. came ws ms (next_back ws it) it r (back-unchanged ws it) h }
