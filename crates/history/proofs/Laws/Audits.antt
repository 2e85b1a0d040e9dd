-- The audit, and the words, of a desk that agrees with its history. Assumes nothing.
use mathlib.Core.Path.{◌≡◌, refl, sym, ap, ◌∙◌}
use mathlib.Core.Logic.{⊎_elim}
use mathlib.Core.Bool.{Bool, true, false, ◌&&◌, not, cond}
use mathlib.Core.List.{List, [], ◌∷◌, map}
use Prim.Native.Nat.{ℕ, ◌+◌, ◌<◌, ◌≤◌}
use native.Mathlib.Omega.{arith}
use lib.Bits.{bit_xor}
use lib.Dec.{eqb, ltb}
use lib.ListN.{length, get_or, set, length-set, length-replicate, get_or-replicate, length-map, get_or-eq_default}
use lib.Seq.{get_or-set_same, get_or-set_other}
use borrow.Author.Tests.{ltb-true, lt-ltb, le-ltb, eqb-true, eq-eqb}
use Rattle.words.specs.Names.{pool_fits, directory_limit, is_linked}
use Rattle.words.specs.Listing.{All, Off, Distinct}
use Rattle.words.specs.Afresh.{joined, afresh_all}
use Rattle.words.proofs.Laws.Cases.{below_or_not}
use Rattle.words.proofs.Laws.Afresh.{chains-afresh}
use Rattle.answers.proofs.Laws.Ladder.{not-both}
use Rattle.cursor.specs.Plain.{nodes}
use Rattle.walk.specs.Marks.{elem}
use Rattle.audit.specs.Audit.{audit_all}
use Rattle.audit.specs.Listed.{Listed, is_stray}
use Rattle.audit.proofs.Laws.Audit.{audit-accepts}
use Rattle.audit.proofs.Laws.Numbers.{tally-is}
use Rattle.lines.specs.Answers.{reply}
use Rattle.desk.specs.Step.{Desk, ends_of_all}
use Rattle.desk.specs.Reply.{reply_to_audit}
use Rattle.history.specs.History.{History, times, held, is_held, size}
use Rattle.history.specs.Follows.{Agrees, unlinked_but}
use Rattle.history.proofs.Laws.Counts.{off-times, times-distinct}
use Rattle.history.proofs.Laws.Elements.{elem-times, times-joined, length-joined, all_listed, listed-chains, times-ranged}

module _ (n : ℕ) (d : Desk) (h : History) (g : Agrees n d h) where
  abbrev xss : List (List ℕ)
  xss = map nodes h.places

  pub all-lists : Listed d.words (ends_of_all d.lists) xss
  all-lists = all_listed d.words d.lists h.places g.lists (λ l r. (g.sound l r).listing)

  -- on lists and stranded, by the sequences
  held-is : (x : ℕ) → held h x ≡ times x (joined xss) + times x h.stranded
  unfolding held
  held-is x = ap (λ (k : ℕ). k + times x h.stranded) (sym (times-joined x h.places))

  pub lists-distinct : Distinct (joined xss)
  lists-distinct = times-distinct (joined xss) (λ x. low x (held-is x) (g.once x))
    where
      low : (x : ℕ) → held h x ≡ times x (joined xss) + times x h.stranded → held h x ≤ 1 → times x (joined xss) ≤ 1
      low x p q = omega arith

  pub stranded-distinct : Distinct h.stranded
  stranded-distinct = times-distinct h.stranded (λ x. low x (held-is x) (g.once x))
    where
      low : (x : ℕ) → held h x ≡ times x (joined xss) + times x h.stranded → held h x ≤ 1 → times x h.stranded ≤ 1
      low x p q = omega arith

  pub stranded-ranged : All (λ x. x < n) h.stranded
  stranded-ranged = times-ranged n h.stranded (λ x r. none x (held-is x) (g.ranged x r))
    where
      none : (x : ℕ) → held h x ≡ times x (joined xss) + times x h.stranded → held h x ≡ 0 → times x h.stranded ≡ 0
      none x p q = omega arith

  -- ---- the audit

  -- linked and on no list is stranded
  stray : (x : ℕ) → x < n → is_stray d.words (joined xss) x ≡ elem x h.stranded
  unfolding is_stray is_held
  stray x r =
      rw (elem-times x (joined xss), elem-times x h.stranded, g.linked x r, held-is x)
      (go (times x (joined xss)) (times x h.stranded) (rw (held-is x) at (g.once x)))
    where
      go : (p q : ℕ) → p + q ≤ 1 → (not (ltb 0 p) && ltb 0 (p + q)) ≡ ltb 0 q
      go p q c = ⊎_elim some none (below_or_not 0 p)
        where
          some : 0 < p → (not (ltb 0 p) && ltb 0 (p + q)) ≡ ltb 0 q
          some s = rw (lt-ltb 0 p s, le-ltb 0 q (omega arith))

          none : p ≤ 0 → (not (ltb 0 p) && ltb 0 (p + q)) ≡ ltb 0 q
          none s = let e : p + q ≡ q = omega arith in rw (le-ltb 0 p s, e)

  pub audit-replies : (ms : List ℕ) → pool_fits n ≡ true → length h.places ≤ directory_limit → length ms ≡ n
      → reply_to_audit (audit_all d.words (ends_of_all d.lists) ms).result ≡ reply 0 (size h.places) (length h.stranded)
  unfolding reply_to_audit
  audit-replies ms f few long =
      rw (
        audit-accepts d.words (ends_of_all d.lists) ms xss (record { pool = rw g.long f; long = long ∙ sym g.long; few = rw (length-map d.lists (λ r. r.ends), g.lists) few }) all-lists lists-distinct,
        length-joined h.places,
        g.long,
      )
      (ap (reply 0 (size h.places)) (tally-is n (is_stray d.words (joined xss)) h.stranded stranded-distinct stranded-ranged stray))

  -- ---- the words

  unlinked-but-length : (ws st : List ℕ) → length (unlinked_but ws st) ≡ length ws
  unfolding unlinked_but
  unlinked-but-length ws [] = length-replicate {A = ℕ} (length ws) 1
  unlinked-but-length ws (x ∷ st) = length-set (unlinked_but ws st) x (get_or ws x 0) ∙ unlinked-but-length ws st

  unlinked-but-at : (ws st : List ℕ) (i : ℕ) → i < length ws → get_or (unlinked_but ws st) i 0 ≡ cond (elem i st) (get_or ws i 0) 1
  unfolding unlinked_but
  unlinked-but-at ws [] i r = get_or-replicate (length ws) i 1 0 r
  unlinked-but-at ws (x ∷ st) i r = go (eqb i x) refl (unlinked-but-at ws st i r)
    where
      go : (b : Bool) → eqb i x ≡ b → get_or (unlinked_but ws st) i 0 ≡ cond (elem i st) (get_or ws i 0) 1
          → get_or (set (unlinked_but ws st) x (get_or ws x 0)) i 0 ≡ cond (elem i (x ∷ st)) (get_or ws i 0) 1
      go true e k =
          let p : i ≡ x = eqb-true i x e in
          rw (e, ← p) (get_or-set_same (unlinked_but ws st) i (get_or ws i 0) 0 (rw (unlinked-but-length ws st) r))
      go false e k = rw e (get_or-set_other (unlinked_but ws st) x i (get_or ws x 0) 0 (λ p. not_same p) ∙ k)
        where
          not_same : i ≡ x → ⊥
          not_same p = not-both (sym (rw (← p) (same i)) ∙ e)
            where
              same : (v : ℕ) → eqb v v ≡ true
              same v = eq-eqb v v refl

  unlinked-is : (w : ℕ) → is_linked w ≡ false → w ≡ 1
  unfolding is_linked
  unlinked-is w e = go (eqb w 1) refl e
    where
      go : (b : Bool) → eqb w 1 ≡ b → not b ≡ false → w ≡ 1
      go true h e = eqb-true w 1 h
      go false h e = absurd (not-both e)

  -- they are those written afresh, where stranded words are as they were in ws
  pub words-afresh : (ws : List ℕ) → length ws ≡ n → ((x : ℕ) → 0 < times x h.stranded → get_or d.words x 0 ≡ get_or ws x 0)
      → d.words ≡ afresh_all bit_xor (unlinked_but ws h.stranded) xss
  unfolding is_held
  words-afresh ws long kept =
      sym (chains-afresh bit_xor d.words xss (unlinked_but ws h.stranded) (unlinked-but-length ws h.stranded ∙ long ∙ sym g.long) same
      (listed-chains d.words (ends_of_all d.lists) xss all-lists))
    where
      inside : (i : ℕ) → Off i (joined xss) → i < n → (v : Bool) → ltb 0 (times i h.stranded) ≡ v → get_or (unlinked_but ws h.stranded) i 0 ≡ get_or d.words i 0
      inside i o r true v =
          rw (unlinked-but-at ws h.stranded i (rw long r), elem-times i h.stranded, v) (sym (kept i (ltb-true 0 (times i h.stranded) v)))
      inside i o r false v =
          let z : held h i ≡ times i h.stranded = held-is i ∙ ap (λ (k : ℕ). k + times i h.stranded) (off-times i (joined xss) o) ∙ zero-plus (times i h.stranded) in
          rw (unlinked-but-at ws h.stranded i (rw long r), elem-times i h.stranded, v)
          (sym (unlinked-is (get_or d.words i 0) (g.linked i r ∙ ap (ltb 0) z ∙ v)))
        where
          zero-plus : (k : ℕ) → 0 + k ≡ k
          zero-plus k = omega arith

      same : (i : ℕ) → Off i (joined xss) → get_or (unlinked_but ws h.stranded) i 0 ≡ get_or d.words i 0
      same i o =
          ⊎_elim (λ r. inside i o r (ltb 0 (times i h.stranded)) refl)
          (λ r. get_or-eq_default (unlinked_but ws h.stranded) 0 (rw (unlinked-but-length ws h.stranded, long) r) ∙ sym (get_or-eq_default d.words 0 (rw g.long r)))
          (below_or_not i n)
