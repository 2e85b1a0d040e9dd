-- Commands on two lists, and the table of commands by code, on a desk that agrees with its history. Assumes nothing.
use mathlib.Core.Path.{◌≡◌, refl, sym, ap}
use mathlib.Core.Logic.{◌≢◌}
use mathlib.Core.Bool.{Bool, true, false, cond}
use mathlib.Core.List.{List, [], ◌∷◌, ◌++◌}
use Prim.Native.Nat.{ℕ, ◌+◌, ◌<◌}
use native.Mathlib.Omega.{arith}
use lib.Bits.{bit_xor}
use lib.Dec.{eqb}
use lib.ListN.{length}
use borrow.Author.Tests.{eqb-true}
use Rattle.std.specs.Prelude.{Err, is_err}
use Rattle.words.specs.declared.names.Node.{Node}
use Rattle.words.specs.Names.{pool_fits}
use Rattle.words.specs.Pool.{Outcome, outcome}
use Rattle.words.specs.Listing.{Listing}
use Rattle.answers.specs.declared.Refusal.TheVariants.{NotEmpty, Malformed}
use Rattle.answers.specs.Answer.{done}
use Rattle.ends.specs.Ends.{empty_ends}
use Rattle.answers.proofs.Laws.Ladder.{not-both}
use Rattle.cursor.specs.Cursor.{null_cursor}
use Rattle.cursor.specs.Plain.{Place, at, at_null, nodes}
use Rattle.splice.specs.Splices.{splice_after, splice_before}
use Rattle.split.specs.Splits.{split_after, split_before}
use Rattle.splice.specs.Plain.{plain_splice_after, plain_splice_before}
use Rattle.split.specs.Plain.{plain_split_after, plain_split_before}
use Rattle.splice.proofs.Laws.Splice.{splice-after-does}
use Rattle.split.proofs.Laws.Split.{split-after-does}
use Rattle.splice.proofs.Laws.Mirror.{splice-before-does}
use Rattle.split.proofs.Laws.Mirror.{split-before-does}
use Rattle.splice.proofs.Laws.Few.{splice-after-few, splice-before-few}
use Rattle.split.proofs.Laws.Few.{split-after-few, split-before-few}
use Rattle.splice.proofs.Laws.Refused.{splice-after-unchanged, splice-before-unchanged}
use Rattle.split.proofs.Laws.Refused.{split-after-unchanged, split-before-unchanged}
use Rattle.list.proofs.Laws.Pushes.{sound-null}
use Rattle.list.proofs.Laws.Ends.{take-empty, take-full}
use Rattle.lines.specs.Lines.{uses_other}
use Rattle.desk.specs.declared.Worked.{Worked}
use Rattle.desk.specs.Work.{row, with, on_both, taking, by_code}
use Rattle.desk.specs.Step.{Desk, row_at}
use Rattle.history.specs.History.{History, PlainWorked, place_at, times, on_two, plain_take, plain_by_code}
use Rattle.history.specs.Follows.{Agrees}
use Rattle.history.proofs.Laws.Counts.{times-append}
use Rattle.history.proofs.Laws.Agrees.{rows_apart}
use Rattle.history.proofs.Laws.Plain.{times-at}
use Rattle.history.proofs.Laws.Comes.{Comes, stays, on-both, still-two}
use Rattle.history.proofs.Laws.Commands.{empty-sound, insert-after, insert-before, removes, replaces, next, prev, reverses, fast-clears, nulls, push-front, push-back, pop-front, pop-back}

-- ---- no node is lost or won between two lists

splice-after-times : (x : ℕ) (ys : List ℕ) (z : Place)
    → times x (nodes (plain_splice_after ys z).place) + times x (plain_splice_after ys z).other ≡ times x (nodes z) + times x ys
unfolding times
splice-after-times x ys (at L v R) =
    let a : times x (L ++ v ∷ (ys ++ R)) ≡ times x L + (_ + times x (ys ++ R)) = times-at x L v (ys ++ R) in
    let b : times x (L ++ v ∷ R) ≡ times x L + (_ + times x R) = times-at x L v R in
    let c : times x (ys ++ R) ≡ times x ys + times x R = times-append x ys R in
    omega arith
splice-after-times x ys (at_null xs) = let c : times x (ys ++ xs) ≡ times x ys + times x xs = times-append x ys xs in omega arith

splice-before-times : (x : ℕ) (ys : List ℕ) (z : Place)
    → times x (nodes (plain_splice_before ys z).place) + times x (plain_splice_before ys z).other ≡ times x (nodes z) + times x ys
unfolding times
splice-before-times x ys (at L v R) =
    let a : times x ((L ++ ys) ++ v ∷ R) ≡ times x (L ++ ys) + (_ + times x R) = times-at x (L ++ ys) v R in
    let b : times x (L ++ v ∷ R) ≡ times x L + (_ + times x R) = times-at x L v R in
    let c : times x (L ++ ys) ≡ times x L + times x ys = times-append x L ys in
    omega arith
splice-before-times x ys (at_null xs) = let c : times x (xs ++ ys) ≡ times x xs + times x ys = times-append x xs ys in omega arith

split-after-times : (x : ℕ) (ys : List ℕ) (z : Place)
    → times x (nodes (plain_split_after ys z).place) + times x (plain_split_after ys z).other ≡ times x (nodes z) + times x ys
unfolding times
split-after-times x [] (at L v R) =
    let a : times x (L ++ v ∷ []) ≡ times x L + (_ + 0) = times-at x L v [] in
    let b : times x (L ++ v ∷ R) ≡ times x L + (_ + times x R) = times-at x L v R in
    omega arith
split-after-times x [] (at_null xs) = omega arith
split-after-times x (y ∷ ys) (at L v R) = refl
split-after-times x (y ∷ ys) (at_null xs) = refl

split-before-times : (x : ℕ) (ys : List ℕ) (z : Place)
    → times x (nodes (plain_split_before ys z).place) + times x (plain_split_before ys z).other ≡ times x (nodes z) + times x ys
unfolding times
split-before-times x [] (at L v R) =
    let b : times x (L ++ v ∷ R) ≡ times x L + (_ + times x R) = times-at x L v R in omega arith
split-before-times x [] (at_null xs) = omega arith
split-before-times x (y ∷ ys) (at L v R) = refl
split-before-times x (y ∷ ys) (at_null xs) = refl

-- refused, the place stays
splice-after-stays : (ys : List ℕ) (z : Place) → is_err (plain_splice_after ys z).answer ≡ true → (plain_splice_after ys z).place ≡ z
splice-after-stays ys (at L v R) e = absurd (not-both (sym e))
splice-after-stays ys (at_null xs) e = absurd (not-both (sym e))

splice-before-stays : (ys : List ℕ) (z : Place) → is_err (plain_splice_before ys z).answer ≡ true → (plain_splice_before ys z).place ≡ z
splice-before-stays ys (at L v R) e = absurd (not-both (sym e))
splice-before-stays ys (at_null xs) e = absurd (not-both (sym e))

split-after-stays : (ys : List ℕ) (z : Place) → is_err (plain_split_after ys z).answer ≡ true → (plain_split_after ys z).place ≡ z
split-after-stays [] (at L v R) e = absurd (not-both (sym e))
split-after-stays [] (at_null xs) e = absurd (not-both (sym e))
split-after-stays (y ∷ ys) (at L v R) e = refl
split-after-stays (y ∷ ys) (at_null xs) e = refl

split-before-stays : (ys : List ℕ) (z : Place) → is_err (plain_split_before ys z).answer ≡ true → (plain_split_before ys z).place ≡ z
split-before-stays [] (at L v R) e = absurd (not-both (sym e))
split-before-stays [] (at_null xs) e = absurd (not-both (sym e))
split-before-stays (y ∷ ys) (at L v R) e = refl
split-before-stays (y ∷ ys) (at_null xs) e = refl

module _ (n : ℕ) (d : Desk) (h : History) (g : Agrees n d h) (f : pool_fits n ≡ true) (l m : ℕ) (a : l < length h.places) (b : m < length h.places) where
  abbrev ws : List ℕ
  ws = d.words

  abbrev z : Place
  z = place_at h l

  abbrev y : Place
  y = place_at h m

  abbrev does : Outcome Worked → PlainWorked → Type 0
  does = Comes n d h g l m a b

  fits : pool_fits (length ws) ≡ true
  fits = rw g.long f

  module _ (ne : l ≢ m) where
    splices-after : does (with (λ r. on_both r (row_at d m)) (splice_after ws (row_at d l).ends (row_at d l).cursor (row_at d m).ends))
        (on_two (plain_splice_after (nodes y) z) y h.stranded)
    splices-after =
        on-both n d h g l m a b ne _ (plain_splice_after (nodes y) z)
        (splice-after-does ws (row_at d l).ends (row_at d l).cursor (row_at d m).ends fits z (nodes y) (g.sound l a) (g.sound m b).listing (rows_apart n d h g l m a b ne))
        (splice-after-unchanged ws (row_at d l).ends (row_at d l).cursor (row_at d m).ends)
        (λ x e. splice-after-times x (nodes y) z) (splice-after-stays (nodes y) z)
        (splice-after-few ws (row_at d l).ends (row_at d l).cursor (row_at d m).ends)

    splices-before : does (with (λ r. on_both r (row_at d m)) (splice_before ws (row_at d l).ends (row_at d l).cursor (row_at d m).ends))
        (on_two (plain_splice_before (nodes y) z) y h.stranded)
    splices-before =
        on-both n d h g l m a b ne _ (plain_splice_before (nodes y) z)
        (splice-before-does ws (row_at d l).ends (row_at d l).cursor (row_at d m).ends fits z (nodes y) (g.sound l a) (g.sound m b).listing (rows_apart n d h g l m a b ne))
        (splice-before-unchanged ws (row_at d l).ends (row_at d l).cursor (row_at d m).ends)
        (λ x e. splice-before-times x (nodes y) z) (splice-before-stays (nodes y) z)
        (splice-before-few ws (row_at d l).ends (row_at d l).cursor (row_at d m).ends)

    splits-after : does (with (λ r. on_both r (row_at d m)) (split_after ws (row_at d l).ends (row_at d l).cursor (row_at d m).ends))
        (on_two (plain_split_after (nodes y) z) y h.stranded)
    splits-after =
        on-both n d h g l m a b ne _ (plain_split_after (nodes y) z)
        (split-after-does ws (row_at d l).ends (row_at d l).cursor (row_at d m).ends fits z (nodes y) (g.sound l a) (g.sound m b).listing)
        (split-after-unchanged ws (row_at d l).ends (row_at d l).cursor (row_at d m).ends)
        (λ x e. split-after-times x (nodes y) z) (split-after-stays (nodes y) z)
        (split-after-few ws (row_at d l).ends (row_at d l).cursor (row_at d m).ends)

    splits-before : does (with (λ r. on_both r (row_at d m)) (split_before ws (row_at d l).ends (row_at d l).cursor (row_at d m).ends))
        (on_two (plain_split_before (nodes y) z) y h.stranded)
    splits-before =
        on-both n d h g l m a b ne _ (plain_split_before (nodes y) z)
        (split-before-does ws (row_at d l).ends (row_at d l).cursor (row_at d m).ends fits z (nodes y) (g.sound l a) (g.sound m b).listing)
        (split-before-unchanged ws (row_at d l).ends (row_at d l).cursor (row_at d m).ends)
        (λ x e. split-before-times x (nodes y) z) (split-before-stays (nodes y) z)
        (split-before-few ws (row_at d l).ends (row_at d l).cursor (row_at d m).ends)

    takes : does (outcome ws (taking ws (row_at d l) (row_at d m))) (plain_take z y h.stranded)
    unfolding taking plain_take times
    takes = go (nodes y) refl
      where
        k : Listing bit_xor ws (row_at d m).ends.head.0 (row_at d m).ends.tail.0 (nodes y)
        k = (g.sound m b).listing

        go : (ys : List ℕ) → nodes y ≡ ys → does (outcome ws (taking ws (row_at d l) (row_at d m))) (plain_take z y h.stranded)
        go [] e =
            rw (e, take-empty ws (row_at d l).ends (nodes z) fits (g.sound l a).listing (row_at d m).ends (rw e at k))
            (still-two n d h g l m a b ne done (row empty_ends (null_cursor empty_ends)) (row (row_at d l).ends (null_cursor (row_at d l).ends)) (at_null []) (at_null (nodes z))
            (empty-sound ws) (sound-null ws (row_at d l).ends (nodes z) (g.sound l a).listing)
            (λ x. let c : times x (nodes y) ≡ 0 = ap (times x) e in omega arith))
        go (v ∷ ys) e =
            rw (e, take-full ws (row_at d l).ends (nodes z) fits (g.sound l a).listing (row_at d m).ends v ys (rw e at k))
            (stays n d h g l m a b (Err NotEmpty))

  -- ---- by code

  pick : (c : Bool) {w w' : Outcome Worked} {t t' : PlainWorked} → (c ≡ true → does w t) → (c ≡ false → does w' t') → does (cond c w w') (cond c t t')
  pick true p q = p refl
  pick false p q = q refl

  uses : (code k : ℕ) → uses_other k ≡ true → eqb code k ≡ true → uses_other code ≡ true
  uses code k u e = rw (eqb-true code k e) u

  pub by-code : (code : ℕ) (i : Node) → (uses_other code ≡ true → l ≢ m) → does (by_code code ws (row_at d l) (row_at d m) i) (plain_by_code code n h z y i.0)
  unfolding by_code plain_by_code uses_other
  by-code code i ne =
      pick (eqb code 1) (λ e. insert-after n d h g f l m a b i) (λ e1.
      pick (eqb code 2) (λ e. insert-before n d h g f l m a b i) (λ e2.
      pick (eqb code 3) (λ e. removes n d h g f l m a b) (λ e3.
      pick (eqb code 4) (λ e. replaces n d h g f l m a b i) (λ e4.
      pick (eqb code 5) (λ e. splices-after (ne (uses code 5 refl e))) (λ e5.
      pick (eqb code 6) (λ e. splices-before (ne (uses code 6 refl e))) (λ e6.
      pick (eqb code 7) (λ e. splits-after (ne (uses code 7 refl e))) (λ e7.
      pick (eqb code 8) (λ e. splits-before (ne (uses code 8 refl e))) (λ e8.
      pick (eqb code 9) (λ e. next n d h g f l m a b) (λ e9.
      pick (eqb code 10) (λ e. prev n d h g f l m a b) (λ e10.
      pick (eqb code 11) (λ e. reverses n d h g f l m a b) (λ e11.
      pick (eqb code 12) (λ e. takes (ne (uses code 12 refl e))) (λ e12.
      pick (eqb code 14) (λ e. fast-clears n d h g f l m a b) (λ e14.
      pick (eqb code 15) (λ e. nulls n d h g f l m a b) (λ e15.
      pick (eqb code 16) (λ e. push-front n d h g f l m a b i) (λ e16.
      pick (eqb code 17) (λ e. push-back n d h g f l m a b i) (λ e17.
      pick (eqb code 18) (λ e. pop-front n d h g f l m a b) (λ e18.
      pick (eqb code 19) (λ e. pop-back n d h g f l m a b) (λ e19. stays n d h g l m a b (Err Malformed)))))))))))))))))))
