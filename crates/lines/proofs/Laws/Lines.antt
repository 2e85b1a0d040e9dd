-- A line that is read one byte at a time says what the whole line says. Assumes nothing.
use mathlib.Core.Path.{◌≡◌, refl, sym, ap, ◌∙◌}
use mathlib.Core.Logic.{⊎_elim}
use mathlib.Core.Bool.{Bool, true, false, ◌&&◌, cond}
use mathlib.Core.List.{List, [], ◌∷◌}
use Prim.Native.Nat.{ℕ, suc, ◌+◌, ◌*◌, ◌%◌, ◌^◌, ◌<◌, ◌≤◌}
use native.Mathlib.Nat.{mod-eq_of_lt, eq-or-lt_of_le, add-zero, zero-add}
use lib.Pow.{pow-lt, pow-add}
use native.Mathlib.Omega.{arith}
use lib.Dec.{ltb, eqb, lit<, lit≤}
use lib.ListN.{length, get_or, drop, drop_of_length-le}
use lib.Seq.{drop-cons}
use native.Mathlib.Numerals.{add-one}
use borrow.Author.Tests.{lt-ltb, le-ltb, ltb-true, ltb-false, ne_eqb}
use Rattle.lines.specs.declared.line.Order.{Order}
use Rattle.lines.specs.declared.line.Line.{Line}
use Rattle.std.specs.Prelude.{Option, None}
use Rattle.lines.specs.Lines.{digit_of, value_from, all_digits, order_of, if_right, line_of, fresh, fed, fed_all, parsed}

abbrev line : ℕ → ℕ → Line
line v k = record { value = v; count = k }

-- a line that is spoilt stays so
spoilt : (bs : List ℕ) → fed_all (line 0 11) bs ≡ line 0 11
unfolding fed_all fed
spoilt [] = refl
spoilt (b ∷ bs) = spoilt bs

-- what is said of the rest of a line, after k digits that make v
rest_of : ℕ → ℕ → List ℕ → Option Order
rest_of v k bs = cond (eqb (k + length bs) 10 && all_digits bs) (if_right (order_of (value_from v bs))) None

-- k digits make a number below 16 to the k, which is 2 to the 4 * k
small : (v k : ℕ) → v < 2 ^ (4 * k) → k ≤ 9 → v < 2 ^ 36
small v k h r = ⊎_elim (λ e. rw e at h) (λ l. let p = pow-lt l in omega arith) (eq-or-lt_of_le {n = 4 * k} {m = 36} (omega arith))

grown : (v k d : ℕ) → v < 2 ^ (4 * k) → d < 16 → v * 16 + d < 2 ^ (4 * (k + 1))
grown v k d h r =
    let e : 4 * (k + 1) ≡ 4 * k + 4 = omega arith in
    let p : 2 ^ (4 * k + 4) ≡ 2 ^ (4 * k) * 2 ^ 4 = pow-add 2 (4 * k) 4 in
    rw e (omega arith)

fed-digit : (v k b : ℕ) → v < 2 ^ (4 * k) → k < 10 → digit_of b < 16 → fed (line v k) b ≡ line (v * 16 + digit_of b) (k + 1)
unfolding fed
fed-digit v k b h r d = rw (lt-ltb k 10 r, lt-ltb (digit_of b) 16 d, mod-eq_of_lt (small v k h (omega arith)))

fed-other : (v k b : ℕ) → 16 ≤ digit_of b → fed (line v k) b ≡ line 0 11
unfolding fed
fed-other v k b d = rw (le-ltb (digit_of b) 16 d) (go (ltb k 10))
  where
    go : (t : Bool) → cond (t && false) (line (v % 68719476736 * 16 + digit_of b) (k + 1)) (line 0 11) ≡ line 0 11
    go true = refl
    go false = refl

fed-full : (v b : ℕ) → fed (line v 10) b ≡ line 0 11
unfolding fed
fed-full v b = refl

and-false : (t u : Bool) → u ≡ false → t && u ≡ false
and-false true u e = e
and-false false u e = refl

-- one byte more, by what it is
step-digit : (b : ℕ) (bs : List ℕ) (v k : ℕ) → v < 2 ^ (4 * k) → k < 10 → digit_of b < 16
    → parsed (fed_all (line (v * 16 + digit_of b) (k + 1)) bs) ≡ rest_of (v * 16 + digit_of b) (k + 1) bs → parsed (fed_all (line v k) (b ∷ bs)) ≡ rest_of v k (b ∷ bs)
unfolding fed_all rest_of all_digits value_from
step-digit b bs v k h r d ih =
    let e : k + 1 + length bs ≡ k + suc (length bs) = omega arith in
    rw (fed-digit v k b h r d, lt-ltb (digit_of b) 16 d, ← e) ih

says_nothing : parsed (line 0 11) ≡ None
unfolding parsed
says_nothing = refl

-- a byte that spoils the line, and what is said of the line then
spoils : (l : Line) (b : ℕ) (bs : List ℕ) → fed l b ≡ line 0 11 → parsed (fed_all l (b ∷ bs)) ≡ None
unfolding fed_all
spoils l b bs e = ap parsed (ap (λ (m : Line). fed_all m bs) e ∙ spoilt bs) ∙ says_nothing

rest-other : (b : ℕ) (bs : List ℕ) (v k : ℕ) → 16 ≤ digit_of b → rest_of v k (b ∷ bs) ≡ None
unfolding rest_of all_digits
rest-other b bs v k d = rw (le-ltb (digit_of b) 16 d) (go (eqb (k + suc (length bs)) 10))
  where
    go : (t : Bool) → cond (t && false) (if_right (order_of (value_from v (b ∷ bs)))) None ≡ None
    go true = refl
    go false = refl

rest-full : (b : ℕ) (bs : List ℕ) (v : ℕ) → rest_of v 10 (b ∷ bs) ≡ None
unfolding rest_of
rest-full b bs v = rw (ne_eqb (10 + suc (length bs)) 10 (λ e. omega arith))

step_other : (b : ℕ) (bs : List ℕ) (v k : ℕ) → 16 ≤ digit_of b → parsed (fed_all (line v k) (b ∷ bs)) ≡ rest_of v k (b ∷ bs)
step_other b bs v k d = spoils (line v k) b bs (fed-other v k b d) ∙ sym (rest-other b bs v k d)

step-full : (b : ℕ) (bs : List ℕ) (v : ℕ) → parsed (fed_all (line v 10) (b ∷ bs)) ≡ rest_of v 10 (b ∷ bs)
step-full b bs v = spoils (line v 10) b bs (fed-full v b) ∙ sym (rest-full b bs v)

rest : (bs : List ℕ) (v k : ℕ) → v < 2 ^ (4 * k) → k ≤ 10 → parsed (fed_all (line v k) bs) ≡ rest_of v k bs
unfolding fed_all rest_of parsed all_digits value_from
rest [] v k h r = rw (add-zero k) (go (eqb k 10))
  where
    go : (t : Bool) → cond t (if_right (order_of v)) None ≡ cond (t && true) (if_right (order_of v)) None
    go true = refl
    go false = refl
rest (b ∷ bs) v k h r =
    ⊎_elim
    (λ full. rw full (step-full b bs v))
    (λ more. digits (rest bs) more (ltb (digit_of b) 16) refl)
    (eq-or-lt_of_le {n = k} {m = 10} r)
  where
    digits : ((v k : ℕ) → v < 2 ^ (4 * k) → k ≤ 10 → parsed (fed_all (line v k) bs) ≡ rest_of v k bs) → k < 10
        → (t : Bool) → ltb (digit_of b) 16 ≡ t → parsed (fed_all (line v k) (b ∷ bs)) ≡ rest_of v k (b ∷ bs)
    digits ih more true e =
        let d = ltb-true (digit_of b) 16 e in
        step-digit b bs v k h more d (ih (v * 16 + digit_of b) (k + 1) (grown v k (digit_of b) h d) (omega arith))
    digits ih more false e = step_other b bs v k (ltb-false (digit_of b) 16 e)

-- read in pieces, a line says what it says as a whole
pub fed-says : (bs : List ℕ) → parsed (fed_all fresh bs) ≡ line_of bs
unfolding rest_of line_of
fed-says bs = rest bs 0 0 (lit< tt) (lit≤ tt) ∙ rw (zero-add (length bs))

-- of what is left to read, the next byte is fed first; at the end nothing is left
pub fed-next : (l : Line) (bs : List ℕ) (i : ℕ) → i < length bs → fed_all l (drop i bs) ≡ fed_all (fed l (get_or bs i 0)) (drop (i + 1) bs)
unfolding fed_all
fed-next l bs i h = rw (add-one, drop-cons bs i 0)

pub fed-end : (l : Line) (bs : List ℕ) (i : ℕ) → length bs ≤ i → fed_all l (drop i bs) ≡ l
unfolding fed_all
fed-end l bs i h = rw (drop_of_length-le bs h)

-- a line feed is no digit: fed to a line, it spoils the line for good
pub fed-feed : (l : Line) (bs : List ℕ) → fed_all (fed l 10) bs ≡ line 0 11
unfolding digit_of
fed-feed l bs = ap (λ (m : Line). fed_all m bs) (fed-other l.value l.count 10 (lit≤ tt)) ∙ spoilt bs
