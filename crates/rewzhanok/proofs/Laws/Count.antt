-- How many lines an input has, counted byte by byte. Assumes nothing.
use Prim.Native.Nat.{ℕ, suc, ◌+◌, ◌<◌, ◌≤◌}
use mathlib.Core.Path.{◌≡◌, refl, sym, ap, ◌∙◌}
use mathlib.Core.Bool.{Bool, true, false, not, cond}
use mathlib.Core.List.{List, [], ◌∷◌, ◌++◌}
use native.Mathlib.Numerals.{add-one}
use native.Mathlib.Omega.{arith}
use lib.Dec.{eqb}
use lib.ListN.{length, get_or, drop, length-append, drop_of_length-le}
use lib.Seq.{drop-cons}
use borrow.Author.Tests.{ne_eqb}
use mir.Val.{bool_byte}
use Rattle.lines.specs.Inputs.{lines_from, lines_of}

-- the lines that are left, by whether one is begun
abbrev pub left : Bool → List ℕ → ℕ
left t [] = cond t 1 0
left t (b ∷ bs) = cond (eqb b 10) 1 0 + left (not (eqb b 10)) bs

begun : List ℕ → Bool
begun line = not (eqb (length line) 0)

begun_more : (line : List ℕ) (b : ℕ) → begun (line ++ b ∷ []) ≡ true
unfolding begun
begun_more line b = rw (ne_eqb (length (line ++ b ∷ [])) 0 (λ e. omega (arith, length-append line (b ∷ []))))

left_is : (bs line : List ℕ) → length (lines_from line bs) ≡ left (begun line) bs
unfolding lines_from begun
left_is [] line = go (eqb (length line) 0)
  where
    go : (t : Bool) → length (cond t [] (line ∷ [])) ≡ cond (not t) 1 0
    go true = refl
    go false = refl
left_is (b ∷ bs) line = go (left_is bs) (eqb b 10)
  where
    go : ((line : List ℕ) → length (lines_from line bs) ≡ left (begun line) bs) → (t : Bool)
        → length (cond t (line ∷ lines_from [] bs) (lines_from (line ++ b ∷ []) bs)) ≡ cond t 1 0 + left (not t) bs
    go ih true = let q : length (lines_from [] bs) ≡ left false bs = ih [] in omega arith
    go ih false = let q : length (lines_from (line ++ b ∷ []) bs) ≡ left true bs = ih (line ++ b ∷ []) ∙ ap (λ (t : Bool). left t bs) (begun_more line b) in omega arith

pub left-all : (cs : List ℕ) → left false cs ≡ length (lines_of cs)
unfolding lines_of begun
left-all cs = sym (left_is cs [])

pub left-next : (t : Bool) (cs : List ℕ) (i : ℕ) → i < length cs
    → left t (drop i cs) ≡ cond (eqb (get_or cs i 0) 10) 1 0 + left (not (eqb (get_or cs i 0) 10)) (drop (i + 1) cs)
left-next t cs i h = rw (add-one, drop-cons cs i 0)

pub left_end : (t : Bool) (cs : List ℕ) (i : ℕ) → length cs ≤ i → left t (drop i cs) ≡ cond t 1 0
left_end t cs i h = rw (drop_of_length-le cs h)

-- 1 for a test that passes, 0 for one that fails
pub one_if : (t : Bool) (n : ℕ) → n ≡ bool_byte t → (n ≡ cond t 1 0) × (n ≤ 1)
one_if true n e = (e, omega arith)
one_if false n e = (e, omega arith)

-- never more lines than bytes
at_most : (bs : List ℕ) (t : Bool) → left t bs ≤ cond t 1 0 + length bs
at_most [] t = omega arith
at_most (b ∷ bs) t = go (at_most bs) (eqb b 10) t
  where
    go : ((t : Bool) → left t bs ≤ cond t 1 0 + length bs) → (u t : Bool) → cond u 1 0 + left (not u) bs ≤ cond t 1 0 + suc (length bs)
    go ih true t = omega (arith, ih false)
    go ih false t = omega (arith, ih true)

pub few : (cs : List ℕ) → length (lines_of cs) ≤ length cs
few cs = omega (arith, at_most cs false, left-all cs)
