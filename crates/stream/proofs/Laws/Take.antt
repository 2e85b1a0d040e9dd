-- The rest of a line, byte by byte and ten digits at once. Assumes nothing.
use Prim.Native.Nat.{ℕ, suc, ◌+◌, ◌-◌, ◌<◌, ◌≤◌}
use mathlib.Core.Path.{◌≡◌, refl, sym, ap, ◌∙◌}
use mathlib.Core.Bool.{true, false}
use mathlib.Core.List.{List, [], ◌∷◌, ◌++◌}
use native.Mathlib.Numerals.{add-one}
use native.Mathlib.Omega.{arith}
use lib.Dec.{eqb}
use lib.ListN.{length, get_or, take, drop, take-append-drop, length-drop, drop_of_length-le}
use lib.Seq.{drop-cons, drop-drop, length-take-le}
use borrow.Author.Tests.{eq-eqb, ne_eqb}
use Rattle.lines.specs.declared.line.Line.{Line}
use Rattle.lines.specs.Lines.{fed, fed_all}
use Rattle.lines.proofs.Laws.Lines.{fed-feed}
use Rattle.stream.specs.Stream.{took, take_from}

-- ---- one byte

pub take-feed : (l : Line) (i b : ℕ) (bs : List ℕ) → eqb b 10 ≡ true → take_from l i (b ∷ bs) ≡ took l (i + 1) true
unfolding take_from
take-feed l i b bs e = rw e

pub take-other : (l : Line) (i b : ℕ) (bs : List ℕ) → eqb b 10 ≡ false → take_from l i (b ∷ bs) ≡ take_from (fed l b) (i + 1) bs
unfolding take_from
take-other l i b bs e = rw e

-- the same at a place of an input
pub at-end : (l : Line) (xs : List ℕ) (i : ℕ) → length xs ≤ i → take_from l i (drop i xs) ≡ took l i false
unfolding take_from
at-end l xs i h = rw (drop_of_length-le xs h)

pub at-feed : (l : Line) (xs : List ℕ) (i : ℕ) → i < length xs → get_or xs i 0 ≡ 10 → take_from l i (drop i xs) ≡ took l (i + 1) true
at-feed l xs i h e = rw (drop-cons xs i 0 h) (take-feed l i (get_or xs i 0) (drop (suc i) xs) (eq-eqb (get_or xs i 0) 10 e))

pub at_other : (l : Line) (xs : List ℕ) (i : ℕ) → i < length xs → (get_or xs i 0 ≡ 10 → ⊥)
    → take_from l i (drop i xs) ≡ take_from (fed l (get_or xs i 0)) (i + 1) (drop (i + 1) xs)
at_other l xs i h e =
    rw (drop-cons xs i 0 h) (take-other l i (get_or xs i 0) (drop (suc i) xs) (ne_eqb (get_or xs i 0) 10 e) ∙ ap (λ (n : ℕ). take_from (fed l (get_or xs i 0)) (i + 1) (drop n xs)) (sym (add-one i)))

-- ---- ten digits at once

-- bytes that make ten digits have no line feed among them
pub whole : (bs : List ℕ) (l : Line) (i : ℕ) (rest : List ℕ) → (fed_all l bs).count ≡ 10 → take_from l i (bs ++ 10 ∷ rest) ≡ took (fed_all l bs) (i + length bs + 1) true
unfolding fed_all
whole [] l i rest h = take-feed l i 10 rest refl ∙ ap (λ (n : ℕ). took l n true) (omega arith)
whole (b ∷ bs) l i rest h =
    take-other l i b (bs ++ 10 ∷ rest) (ne_eqb b 10 (λ e. feeds l b bs h e))
    ∙ whole bs (fed l b) (i + 1) rest h
    ∙ ap (λ (n : ℕ). took (fed_all (fed l b) bs) n true) (omega arith)
  where
    feeds : (l : Line) (b : ℕ) (bs : List ℕ) → (fed_all (fed l b) bs).count ≡ 10 → b ≡ 10 → ⊥
    feeds l b bs h e = let z : (fed_all (fed l 10) bs).count ≡ 10 = rw e at h in omega (arith, z, ap (λ (m : Line). m.count) (fed-feed l bs))

pub at-whole : (l : Line) (xs : List ℕ) (i : ℕ) → i + 10 < length xs → get_or xs (i + 10) 0 ≡ 10 → (m : Line) → m ≡ fed_all l (take ((i + 10) - i) (drop i xs)) → m.count ≡ 10
    → took m (i + 10 + 1) true ≡ take_from l i (drop i xs)
at-whole l xs i h e m f k =
    let n : (i + 10) - i ≡ 10 = omega arith in
    let g : m ≡ fed_all l (take 10 (drop i xs)) = rw n at f in
    let p : length (take 10 (drop i xs)) ≡ 10 = length-take-le 10 (drop i xs) (simp length-drop (omega arith)) in
    let q : drop i xs ≡ take 10 (drop i xs) ++ 10 ∷ drop (suc (i + 10)) xs =
    sym (take-append-drop 10 (drop i xs))
    ∙ ap (λ (ys : List ℕ). take 10 (drop i xs) ++ ys)
    (drop-drop 10 i xs ∙ drop-cons xs (i + 10) 0 h ∙ ap (λ (b : ℕ). b ∷ drop (suc (i + 10)) xs) e) in
    let r = whole (take 10 (drop i xs)) l i (drop (suc (i + 10)) xs) (ap (λ (x : Line). x.count) (sym g) ∙ k) in
    sym (ap (take_from l i) q ∙ r ∙ ap (λ (n : ℕ). took (fed_all l (take 10 (drop i xs))) (i + n + 1) true) p ∙ ap (λ (x : Line). took x (i + 10 + 1) true) (sym g))
