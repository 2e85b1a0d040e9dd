-- Laws of marks. Assumes nothing.
use mathlib.Core.Path.{◌≡◌, refl, sym, ap, ◌∙◌}
use mathlib.Core.Logic.{◌≢◌}
use mathlib.Core.Bool.{Bool, true, false, ◌||◌, not, cond}
use mathlib.Core.List.{List, [], ◌∷◌, ◌++◌, reverse, reverse-cons}
use Prim.Native.Nat.{ℕ, zero, suc, ◌+◌, ◌<◌, ◌≤◌}
use native.Mathlib.Omega.{arith}
use native.Mathlib.Numerals.{add-one}
use lib.Dec.{eqb}
use lib.ListN.{length, get_or, set, replicate, length-set, length-replicate, get_or-replicate}
use lib.Seq.{get_or-set_same, get_or-set_other, ext_get_or}
use borrow.Author.Tests.{eq-eqb, ne_eqb, eqb-true, eqb-false}
use Rattle.words.specs.Listing.{All, Off, Distinct, Apart}
use Rattle.words.proofs.Laws.Nodes.{all_map, all_both}
use Rattle.walk.specs.Marks.{elem, is_marked, paint, unmarked, Marking, marking}

-- ---- a contract that gives marks and answer in one equation: no second answer fits it

pub one-marking : {A : Type 0} (o : Marking A) (ms ms' : List ℕ) (a a' : A) → marking ms a ≡ o → marking ms' a' ≡ o → (ms ≡ ms') × (a ≡ a')
one-marking {A} o ms ms' a a' p q =
    let e : marking ms a ≡ marking ms' a' = p ∙ sym q in
    (ap (λ (r : Marking A). r.marks) e, ap (λ (r : Marking A). r.result) e)

-- ---- one of the nodes, or none of them

pub false-true : false ≡ true → ⊥
false-true z = let o : ◌≡◌ {A = ℕ} 0 1 = ap (λ (b : Bool). cond {A = ℕ} b 1 0) z in omega arith

pub elem-off : (x : ℕ) (xs : List ℕ) → elem x xs ≡ false → Off x xs
elem-off x [] h = tt
elem-off x (y ∷ ys) h = go (eqb x y) refl h (elem-off x ys)
  where
    go : (b : Bool) → eqb x y ≡ b → (eqb x y || elem x ys) ≡ false → (elem x ys ≡ false → Off x ys) → (y ≢ x) × Off x ys
    go true e k r = absurd (false-true (sym (rw e at k)))
    go false e k r = (λ z. eqb-false x y e (sym z), r (rw e at k))

pub off-elem : (x : ℕ) (xs : List ℕ) → Off x xs → elem x xs ≡ false
off-elem x [] h = refl
off-elem x (y ∷ ys) h = rw (ne_eqb x y (λ e. h.0 (sym e))) (off-elem x ys h.1)

pub elem-append : (x : ℕ) (xs ys : List ℕ) → elem x (xs ++ ys) ≡ (elem x xs || elem x ys)
elem-append x [] ys = refl
elem-append x (y ∷ xs) ys = go (eqb x y) (elem-append x xs ys)
  where
    go : (b : Bool) → elem x (xs ++ ys) ≡ (elem x xs || elem x ys) → (b || elem x (xs ++ ys)) ≡ (b || elem x xs || elem x ys)
    go true e = refl
    go false e = e

pub elem-reverse : (x : ℕ) (xs : List ℕ) → elem x (reverse xs) ≡ elem x xs
elem-reverse x [] = refl
elem-reverse x (y ∷ xs) = rw (reverse-cons y xs, elem-append x (reverse xs) (y ∷ []), elem-reverse x xs) (swap (elem x xs) (eqb x y))
  where
    swap : (a b : Bool) → (a || (b || false)) ≡ (b || a)
    swap true true = refl
    swap true false = refl
    swap false true = refl
    swap false false = refl

-- every one of them is one of them
pub all-elem : (xs : List ℕ) → All (λ x. elem x xs ≡ true) xs
all-elem [] = tt
all-elem (x ∷ xs) =
    (rw (eq-eqb x x refl), all_map (λ y. elem y xs ≡ true) (λ y. elem y (x ∷ xs) ≡ true) (λ y h. or_right (eqb y x) (elem y xs) h) xs (all-elem xs))
  where
    or_right : (a b : Bool) → b ≡ true → (a || b) ≡ true
    or_right true b h = refl
    or_right false b h = h

-- ---- painting

pub paint-length : (ns : List ℕ) (v : ℕ) (xs : List ℕ) → length (paint ns v xs) ≡ length ns
unfolding paint
paint-length ns v [] = refl
paint-length ns v (x ∷ xs) = length-set (paint ns v xs) x v ∙ paint-length ns v xs

-- what stands at a place afterwards
pub paint-at : (ns : List ℕ) (v : ℕ) (xs : List ℕ) (i : ℕ) → i < length ns → get_or (paint ns v xs) i 0 ≡ cond (elem i xs) v (get_or ns i 0)
unfolding paint
paint-at ns v [] i h = refl
paint-at ns v (x ∷ xs) i h = go (paint-at ns v xs i h) (eqb i x) refl
  where
    go : get_or (paint ns v xs) i 0 ≡ cond (elem i xs) v (get_or ns i 0) → (b : Bool) → eqb i x ≡ b
        → get_or (set (paint ns v xs) x v) i 0 ≡ cond (eqb i x || elem i xs) v (get_or ns i 0)
    go ih true e =
        let d : x ≡ i = sym (eqb-true i x e) in
        rw (e, d) (get_or-set_same (paint ns v xs) i v 0 (rw (paint-length ns v xs) h))
    go ih false e = rw e (get_or-set_other (paint ns v xs) x i v 0 (eqb-false i x e) ∙ ih)

-- in what order does not matter
pub paint-reverse : (ns : List ℕ) (v : ℕ) (xs : List ℕ) → paint ns v (reverse xs) ≡ paint ns v xs
paint-reverse ns v xs =
    ext_get_or 0 (paint ns v (reverse xs)) (paint ns v xs) (paint-length ns v (reverse xs) ∙ sym (paint-length ns v xs))
    (λ i h.
    let r : i < length ns = rw (paint-length ns v (reverse xs)) at h in
    paint-at ns v (reverse xs) i r ∙ ap (λ (b : Bool). cond b v (get_or ns i 0)) (elem-reverse i xs) ∙ sym (paint-at ns v xs i r))

-- each of the nodes has the number, and no other place is changed
pub paint-on : (ns : List ℕ) (v : ℕ) (xs : List ℕ) → All (λ x. x < length ns) xs → All (λ x. get_or (paint ns v xs) x 0 ≡ v) xs
paint-on ns v xs r =
    all_map (λ x. (x < length ns) × (elem x xs ≡ true)) (λ x. get_or (paint ns v xs) x 0 ≡ v)
    (λ x h. paint-at ns v xs x h.0 ∙ ap (λ (b : Bool). cond b v (get_or ns x 0)) h.1) xs
    (all_both (λ x. x < length ns) (λ x. elem x xs ≡ true) xs r (all-elem xs))

pub paint-off : (ns : List ℕ) (v : ℕ) (xs : List ℕ) (i : ℕ) → Off i xs → get_or (paint ns v xs) i 0 ≡ get_or ns i 0
unfolding paint
paint-off ns v [] i o = refl
paint-off ns v (x ∷ xs) i o = get_or-set_other (paint ns v xs) x i v 0 (λ e. o.0 (sym e)) ∙ paint-off ns v xs i o.1

-- ---- which nodes are marked

pub none-marked : (n x : ℕ) → is_marked (replicate n 0) x ≡ false
unfolding is_marked
none-marked zero x = refl
none-marked (suc n) zero = refl
none-marked (suc n) (suc x) = none-marked n x

-- after painting with a mark that is not 0: those that were, and those that were met
pub marked-or-met : (ms : List ℕ) (m : ℕ) (met : List ℕ) (x : ℕ) → m ≢ 0 → x < length ms
    → is_marked (paint ms m met) x ≡ (is_marked ms x || elem x met)
unfolding is_marked
marked-or-met ms m met x nz h = rw (paint-at ms m met x h) (go (elem x met))
  where
    either : (a : Bool) → a ≡ (a || false)
    either true = refl
    either false = refl

    always : (a : Bool) → true ≡ (a || true)
    always true = refl
    always false = refl

    go : (b : Bool) → not (eqb (cond b m (get_or ms x 0)) 0) ≡ (not (eqb (get_or ms x 0) 0) || b)
    go true = rw (ne_eqb m 0 nz) (always (not (eqb (get_or ms x 0) 0)))
    go false = either (not (eqb (get_or ms x 0) 0))

-- no node of xs has a mark
abbrev pub Clean : List ℕ → List ℕ → Type 0
Clean ms xs = All (λ x. is_marked ms x ≡ false) xs

pub unmarked-clean : (ms xs : List ℕ) → Clean (unmarked ms) xs
unmarked-clean ms [] = tt
unmarked-clean ms (x ∷ xs) = (none-marked (length ms) x, unmarked-clean ms xs)

-- after a list xs is marked, the nodes without a mark are those that had none and are not on it
pub clean_after : (ms : List ℕ) (m : ℕ) (xs ys : List ℕ) → m ≢ 0 → All (λ y. y < length ms) ys → Clean (paint ms m xs) ys
    → Clean ms ys × Apart ys xs
clean_after ms m xs [] nz r c = (tt, tt)
clean_after ms m xs (y ∷ ys) nz r c =
    let k = neither (is_marked ms y) (elem y xs) (sym (marked-or-met ms m xs y nz r.0) ∙ c.0) in
    let rest = clean_after ms m xs ys nz r.1 c.1 in
    ((k.0, rest.0), (elem-off y xs k.1, rest.1))
  where
    neither : (a b : Bool) → (a || b) ≡ false → (a ≡ false) × (b ≡ false)
    neither true b h = absurd (false-true (sym h))
    neither false b h = (refl, h)

pub clean-before : (ms : List ℕ) (m : ℕ) (xs ys : List ℕ) → m ≢ 0 → All (λ y. y < length ms) ys → Clean ms ys → Apart ys xs
    → Clean (paint ms m xs) ys
clean-before ms m xs [] nz r c a = tt
clean-before ms m xs (y ∷ ys) nz r c a =
    (marked-or-met ms m xs y nz r.0 ∙ rw c.0 (off-elem y xs a.0), clean-before ms m xs ys nz r.1 c.1 a.1)

-- ---- different nodes are no more than there are

total : List ℕ → ℕ
total [] = 0
total (x ∷ xs) = x + total xs

total-none : (n : ℕ) → total (replicate n 0) ≡ 0
unfolding total
total-none zero = refl
total-none (suc n) = let r : total (replicate n 0) ≡ 0 = total-none n in omega arith

total-set : (l : List ℕ) (i : ℕ) → i < length l → get_or l i 0 ≡ 0 → total (set l i 1) ≡ total l + 1
unfolding total
total-set [] i h e = absurd (omega arith)
total-set (x ∷ xs) zero h e = omega arith
total-set (x ∷ xs) (suc i) h e = let r : total (set xs i 1) ≡ total xs + 1 = total-set xs i (omega arith) e in omega arith

total-le : (l : List ℕ) → ((i : ℕ) → i < length l → get_or l i 0 ≤ 1) → total l ≤ length l
unfolding total
total-le [] h = omega arith
total-le (x ∷ xs) h =
    let a : x ≤ 1 = h 0 (omega arith) in
    let r : total xs ≤ length xs = total-le xs (λ i k. h (suc i) (omega arith)) in
    omega arith

module _ (n : ℕ) where
  none : List ℕ
  none = replicate n 0

  long : length none ≡ n
  unfolding none
  long = length-replicate n 0

  at : (xs : List ℕ) (i : ℕ) → i < n → get_or (paint none 1 xs) i 0 ≡ cond (elem i xs) 1 0
  unfolding none
  at xs i h = paint-at none 1 xs i (rw long h) ∙ ap (λ (k : ℕ). cond (elem i xs) 1 k) (get_or-replicate n i 0 0 h)

  total-paint : (xs : List ℕ) → Distinct xs → All (λ x. x < n) xs → total (paint none 1 xs) ≡ length xs
  unfolding paint none
  total-paint [] d r = total-none n
  total-paint (x ∷ xs) d r =
      total-set (paint none 1 xs) x (rw (paint-length none 1 xs, long) r.0)
      (at xs x r.0 ∙ ap (λ (b : Bool). cond {A = ℕ} b 1 0) (off-elem x xs d.0))
      ∙ ap (λ (k : ℕ). k + 1) (total-paint xs d.1 r.1) ∙ add-one (length xs)

  at_most_one : (b : Bool) → cond {A = ℕ} b 1 0 ≤ 1
  at_most_one true = omega arith
  at_most_one false = omega arith

  pub pigeons : (xs : List ℕ) → Distinct xs → All (λ x. x < n) xs → length xs ≤ n
  pigeons xs d r =
      let e = total-paint xs d r in
      let l : length (paint none 1 xs) ≡ n = paint-length none 1 xs ∙ long in
      let k : total (paint none 1 xs) ≤ length (paint none 1 xs) =
      total-le (paint none 1 xs) (λ i h. rw (at xs i (rw l at h)) (at_most_one (elem i xs))) in
      omega arith
