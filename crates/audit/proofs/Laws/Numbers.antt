-- The two numbers of the audit: as many nodes are marked as the sequences have, and what is stranded is off all of them.
-- Assumes nothing.
use Rattle.std.proofs.Common.{◌≡◌, ℕ, zero, suc, ◌+◌, ◌<◌, Bool, false, not, ◌&&◌, ◌||◌, eqb, ◌≢◌, List, [], ◌∷◌, length, get_or, refl, ap, ◌∙◌, ⊎_elim, arith, eq-eqb, ne_eqb}
use lib.ListN.{length-replicate}
use Rattle.words.specs.Names.{is_linked}
use Rattle.words.specs.Listing.{All, Distinct}
use Rattle.words.specs.Afresh.{joined}
use Rattle.words.proofs.Laws.Cases.{same_or_not}
use Rattle.walk.specs.Marks.{elem, is_marked, unmarked}
use Rattle.walk.proofs.Laws.Marks.{off-elem, none-marked}
use Rattle.audit.specs.Audit.{bit, tally, is_stranded}
use Rattle.audit.specs.Listed.{paint_all, is_stray}
use Rattle.audit.proofs.Laws.Sequences.{paint-all-marked}

-- ---- counting

-- tests that agree below n count the same
pub tally-same : (n : ℕ) (p q : ℕ → Bool) → ((i : ℕ) → i < n → p i ≡ q i) → tally n p ≡ tally n q
unfolding tally
tally-same zero p q h = refl
tally-same (suc n) p q h =
    ap (λ (k : ℕ). k + bit (p n)) (tally-same n p q (λ i l. h i (omega arith)))
    ∙ ap (λ (b : Bool). tally n q + bit b) (h n (omega arith))

tally-add : (n : ℕ) (p q r : ℕ → Bool) → ((i : ℕ) → bit (r i) ≡ bit (p i) + bit (q i)) → tally n r ≡ tally n p + tally n q
unfolding tally
tally-add zero p q r h = refl
tally-add (suc n) p q r h =
    let a : tally n r ≡ tally n p + tally n q = tally-add n p q r h in
    let b : bit (r n) ≡ bit (p n) + bit (q n) = h n in
    omega arith

tally-never : (n : ℕ) (p : ℕ → Bool) → ((i : ℕ) → i < n → p i ≡ false) → tally n p ≡ 0
unfolding tally bit
tally-never zero p h = refl
tally-never (suc n) p h =
    let a : tally n p ≡ 0 = tally-never n p (λ i l. h i (omega arith)) in
    ap (λ (b : Bool). tally n p + bit b) (h n (omega arith)) ∙ ap (λ (k : ℕ). k + 0) a

tally-one : (n y : ℕ) → y < n → tally n (λ i. eqb i y) ≡ 1
unfolding tally bit
tally-one zero y h = absurd (omega arith)
tally-one (suc n) y h = ⊎_elim (last (λ l. tally-never n (λ i. eqb i y) (λ i k. ne_eqb i y (apart i k l)))) (lower (tally-one n y)) (same_or_not n y)
  where
    apart : (i : ℕ) → i < n → n ≡ y → i ≢ y
    apart i k l e = omega arith

    last : (n ≡ y → tally n (λ i. eqb i y) ≡ 0) → n ≡ y → tally n (λ i. eqb i y) + bit (eqb n y) ≡ 1
    last f e = ap (λ (k : ℕ). k + bit (eqb n y)) (f e) ∙ ap (λ (b : Bool). 0 + bit b) (eq-eqb n y e)

    lower : (y < n → tally n (λ i. eqb i y) ≡ 1) → n ≢ y → tally n (λ i. eqb i y) + bit (eqb n y) ≡ 1
    lower f ne = ap (λ (k : ℕ). k + bit (eqb n y)) (f (omega arith)) ∙ ap (λ (b : Bool). 1 + bit b) (ne_eqb n y ne)

-- the nodes of a sequence, each once
pub tally-elem : (n : ℕ) (ys : List ℕ) → Distinct ys → All (λ y. y < n) ys → tally n (λ i. elem i ys) ≡ length ys
unfolding bit
tally-elem n [] d r = tally-never n (λ i. false) (λ i l. refl)
tally-elem n (y ∷ ys) d r =
    tally-add n (λ i. eqb i y) (λ i. elem i ys) (λ i. elem i (y ∷ ys)) (λ i. split i)
    ∙ ap (λ (k : ℕ). k + tally n (λ i. elem i ys)) (tally-one n y r.0)
    ∙ ap (λ (k : ℕ). 1 + k) (tally-elem n ys d.1 r.1) ∙ more (length ys)
  where
    more : (k : ℕ) → 1 + k ≡ suc k
    more k = omega arith

    split : (i : ℕ) → bit (elem i (y ∷ ys)) ≡ bit (eqb i y) + bit (elem i ys)
    split i = ⊎_elim same other (same_or_not i y)
      where
        same : i ≡ y → bit (eqb i y || elem i ys) ≡ bit (eqb i y) + bit (elem i ys)
        same e = let o : elem i ys ≡ false = ap (λ (j : ℕ). elem j ys) e ∙ off-elem y ys d.0 in rw (eq-eqb i y e, o)

        other : i ≢ y → bit (eqb i y || elem i ys) ≡ bit (eqb i y) + bit (elem i ys)
        other e = rw (ne_eqb i y e) (omega arith)

-- a test that passes at the nodes of a sequence, and at no other
pub tally-is : (n : ℕ) (p : ℕ → Bool) (ys : List ℕ) → Distinct ys → All (λ y. y < n) ys → ((i : ℕ) → i < n → p i ≡ elem i ys) → tally n p ≡ length ys
tally-is n p ys d r h = tally-same n p (λ i. elem i ys) h ∙ tally-elem n ys d r

-- ---- nodes on lists, and stranded nodes

module _ (ws ms : List ℕ) (xss : List (List ℕ)) (long : length ms ≡ length ws) where
  marked : (i : ℕ) → i < length ws → is_marked (paint_all (unmarked ms) 0 xss) i ≡ elem i (joined xss)
  marked i h =
      let l : length (unmarked ms) ≡ length ws = length-replicate {A = ℕ} (length ms) 0 ∙ long in
      paint-all-marked (unmarked ms) 0 xss i (omega arith) ∙ ap (λ (b : Bool). b || elem i (joined xss)) (none-marked (length ms) i)

  pub on-lists-is : Distinct (joined xss) → All (λ x. x < length ws) (joined xss)
      → tally (length ws) (is_marked (paint_all (unmarked ms) 0 xss)) ≡ length (joined xss)
  on-lists-is d r = tally-is (length ws) (is_marked (paint_all (unmarked ms) 0 xss)) (joined xss) d r marked

  pub stranded-is : tally (length ws) (is_stranded ws (paint_all (unmarked ms) 0 xss)) ≡ tally (length ws) (is_stray ws (joined xss))
  unfolding is_stranded is_stray
  stranded-is =
      tally-same (length ws) (is_stranded ws (paint_all (unmarked ms) 0 xss)) (is_stray ws (joined xss))
      (λ i h. ap (λ (b : Bool). not b && is_linked (get_or ws i 0)) (marked i h))
