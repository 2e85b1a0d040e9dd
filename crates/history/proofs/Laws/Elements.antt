-- To be an element is to stand there more than no times; and the listings of all lists together. Assumes nothing.
use mathlib.Core.Path.{◌≡◌, refl, sym, ap, ◌∙◌}
use mathlib.Core.Logic.{⊎_elim}
use mathlib.Core.Bool.{Bool, true, false, ◌||◌}
use mathlib.Core.List.{List, [], ◌∷◌, map}
use Prim.Native.Nat.{ℕ, suc, ◌+◌, ◌<◌, ◌≤◌}
use native.Mathlib.Omega.{arith}
use lib.Bits.{bit_xor}
use lib.Dec.{eqb, ltb}
use lib.ListN.{length, get_or, length-append}
use borrow.Author.Tests.{eq-eqb, lt-ltb}
use Rattle.words.specs.Listing.{All, Listing}
use Rattle.words.specs.Afresh.{joined}
use Rattle.words.proofs.Laws.Afresh.{Chains}
use Rattle.words.proofs.Laws.Cases.{below_or_not}
use Rattle.ends.specs.declared.Ends.{Ends}
use Rattle.cursor.specs.Plain.{Place, at_null, nodes}
use Rattle.walk.specs.Marks.{elem}
use Rattle.audit.specs.Audit.{bit}
use Rattle.audit.specs.Listed.{Listed}
use Rattle.desk.specs.declared.Row.{Row}
use Rattle.desk.specs.Step.{fresh_row, ends_of_all}
use Rattle.history.specs.History.{times, on_lists, size}
use Rattle.history.proofs.Laws.Counts.{times-append}

pub elem-times : (x : ℕ) (xs : List ℕ) → elem x xs ≡ ltb 0 (times x xs)
unfolding times bit
elem-times x [] = refl
elem-times x (y ∷ xs) = go (eqb x y) (elem-times x xs)
  where
    go : (b : Bool) → elem x xs ≡ ltb 0 (times x xs) → (b || elem x xs) ≡ ltb 0 (bit b + times x xs)
    go true e = sym (lt-ltb 0 (1 + times x xs) (omega arith))
    go false e = e ∙ ap (ltb 0) (none (times x xs))
      where
        none : (k : ℕ) → k ≡ 0 + k
        none k = omega arith

-- all lists at once
pub times-joined : (x : ℕ) (zs : List Place) → times x (joined (map nodes zs)) ≡ on_lists x zs
unfolding times on_lists
times-joined x [] = refl
times-joined x (z ∷ zs) =
    times-append x (nodes z) (joined (map nodes zs)) ∙ ap (λ (k : ℕ). times x (nodes z) + k) (times-joined x zs)

pub length-joined : (zs : List Place) → length (joined (map nodes zs)) ≡ size zs
unfolding size
length-joined [] = refl
length-joined (z ∷ zs) = length-append (nodes z) (joined (map nodes zs)) ∙ ap (λ (k : ℕ). length (nodes z) + k) (length-joined zs)

-- listings one by one are the listings of the directory
pub all_listed : (ws : List ℕ) (rs : List Row) (zs : List Place) → length rs ≡ length zs
    → ((l : ℕ) → l < length zs → Listing bit_xor ws (get_or rs l fresh_row).ends.head.0 (get_or rs l fresh_row).ends.tail.0 (nodes (get_or zs l (at_null []))))
    → Listed ws (ends_of_all rs) (map nodes zs)
all_listed ws [] [] e h = tt
all_listed ws [] (z ∷ zs) e h = omega arith
all_listed ws (x ∷ rs) [] e h = omega arith
all_listed ws (x ∷ rs) (z ∷ zs) e h = (h 0 (omega arith), all_listed ws rs zs (omega arith) (λ l r. h (suc l) (omega arith)))

pub listed-chains : (ws : List ℕ) (es : List Ends) (xss : List (List ℕ)) → Listed ws es xss → Chains bit_xor ws xss
listed-chains ws [] [] h = tt
listed-chains ws [] (xs ∷ xss) h = absurd h
listed-chains ws (e ∷ es) [] h = absurd h
listed-chains ws (e ∷ es) (xs ∷ xss) h = (h.0.chain, listed-chains ws es xss h.1)

-- nodes that stand nowhere past n are below it
pub times-ranged : (n : ℕ) (xs : List ℕ) → ((x : ℕ) → n ≤ x → times x xs ≡ 0) → All (λ x. x < n) xs
unfolding times bit
times-ranged n [] h = tt
times-ranged n (y ∷ xs) h = (⊎_elim (λ r. r) (λ r. absurd (here (h y r))) (below_or_not y n), times-ranged n xs (λ x r. rest x (h x r)))
  where
    here : bit (eqb y y) + times y xs ≡ 0 → ⊥
    here k = let b : bit (eqb y y) ≡ 1 = rw (eq-eqb y y refl) in omega arith

    rest : (x : ℕ) → bit (eqb x y) + times x xs ≡ 0 → times x xs ≡ 0
    rest x k = omega arith
