-- Sequences of nodes, one a list: what they share, and what is painted with them. Assumes nothing.
use Rattle.std.proofs.Common.{◌≡◌, ℕ, suc, ◌+◌, ◌<◌, Bool, true, false, ◌||◌, ◌≢◌, List, [], ◌∷◌, ◌++◌, length, get_or, sym, refl, ap, ◌∙◌, arith}
use Rattle.words.specs.Listing.{All, Off, Distinct, Apart}
use Rattle.words.specs.Afresh.{joined}
use Rattle.words.proofs.Laws.Nodes.{all_map, all_both, all_append, all_left, all_right, distinct_append, distinct-right, distinct_apart}
use Rattle.ends.specs.declared.Ends.{Ends}
use Rattle.ends.proofs.Laws.Holds.{listing-ends-hold}
use Rattle.walk.specs.Marks.{elem, is_marked, paint}
use Rattle.walk.proofs.Laws.Marks.{elem-append, paint-length, paint-on, paint-off, marked-or-met}
use Rattle.audit.specs.Listed.{AllHold, Listed, ApartFrom, AllApart, paint_all}

-- ---- apart, two by two, and distinct as a whole

pub apart-append : (xs ys zs : List ℕ) → Apart xs ys → Apart xs zs → Apart xs (ys ++ zs)
apart-append xs ys zs a b =
    all_map (λ x. Off x ys × Off x zs) (λ x. Off x (ys ++ zs)) (λ x o. all_append (λ y. y ≢ x) ys zs o.0 o.1) xs
    (all_both (λ x. Off x ys) (λ x. Off x zs) xs a b)

pub apart-left : (xs ys zs : List ℕ) → Apart xs (ys ++ zs) → Apart xs ys
apart-left xs ys zs a = all_map (λ x. Off x (ys ++ zs)) (λ x. Off x ys) (λ x o. all_left (λ y. y ≢ x) ys zs o) xs a

pub apart-right : (xs ys zs : List ℕ) → Apart xs (ys ++ zs) → Apart xs zs
apart-right xs ys zs a = all_map (λ x. Off x (ys ++ zs)) (λ x. Off x zs) (λ x o. all_right (λ y. y ≢ x) ys zs o) xs a

apart_none : (xs : List ℕ) → Apart xs []
apart_none [] = tt
apart_none (x ∷ xs) = (tt, apart_none xs)

pub apart-joined : (xs : List ℕ) (xss : List (List ℕ)) → ApartFrom xs xss → Apart xs (joined xss)
apart-joined xs [] a = apart_none xs
apart-joined xs (ys ∷ xss) a = apart-append xs ys (joined xss) a.0 (apart-joined xs xss a.1)

pub joined-apart : (xs : List ℕ) (xss : List (List ℕ)) → Apart xs (joined xss) → ApartFrom xs xss
joined-apart xs [] a = tt
joined-apart xs (ys ∷ xss) a = (apart-left xs ys (joined xss) a, joined-apart xs xss (apart-right xs ys (joined xss) a))

-- listings of which no two share a node are distinct as a whole
pub apart_distinct : (ws : List ℕ) (es : List Ends) (xss : List (List ℕ)) → Listed ws es xss → AllApart xss → Distinct (joined xss)
apart_distinct ws [] [] l a = tt
apart_distinct ws [] (xs ∷ xss) l a = absurd l
apart_distinct ws (e ∷ es) [] l a = absurd l
apart_distinct ws (e ∷ es) (xs ∷ xss) l a =
    distinct_append xs (joined xss) l.0.distinct (apart_distinct ws es xss l.1 a.1) (apart-joined xs xss a.0)

-- and the other way round
pub distinct-all-apart : (xss : List (List ℕ)) → Distinct (joined xss) → AllApart xss
distinct-all-apart [] d = tt
distinct-all-apart (xs ∷ xss) d =
    (joined-apart xs xss (distinct_apart xs (joined xss) d), distinct-all-apart xss (distinct-right xs (joined xss) d))

-- ---- listings

pub listed-ranged : (ws : List ℕ) (es : List Ends) (xss : List (List ℕ)) → Listed ws es xss → All (λ x. x < length ws) (joined xss)
listed-ranged ws [] [] l = tt
listed-ranged ws [] (xs ∷ xss) l = absurd l
listed-ranged ws (e ∷ es) [] l = absurd l
listed-ranged ws (e ∷ es) (xs ∷ xss) l =
    all_append (λ x. x < length ws) xs (joined xss) l.0.ranged (listed-ranged ws es xss l.1)

pub listed-hold : (ws : List ℕ) (es : List Ends) (xss : List (List ℕ)) → Listed ws es xss → AllHold ws es
listed-hold ws [] [] l = tt
listed-hold ws [] (xs ∷ xss) l = absurd l
listed-hold ws (e ∷ es) [] l = absurd l
listed-hold ws (e ∷ es) (xs ∷ xss) l = (listing-ends-hold ws e xs l.0, listed-hold ws es xss l.1)

-- ---- marks

pub no_zero : (k : ℕ) → k + 1 ≢ 0
no_zero k e = omega arith

pub paint-all-length : (ms : List ℕ) (k : ℕ) (xss : List (List ℕ)) → length (paint_all ms k xss) ≡ length ms
unfolding paint_all
paint-all-length ms k [] = refl
paint-all-length ms k (xs ∷ xss) = paint-all-length (paint ms (k + 1) xs) (k + 1) xss ∙ paint-length ms (k + 1) xs

-- which nodes are marked: those that were, and those of the sequences
pub paint-all-marked : (ms : List ℕ) (k : ℕ) (xss : List (List ℕ)) (i : ℕ) → i < length ms
    → is_marked (paint_all ms k xss) i ≡ (is_marked ms i || elem i (joined xss))
unfolding paint_all
paint-all-marked ms k [] i h = or-false (is_marked ms i)
  where
    or-false : (b : Bool) → b ≡ (b || false)
    or-false true = refl
    or-false false = refl
paint-all-marked ms k (xs ∷ xss) i h =
    paint-all-marked (paint ms (k + 1) xs) (k + 1) xss i (rw (paint-length ms (k + 1) xs) h)
    ∙ ap (λ (b : Bool). b || elem i (joined xss)) (marked-or-met ms (k + 1) xs i (no_zero k) h)
    ∙ assoc (is_marked ms i) (elem i xs) (elem i (joined xss))
    ∙ ap (λ (b : Bool). is_marked ms i || b) (sym (elem-append i xs (joined xss)))
  where
    assoc : (a b c : Bool) → ((a || b) || c) ≡ (a || (b || c))
    assoc true b c = refl
    assoc false b c = refl

-- a node on none of them keeps its mark
pub paint-all-off : (ms : List ℕ) (k : ℕ) (xss : List (List ℕ)) (i : ℕ) → Off i (joined xss) → get_or (paint_all ms k xss) i 0 ≡ get_or ms i 0
unfolding paint_all
paint-all-off ms k [] i o = refl
paint-all-off ms k (xs ∷ xss) i o =
    paint-all-off (paint ms (k + 1) xs) (k + 1) xss i (all_right (λ y. y ≢ i) xs (joined xss) o)
    ∙ paint-off ms (k + 1) xs i (all_left (λ y. y ≢ i) xs (joined xss) o)

-- and each node of one of them has the mark of that one
pub paint-all-on : (ms : List ℕ) (k : ℕ) (before : List (List ℕ)) (xs : List ℕ) (after : List (List ℕ))
    → All (λ x. x < length ms) xs → Distinct (joined (before ++ xs ∷ after))
    → All (λ x. get_or (paint_all ms k (before ++ xs ∷ after)) x 0 ≡ k + length before + 1) xs
unfolding paint_all
paint-all-on ms k [] xs after r d =
    all_map (λ x. Off x (joined after) × (get_or (paint ms (k + 1) xs) x 0 ≡ k + 1))
    (λ x. get_or (paint_all (paint ms (k + 1) xs) (k + 1) after) x 0 ≡ k + 0 + 1)
    (λ x h. paint-all-off (paint ms (k + 1) xs) (k + 1) after x h.0 ∙ h.1 ∙ none k) xs
    (all_both (λ x. Off x (joined after)) (λ x. get_or (paint ms (k + 1) xs) x 0 ≡ k + 1) xs
    (distinct_apart xs (joined after) d) (paint-on ms (k + 1) xs r))
  where
    none : (j : ℕ) → j + 1 ≡ j + 0 + 1
    none j = omega arith
paint-all-on ms k (ys ∷ before) xs after r d =
    all_map (λ x. get_or (paint_all (paint ms (k + 1) ys) (k + 1) (before ++ xs ∷ after)) x 0 ≡ k + 1 + length before + 1)
    (λ x. get_or (paint_all (paint ms (k + 1) ys) (k + 1) (before ++ xs ∷ after)) x 0 ≡ k + suc (length before) + 1)
    (λ x h. h ∙ more k (length before)) xs
    (paint-all-on (paint ms (k + 1) ys) (k + 1) before xs after
    (all_map (λ x. x < length ms) (λ x. x < length (paint ms (k + 1) ys)) (λ x h. rw (paint-length ms (k + 1) ys) h) xs r)
    (distinct-right ys (joined (before ++ xs ∷ after)) d))
  where
    more : (j n : ℕ) → j + 1 + n + 1 ≡ j + suc n + 1
    more j n = omega arith
