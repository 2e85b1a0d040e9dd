-- The plain edits at a place: they ask only whether the new node is linked, and each adds or takes away its own nodes.
-- Assumes nothing.
use mathlib.Core.Path.{◌≡◌, refl, sym, ap, ◌∙◌}
use mathlib.Core.Bool.{Bool, true, false}
use mathlib.Core.List.{List, [], ◌∷◌, ◌++◌}
use Prim.Native.Nat.{ℕ, ◌+◌, ◌-◌, ◌<◌, ◌≤◌}
use native.Mathlib.Omega.{arith}
use lib.Dec.{eqb, ltb}
use borrow.Author.Tests.{ltb-true, ltb-false}
use Rattle.std.specs.Prelude.{Err}
use Rattle.answers.specs.Answer.{done, if_refused}
use Rattle.cursor.specs.Plain.{Place, at, at_null, nodes, mirror, next_place, prev_place}
use Rattle.cursor.proofs.Laws.Mirror.{mirror-nodes}
use Rattle.cursor.specs.Does.{Plain, plain, linking, unlinking, free_test}
use Rattle.insert.specs.Plain.{place_after, place_before}
use Rattle.remove.specs.Plain.{place_without, plain_remove, plain_replace}
use Rattle.audit.specs.Audit.{bit}
use Rattle.history.specs.History.{times}
use Rattle.history.proofs.Laws.Counts.{times-append, times-reverse}
use Rattle.history.proofs.Laws.Counted.{Counted, same-counted, more-counted, less-counted}

-- a node that is not linked is not held
pub free-held : (n : ℕ) (H : ℕ → ℕ) (f : ℕ → Bool) (i : ℕ) → Counted n H f → i < n → f i ≡ false → H i ≡ 0
free-held n H f i k r e = let a : H i ≤ 0 = ltb-false 0 (H i) (sym (k.linked i r) ∙ e) in omega arith

-- ---- where the nodes of a place are

pub times-at : (y : ℕ) (L : List ℕ) (x : ℕ) (R : List ℕ) → times y (L ++ x ∷ R) ≡ times y L + (bit (eqb y x) + times y R)
unfolding times
times-at y L x R = times-append y L (x ∷ R)

pub times-after : (y i : ℕ) (z : Place) → times y (nodes (place_after i z)) ≡ times y (nodes z) + bit (eqb y i)
unfolding times
times-after y i (at L x R) =
    let a : times y (L ++ x ∷ i ∷ R) ≡ times y L + (bit (eqb y x) + (bit (eqb y i) + times y R)) = times-append y L (x ∷ i ∷ R) in
    let b : times y (L ++ x ∷ R) ≡ times y L + (bit (eqb y x) + times y R) = times-append y L (x ∷ R) in
    omega arith
times-after y i (at_null xs) = omega arith

pub times-before : (y i : ℕ) (z : Place) → times y (nodes (place_before i z)) ≡ times y (nodes z) + bit (eqb y i)
unfolding times
times-before y i (at L x R) =
    let a : times y ((L ++ i ∷ []) ++ x ∷ R) ≡ times y (L ++ i ∷ []) + (bit (eqb y x) + times y R) = times-append y (L ++ i ∷ []) (x ∷ R) in
    let b : times y (L ++ x ∷ R) ≡ times y L + (bit (eqb y x) + times y R) = times-append y L (x ∷ R) in
    let c : times y (L ++ i ∷ []) ≡ times y L + (bit (eqb y i) + 0) = times-append y L (i ∷ []) in
    omega arith
times-before y i (at_null xs) =
    let c : times y (xs ++ i ∷ []) ≡ times y xs + (bit (eqb y i) + 0) = times-append y xs (i ∷ []) in omega arith

pub times-without : (y : ℕ) (L : List ℕ) (x : ℕ) (R : List ℕ) → times y (nodes (place_without L R)) + bit (eqb y x) ≡ times y (L ++ x ∷ R)
unfolding times
times-without y L x [] =
    let b : times y (L ++ x ∷ []) ≡ times y L + (bit (eqb y x) + 0) = times-append y L (x ∷ []) in omega arith
times-without y L x (w ∷ R) =
    let b : times y (L ++ x ∷ w ∷ R) ≡ times y L + (bit (eqb y x) + (bit (eqb y w) + times y R)) = times-append y L (x ∷ w ∷ R) in
    let c : times y (L ++ w ∷ R) ≡ times y L + (bit (eqb y w) + times y R) = times-append y L (w ∷ R) in
    omega arith

-- a move keeps the nodes
pub times-next : (y : ℕ) (z : Place) → times y (nodes (next_place z)) ≡ times y (nodes z)
unfolding times
times-next y (at L x []) = refl
times-next y (at L x (w ∷ R)) =
    let a : times y ((L ++ x ∷ []) ++ w ∷ R) ≡ times y (L ++ x ∷ []) + (bit (eqb y w) + times y R) = times-append y (L ++ x ∷ []) (w ∷ R) in
    let b : times y (L ++ x ∷ w ∷ R) ≡ times y L + (bit (eqb y x) + (bit (eqb y w) + times y R)) = times-append y L (x ∷ w ∷ R) in
    let c : times y (L ++ x ∷ []) ≡ times y L + (bit (eqb y x) + 0) = times-append y L (x ∷ []) in
    omega arith
times-next y (at_null []) = refl
times-next y (at_null (x ∷ xs)) = refl

times-mirror : (y : ℕ) (z : Place) → times y (nodes (mirror z)) ≡ times y (nodes z)
times-mirror y z = ap (times y) (mirror-nodes z) ∙ times-reverse y (nodes z)

pub times-prev : (y : ℕ) (z : Place) → times y (nodes (prev_place z)) ≡ times y (nodes z)
times-prev y z = times-mirror y (next_place (mirror z)) ∙ times-next y (mirror z) ∙ times-mirror y z

-- ---- inserts, over where the new node goes

-- an insert that leaves the place z'
abbrev pub inserting : Place → ℕ → (ℕ → Bool) → ℕ → Place → Plain
inserting z' n f i z = if_refused (free_test n f i) (λ r. plain (Err r) z f) (plain done z' (linking i f))

module _ (z' : Place) (n i : ℕ) (z : Place) where
  pub insert-asks : (f f' : ℕ → Bool) → (i < n → f i ≡ f' i)
      → ((inserting z' n f i z).answer ≡ (inserting z' n f' i z).answer) × ((inserting z' n f i z).place ≡ (inserting z' n f' i z).place)
  insert-asks f f' e = go (ltb i n) refl (f' i) refl
    where
      go : (b : Bool) → ltb i n ≡ b → (v : Bool) → f' i ≡ v
          → ((inserting z' n f i z).answer ≡ (inserting z' n f' i z).answer) × ((inserting z' n f i z).place ≡ (inserting z' n f' i z).place)
      go true h true v = rw (h, e (ltb-true i n h), v) (refl, refl)
      go true h false v = rw (h, e (ltb-true i n h), v) (refl, refl)
      go false h b v = rw h (refl, refl)

  pub insert-counted : (f : ℕ → Bool) (H H' : ℕ → ℕ) → ((y : ℕ) → times y (nodes z') ≡ times y (nodes z) + bit (eqb y i)) → Counted n H f
      → ((y : ℕ) → H' y + times y (nodes z) ≡ H y + times y (nodes (inserting z' n f i z).place))
      → Counted n H' (inserting z' n f i z).linked
  insert-counted f H H' c k e = go (ltb i n) refl (f i) refl e
    where
      even : ((y : ℕ) → H' y + times y (nodes z) ≡ H y + times y (nodes z)) → Counted n H' f
      even e' = same-counted n H H' f (λ y. less y (e' y)) k
        where
          less : (y : ℕ) → H' y + times y (nodes z) ≡ H y + times y (nodes z) → H' y ≡ H y
          less y p = omega arith

      one : (y : ℕ) → times y (nodes z') ≡ times y (nodes z) + bit (eqb y i) → H' y + times y (nodes z) ≡ H y + times y (nodes z') → H' y ≡ H y + bit (eqb y i)
      one y p q = omega arith

      go : (a : Bool) → ltb i n ≡ a → (b : Bool) → f i ≡ b
          → ((y : ℕ) → H' y + times y (nodes z) ≡ H y + times y (nodes (inserting z' n f i z).place))
          → Counted n H' (inserting z' n f i z).linked
      go false h b l e = rw h (even (rw h at e))
      go true h true l e = rw (h, l) (even (rw (h, l) at e))
      go true h false l e =
          rw (h, l)
          (more-counted n H H' f i (ltb-true i n h) (free-held n H f i k (ltb-true i n h) l)
          (λ y. one y (c y) (let q : H' y + times y (nodes z) ≡ H y + times y (nodes z') = rw (h, l) at (e y) in q)) k)

-- ---- remove

pub remove-asks : (f f' : ℕ → Bool) (z : Place)
    → ((plain_remove f z).answer ≡ (plain_remove f' z).answer) × ((plain_remove f z).place ≡ (plain_remove f' z).place)
remove-asks f f' (at L x R) = (refl, refl)
remove-asks f f' (at_null xs) = (refl, refl)

pub remove-counted : (n : ℕ) (f : ℕ → Bool) (H H' : ℕ → ℕ) (z : Place) → Counted n H f
    → ((y : ℕ) → H' y + times y (nodes z) ≡ H y + times y (nodes (plain_remove f z).place)) → Counted n H' (plain_remove f z).linked
remove-counted n f H H' (at L x R) k e = less-counted n H H' f x (λ y. one y (times-without y L x R) (e y)) k
  where
    one : (y : ℕ) → times y (nodes (place_without L R)) + bit (eqb y x) ≡ times y (L ++ x ∷ R)
        → H' y + times y (L ++ x ∷ R) ≡ H y + times y (nodes (place_without L R)) → H' y + bit (eqb y x) ≡ H y
    one y p q = omega arith
remove-counted n f H H' (at_null xs) k e = same-counted n H H' f (λ y. one y (e y)) k
  where
    one : (y : ℕ) → H' y + times y xs ≡ H y + times y xs → H' y ≡ H y
    one y p = omega arith

-- ---- replace

pub replace-asks : (n : ℕ) (f f' : ℕ → Bool) (i : ℕ) (z : Place) → (i < n → f i ≡ f' i)
    → ((plain_replace n f i z).answer ≡ (plain_replace n f' i z).answer) × ((plain_replace n f i z).place ≡ (plain_replace n f' i z).place)
replace-asks n f f' i (at L x R) e = go (ltb i n) refl (f' i) refl
  where
    go : (b : Bool) → ltb i n ≡ b → (v : Bool) → f' i ≡ v
        → ((plain_replace n f i (at L x R)).answer ≡ (plain_replace n f' i (at L x R)).answer) × ((plain_replace n f i (at L x R)).place ≡ (plain_replace n f' i (at L x R)).place)
    go true h true v = rw (h, e (ltb-true i n h), v) (refl, refl)
    go true h false v = rw (h, e (ltb-true i n h), v) (refl, refl)
    go false h b v = rw h (refl, refl)
replace-asks n f f' i (at_null xs) e = (refl, refl)

-- an exchange of the node x, which is held, for i, which is not
exchanged : (n : ℕ) (f : ℕ → Bool) (H H' : ℕ → ℕ) (x i : ℕ) → Counted n H f → i < n → f i ≡ false → ((y : ℕ) → bit (eqb y x) ≤ H y)
    → ((y : ℕ) → H' y + bit (eqb y x) ≡ H y + bit (eqb y i)) → Counted n H' (linking i (unlinking x f))
exchanged n f H H' x i k r l p e =
    more-counted n (λ y. H y - bit (eqb y x)) H' (unlinking x f) i r (none (free-held n H f i k r l)) (λ y. up y (p y) (e y))
    (less-counted n H (λ y. H y - bit (eqb y x)) f x (λ y. down y (p y)) k)
  where
    none : H i ≡ 0 → H i - bit (eqb i x) ≡ 0
    none z = omega arith

    up : (y : ℕ) → bit (eqb y x) ≤ H y → H' y + bit (eqb y x) ≡ H y + bit (eqb y i) → H' y ≡ (H y - bit (eqb y x)) + bit (eqb y i)
    up y a b = omega arith

    down : (y : ℕ) → bit (eqb y x) ≤ H y → (H y - bit (eqb y x)) + bit (eqb y x) ≡ H y
    down y a = omega arith

pub replace-counted : (n : ℕ) (f : ℕ → Bool) (H H' : ℕ → ℕ) (i : ℕ) (z : Place) → Counted n H f → ((y : ℕ) → times y (nodes z) ≤ H y)
    → ((y : ℕ) → H' y + times y (nodes z) ≡ H y + times y (nodes (plain_replace n f i z).place)) → Counted n H' (plain_replace n f i z).linked
replace-counted n f H H' i (at L x R) k p e = go (ltb i n) refl (f i) refl e
  where
    even : ((y : ℕ) → H' y + times y (L ++ x ∷ R) ≡ H y + times y (L ++ x ∷ R)) → Counted n H' f
    even e' = same-counted n H H' f (λ y. less y (e' y)) k
      where
        less : (y : ℕ) → H' y + times y (L ++ x ∷ R) ≡ H y + times y (L ++ x ∷ R) → H' y ≡ H y
        less y p = omega arith

    here : (y : ℕ) → times y (L ++ x ∷ R) ≤ H y → times y (L ++ x ∷ R) ≡ times y L + (bit (eqb y x) + times y R) → bit (eqb y x) ≤ H y
    here y a b = omega arith

    one : (y : ℕ) → times y (L ++ x ∷ R) ≡ times y L + (bit (eqb y x) + times y R) → times y (L ++ i ∷ R) ≡ times y L + (bit (eqb y i) + times y R)
        → H' y + times y (L ++ x ∷ R) ≡ H y + times y (L ++ i ∷ R) → H' y + bit (eqb y x) ≡ H y + bit (eqb y i)
    one y a b c = omega arith

    go : (a : Bool) → ltb i n ≡ a → (b : Bool) → f i ≡ b
        → ((y : ℕ) → H' y + times y (L ++ x ∷ R) ≡ H y + times y (nodes (plain_replace n f i (at L x R)).place))
        → Counted n H' (plain_replace n f i (at L x R)).linked
    go false h b l e = rw h (even (rw h at e))
    go true h true l e = rw (h, l) (even (rw (h, l) at e))
    go true h false l e =
        rw (h, l)
        (exchanged n f H H' x i k (ltb-true i n h) l (λ y. here y (p y) (times-at y L x R))
        (λ y. one y (times-at y L x R) (times-at y L i R) (let q : H' y + times y (L ++ x ∷ R) ≡ H y + times y (L ++ i ∷ R) = rw (h, l) at (e y) in q)))
replace-counted n f H H' i (at_null xs) k p e = same-counted n H H' f (λ y. one y (e y)) k
  where
    one : (y : ℕ) → H' y + times y xs ≡ H y + times y xs → H' y ≡ H y
    one y p = omega arith
