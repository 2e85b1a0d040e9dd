-- The tests of the ends of a directory, and the walks of its lists: what passes them all, and what is the first to fail.
-- Assumes nothing.
use Rattle.std.proofs.Common.{◌≡◌, ℕ, suc, ◌+◌, ◌<◌, true, false, List, [], ◌∷◌, ◌++◌, length, sym, refl, ap, ◌∙◌, ⊎_elim, arith}
use lib.Bits.{bit_xor}
use Rattle.words.specs.Names.{pool_fits}
use Rattle.words.specs.Listing.{All, Distinct, Apart, Listing}
use Rattle.words.specs.Afresh.{joined}
use Rattle.words.proofs.Laws.Cases.{true-or-false}
use Rattle.words.proofs.Laws.Nodes.{all_append, all_left, all_right, apart-sym, distinct_append, distinct-right, distinct_apart}
use Rattle.ends.specs.declared.Ends.{Ends}
use Rattle.ends.specs.Tests.{ends_hold}
use Rattle.walk.specs.Marks.{is_marked, paint, Marking, marking}
use Rattle.walk.specs.declared.step.Stood.{Stood}
use Rattle.walk.specs.Calls.{walk_list}
use Rattle.walk.proofs.Laws.Marks.{Clean, false-true, paint-length, clean_after, clean-before}
use Rattle.walk.proofs.Laws.Walk.{Listed as Walked, list-accepts, list-sound}
use Rattle.audit.specs.Audit.{Lowest, none, list, lowest_unheld, walks_of}
use Rattle.audit.specs.Listed.{AllHold, Listed, paint_all}
use Rattle.audit.proofs.Laws.Passes.{walks-on, walks-stop, held_on, held-stop}
use Rattle.audit.proofs.Laws.Sequences.{apart-append, apart-left, apart-right, listed-ranged, no_zero}

-- ---- which list

abbrev code : Lowest → ℕ
code none = 0
code (list k) = suc k

pub list-none : (k : ℕ) → list k ≡ none → ⊥
list-none k e = let z : suc k ≡ 0 = ap code e in omega arith

pub list-list : (k j : ℕ) → list k ≡ list j → k ≡ j
list-list k j e = let z : suc k ≡ suc j = ap code e in omega arith

-- ---- the ends

pub holds-none : (ws : List ℕ) (k : ℕ) (es : List Ends) → AllHold ws es → lowest_unheld ws k es ≡ none
unfolding lowest_unheld
holds-none ws k [] h = refl
holds-none ws k (e ∷ es) h = held_on ws k e es [] h.0 ∙ holds-none ws (k + 1) es h.1

pub none-holds : (ws : List ℕ) (k : ℕ) (es : List Ends) → lowest_unheld ws k es ≡ none → AllHold ws es
none-holds ws k [] h = tt
none-holds ws k (e ∷ es) h =
    ⊎_elim (λ o. (o, none-holds ws (k + 1) es (sym (held_on ws k e es [] o) ∙ h))) (λ o. absurd (list-none k (sym (held-stop ws k e es [] o) ∙ h)))
    (true-or-false (ends_hold ws e))

-- the ends hold of all lists before list j, the first of them being list k, and not there
pub record Unheld (ws : List ℕ) (k : ℕ) (es : List Ends) (j : ℕ) : Type 0 where
  pub before : List Ends
  pub ends : Ends
  pub after : List Ends
  pub parts : es ≡ before ++ ends ∷ after
  pub number : j ≡ k + length before
  pub lower : AllHold ws before
  pub fails : ends_hold ws ends ≡ false

first : (k : ℕ) → k ≡ k + 0
first k = omega arith

next : (k n : ℕ) → k + 1 + n ≡ k + suc n
next k n = omega arith

pub unheld-list : (ws : List ℕ) (k : ℕ) (before : List Ends) (e : Ends) (after : List Ends) → AllHold ws before → ends_hold ws e ≡ false
    → lowest_unheld ws k (before ++ e ∷ after) ≡ list (k + length before)
unheld-list ws k [] e after h f = held-stop ws k e after [] f ∙ ap list (first k)
unheld-list ws k (b ∷ before) e after h f =
    held_on ws k b (before ++ e ∷ after) [] h.0 ∙ unheld-list ws (k + 1) before e after h.1 f ∙ ap list (next k (length before))

pub list-unheld : (ws : List ℕ) (k : ℕ) (es : List Ends) (j : ℕ) → lowest_unheld ws k es ≡ list j → Unheld ws k es j
unfolding lowest_unheld
list-unheld ws k [] j h = absurd (list-none j (sym h))
list-unheld ws k (e ∷ es) j h = ⊎_elim (λ o. on o (list-unheld ws (k + 1) es j (sym (held_on ws k e es [] o) ∙ h))) stop (true-or-false (ends_hold ws e))
  where
    stop : ends_hold ws e ≡ false → Unheld ws k (e ∷ es) j
    stop o =
        let z : k ≡ j = list-list k j (sym (held-stop ws k e es [] o) ∙ h) in
        record { before = []; ends = e; after = es; parts = refl; number = sym z ∙ first k; lower = tt; fails = o }

    on : ends_hold ws e ≡ true → Unheld ws (k + 1) es j → Unheld ws k (e ∷ es) j
    on o u =
        record {
          before = e ∷ u.before;
          ends = u.ends;
          after = u.after;
          parts = ap (λ (l : List Ends). e ∷ l) u.parts;
          number = u.number ∙ next k (length u.before);
          lower = (o, u.lower);
          fails = u.fails;
        }

-- ---- the walks

-- one list, whose listing is off the marks
module _ (ws : List ℕ) (k : ℕ) (e : Ends) (es : List Ends) (ms xs : List ℕ) (f : pool_fits (length ws) ≡ true) (n : length ms ≡ length ws)
    (l : Listing bit_xor ws e.head.0 e.tail.0 xs) (c : Clean ms xs) where
  comes : walk_list ws ms e (k + 1) ≡ marking (paint ms (k + 1) xs) (record { ok = true; count = length xs })
  comes = list-accepts ws ms e (k + 1) xs f n (no_zero k) l c

  pub one-walk : walks_of ws k (e ∷ es) ms ≡ walks_of ws (k + 1) es (paint ms (k + 1) xs)
  one-walk =
      walks-on ws k e es ms (ap (λ (x : Marking Stood). x.result.ok) comes)
      ∙ ap (λ (x : Marking Stood). walks_of ws (k + 1) es x.marks) comes

  -- what was off the marks and off that list is off the marks now
  pub still-clean : (ys : List ℕ) → All (λ y. y < length ws) ys → Clean ms ys → Apart ys xs → Clean (paint ms (k + 1) xs) ys
  still-clean ys r d a = clean-before ms (k + 1) xs ys (no_zero k) (rw n r) d a

-- listings that are off the marks and share no node are accepted
pub walks-accept : (ws : List ℕ) (k : ℕ) (es : List Ends) (ms : List ℕ) (xss : List (List ℕ)) → pool_fits (length ws) ≡ true → length ms ≡ length ws
    → Listed ws es xss → Clean ms (joined xss) → Distinct (joined xss) → walks_of ws k es ms ≡ marking (paint_all ms k xss) none
unfolding walks_of paint_all
walks-accept ws k [] ms [] f n l c d = refl
walks-accept ws k [] ms (xs ∷ xss) f n l c d = absurd l
walks-accept ws k (e ∷ es) ms [] f n l c d = absurd l
walks-accept ws k (e ∷ es) ms (xs ∷ xss) f n l c d =
    let c1 = all_left (λ x. is_marked ms x ≡ false) xs (joined xss) c in
    let c2 = all_right (λ x. is_marked ms x ≡ false) xs (joined xss) c in
    let a = apart-sym xs (joined xss) (distinct_apart xs (joined xss) d) in
    one-walk ws k e es ms xs f n l.0 c1
    ∙ walks-accept ws (k + 1) es (paint ms (k + 1) xs) xss f (paint-length ms (k + 1) xs ∙ n) l.1
    (still-clean ws k e es ms xs f n l.0 c1 (joined xss) (listed-ranged ws es xss l.1) c2 a)
    (distinct-right xs (joined xss) d)

-- what is accepted has listings off the marks that share no node
pub record Accepted (ws : List ℕ) (es : List Ends) (ms : List ℕ) : Type 0 where
  pub nodes : List (List ℕ)
  pub listed : Listed ws es nodes
  pub clean : Clean ms (joined nodes)
  pub distinct : Distinct (joined nodes)

-- one list before such lists
accepted-more : (ws : List ℕ) (k : ℕ) (e : Ends) (es : List Ends) (ms xs : List ℕ) → length ms ≡ length ws
    → Listing bit_xor ws e.head.0 e.tail.0 xs → Clean ms xs → Accepted ws es (paint ms (k + 1) xs) → Accepted ws (e ∷ es) ms
accepted-more ws k e es ms xs n l c a =
    let r = listed-ranged ws es a.nodes a.listed in
    let b = clean_after ms (k + 1) xs (joined a.nodes) (no_zero k) (rw n r) a.clean in
    record {
      nodes = xs ∷ a.nodes;
      listed = (l, a.listed);
      clean = all_append (λ x. is_marked ms x ≡ false) xs (joined a.nodes) c b.0;
      distinct = distinct_append xs (joined a.nodes) l.distinct a.distinct (apart-sym (joined a.nodes) xs b.1);
    }

pub walks-sound : (ws : List ℕ) (k : ℕ) (es : List Ends) (ms : List ℕ) → (walks_of ws k es ms).result ≡ none → Accepted ws es ms
walks-sound ws k [] ms h = record { nodes = []; listed = tt; clean = tt; distinct = tt }
walks-sound ws k (e ∷ es) ms h =
    ⊎_elim
    (λ o. let w = list-sound ws ms e (k + 1) o in
    accepted-more ws k e es ms w.nodes w.long w.listing w.clean
    (walks-sound ws (k + 1) es (paint ms (k + 1) w.nodes)
    (ap (λ (x : Marking Lowest). x.result) (sym (one-walk ws k e es ms w.nodes w.fits w.long w.listing w.clean)) ∙ h)))
    (λ o. absurd (list-none k (ap (λ (x : Marking Lowest). x.result) (sym (walks-stop ws k e es ms o)) ∙ h)))
    (true-or-false (walk_list ws ms e (k + 1)).result.ok)

-- all lists before list j have listings off the marks that share no node, and that list has none that is off them too
pub record Stopped (ws : List ℕ) (k : ℕ) (es : List Ends) (ms : List ℕ) (j : ℕ) : Type 0 where
  pub before : List Ends
  pub ends : Ends
  pub after : List Ends
  pub parts : es ≡ before ++ ends ∷ after
  pub number : j ≡ k + length before
  pub lower : Accepted ws before ms
  pub fails : (xs : List ℕ) → Listing bit_xor ws ends.head.0 ends.tail.0 xs → Clean ms xs → Apart xs (joined lower.nodes) → ⊥

pub walks-refuse : (ws : List ℕ) (k : ℕ) (before : List Ends) (e : Ends) (after : List Ends) (ms : List ℕ) (xss : List (List ℕ))
    → pool_fits (length ws) ≡ true → length ms ≡ length ws → Listed ws before xss → Clean ms (joined xss) → Distinct (joined xss)
    → ((xs : List ℕ) → Listing bit_xor ws e.head.0 e.tail.0 xs → Clean ms xs → Apart xs (joined xss) → ⊥)
    → (walks_of ws k (before ++ e ∷ after) ms).result ≡ list (k + length before)
walks-refuse ws k [] e after ms [] f n l c d none-fits =
    ⊎_elim (λ o. let w = list-sound ws ms e (k + 1) o in absurd (none-fits w.nodes w.listing w.clean (apart-nil w.nodes)))
    (λ o. ap (λ (x : Marking Lowest). x.result) (walks-stop ws k e after ms o) ∙ ap list (first k)) (true-or-false (walk_list ws ms e (k + 1)).result.ok)
  where
    apart-nil : (xs : List ℕ) → Apart xs []
    apart-nil xs = apart-sym [] xs tt
walks-refuse ws k [] e after ms (xs ∷ xss) f n l c d none-fits = absurd l
walks-refuse ws k (b ∷ before) e after ms [] f n l c d none-fits = absurd l
walks-refuse ws k (b ∷ before) e after ms (xs ∷ xss) f n l c d none-fits =
    let c1 = all_left (λ x. is_marked ms x ≡ false) xs (joined xss) c in
    let c2 = all_right (λ x. is_marked ms x ≡ false) xs (joined xss) c in
    let a = apart-sym xs (joined xss) (distinct_apart xs (joined xss) d) in
    ap (λ (x : Marking Lowest). x.result) (one-walk ws k b (before ++ e ∷ after) ms xs f n l.0 c1)
    ∙ walks-refuse ws (k + 1) before e after (paint ms (k + 1) xs) xss f (paint-length ms (k + 1) xs ∙ n) l.1
    (still-clean ws k b before ms xs f n l.0 c1 (joined xss) (listed-ranged ws before xss l.1) c2 a)
    (distinct-right xs (joined xss) d)
    (λ ys m q p.
    let z = clean_after ms (k + 1) xs ys (no_zero k) (rw n m.ranged) q in
    none-fits ys m z.0 (apart-append ys xs (joined xss) z.1 p))
    ∙ ap list (next k (length before))

pub walks-lowest : (ws : List ℕ) (k : ℕ) (es : List Ends) (ms : List ℕ) (j : ℕ) → pool_fits (length ws) ≡ true → length ms ≡ length ws
    → (walks_of ws k es ms).result ≡ list j → Stopped ws k es ms j
unfolding walks_of accepted-more
walks-lowest ws k [] ms j f n h = absurd (list-none j (sym h))
walks-lowest ws k (e ∷ es) ms j f n h =
    ⊎_elim
    (λ o. let w = list-sound ws ms e (k + 1) o in
    on w (walks-lowest ws (k + 1) es (paint ms (k + 1) w.nodes) j f (paint-length ms (k + 1) w.nodes ∙ n)
    (ap (λ (x : Marking Lowest). x.result) (sym (one-walk ws k e es ms w.nodes f n w.listing w.clean)) ∙ h)))
    stop (true-or-false (walk_list ws ms e (k + 1)).result.ok)
  where
    stop : (walk_list ws ms e (k + 1)).result.ok ≡ false → Stopped ws k (e ∷ es) ms j
    stop o =
        let z : k ≡ j = list-list k j (ap (λ (x : Marking Lowest). x.result) (sym (walks-stop ws k e es ms o)) ∙ h) in
        record {
          before = [];
          ends = e;
          after = es;
          parts = refl;
          number = sym z ∙ first k;
          lower = record { nodes = []; listed = tt; clean = tt; distinct = tt };
          fails = λ xs l c a. false-true (sym o ∙ ap (λ (x : Marking Stood). x.result.ok) (list-accepts ws ms e (k + 1) xs f n (no_zero k) l c));
        }

    on : (w : Walked ws ms e (k + 1)) → Stopped ws (k + 1) es (paint ms (k + 1) w.nodes) j → Stopped ws k (e ∷ es) ms j
    on w s =
        record {
          before = e ∷ s.before;
          ends = s.ends;
          after = s.after;
          parts = ap (λ (l : List Ends). e ∷ l) s.parts;
          number = s.number ∙ next k (length s.before);
          lower = accepted-more ws k e s.before ms w.nodes n w.listing w.clean s.lower;
          fails = λ xs l c a.
              s.fails xs l (clean-before ms (k + 1) w.nodes xs (no_zero k) (rw n l.ranged) c (apart-left xs w.nodes (joined s.lower.nodes) a))
              (apart-right xs w.nodes (joined s.lower.nodes) a);
        }
