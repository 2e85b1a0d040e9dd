-- The walk of a xor list: it accepts exactly if there is a listing, and its number counts different nodes. Assumes nothing.
use mathlib.Core.Path.{◌≡◌, refl, sym, ap, ◌∙◌}
use mathlib.Core.Logic.{◌≢◌, ⊎_elim}
use mathlib.Core.Bool.{Bool, true, false, ◌||◌}
use mathlib.Core.List.{List, [], ◌∷◌, reverse, reverse-reverse}
use Prim.Native.Nat.{ℕ, ◌<◌}
use lib.Bits.{bit_xor}
use lib.Dec.{eqb}
use lib.ListN.{length, length-reverse}
use borrow.Author.Tests.{eq-eqb, eqb-true}
use Rattle.words.specs.Names.{name, is_name, pool_fits}
use Rattle.words.specs.Listing.{All, Distinct, front, back, Listing}
use Rattle.words.proofs.Laws.Cases.{true-or-false}
use Rattle.links.proofs.Laws.Xor.{xor_comm, xor-twice-l}
use Rattle.words.proofs.Laws.Names.{null-is-none}
use Rattle.words.proofs.Laws.Nodes.{all-reverse, distinct-reverse}
use Rattle.answers.specs.declared.Refusal.TheVariants.{NoListing}
use Rattle.std.specs.Prelude.{Err, is_err}
use Rattle.ends.specs.declared.Ends.{Ends}
use Rattle.answers.specs.Answer.{done}
use Rattle.ends.specs.Ends.{is_empty}
use Rattle.ends.specs.Tests.{ends_hold}
use Rattle.ends.proofs.Laws.Holds.{name-null, alone, listing-ends-hold}
use Rattle.walk.specs.declared.step.Stood.{Stood}
use Rattle.walk.specs.declared.walk.Walked.{Walked}
use Rattle.walk.specs.Marks.{is_marked, paint, unmarked, sizes_fit, Marking, marking}
use Rattle.walk.specs.Walk.{Walk, walk_from, at_tail, walk_of}
use Rattle.walk.specs.Calls.{stood, can_walk, walk_list, walk_all}
use Rattle.walk.proofs.Laws.Marks.{Clean, false-true, unmarked-clean, paint-reverse}
use Rattle.walk.proofs.Laws.Stands.{Stops, walk-stands, accepted-listing, listing-accepted}
use Rattle.walk.proofs.Laws.Calls.{sizes, sizes-fit, can, can-walk, of-empty, of-head, list-refused, list-walks, walk-fault, walk-done, accepted}

-- ---- xor is such a word, and a tail such an end

xor-made : (v p : ℕ) → v ≡ bit_xor p (bit_xor v p)
xor-made v p = sym (ap (λ (z : ℕ). bit_xor p z) (xor_comm v p) ∙ xor-twice-l p v)

xor-reads : (p q : ℕ) → bit_xor (bit_xor p q) p ≡ q
xor-reads p q = xor_comm (bit_xor p q) p ∙ xor-twice-l p q

tail-is : (t w q : ℕ) → at_tail t w q ≡ true → w ≡ t
unfolding at_tail
tail-is t w q h = eqb-true w t h

stops : (t x : ℕ) (xs : List ℕ) → Distinct (x ∷ xs) → back (name x) xs ≡ t → Stops (at_tail t) (x ∷ xs)
unfolding at_tail
stops t x [] d b = (rw (← b) (sym (alone x [] d.0)), tt)
stops t x (y ∷ ys) d b = (rw (← b) (sym (alone x (y ∷ ys) d.0)), stops t y ys d.1 b)

-- ---- the walk over any marks

-- the head of a list whose ends hold is null only if the tail is
held-null : (ws : List ℕ) (e : Ends) → ends_hold ws e ≡ true → e.head.0 ≡ 0 → e.tail.0 ≡ 0
unfolding ends_hold
held-null ws e h z =
    let none : is_name (length ws) e.head.0 ≡ false = ap (is_name (length ws)) z ∙ null-is-none (length ws) in
    eqb-true e.tail.0 0 (or-false (eqb e.tail.0 0) (rw (eq-eqb e.head.0 0 z, none) at h))
  where
    or-false : (b : Bool) → (b || false) ≡ true → b ≡ true
    or-false true k = refl
    or-false false k = k

-- a listing off the marks is what the walk meets
pub listing-walk : (ws ms : List ℕ) (e : Ends) (xs : List ℕ) → Listing bit_xor ws e.head.0 e.tail.0 xs → Clean ms xs
    → walk_of ws ms e ≡ record { ok = true; met = reverse xs }
listing-walk ws ms e [] l c = of-empty ws ms e (eq-eqb e.head.0 0 (sym l.first))
listing-walk ws ms e (x ∷ xs) l c =
    of-head ws ms e (rw (← l.first) (name-null x))
    ∙ listing-accepted bit_xor (at_tail e.tail.0) bit_xor xor-reads ws ms e.head.0 e.tail.0 x xs l c (stops e.tail.0 x xs l.distinct l.last)

-- what the walk meets and accepts is a listing off the marks
pub record Lists (ws ms : List ℕ) (e : Ends) (r : Walk) : Type 0 where
  pub listing : Listing bit_xor ws e.head.0 e.tail.0 (reverse r.met)
  pub clean : Clean ms (reverse r.met)

pub walk-listing : (ws ms : List ℕ) (e : Ends) → ends_hold ws e ≡ true → (walk_of ws ms e).ok ≡ true → Lists ws ms e (walk_of ws ms e)
walk-listing ws ms e h a = ⊎_elim empty full (true-or-false (is_empty e))
  where
    empty : is_empty e ≡ true → Lists ws ms e (walk_of ws ms e)
    empty z =
        let n = eqb-true e.head.0 0 z in
        rw (of-empty ws ms e z)
        (record {
          listing = record { distinct = tt; ranged = tt; first = sym n; last = sym (held-null ws e h n); chain = tt };
          clean = tt;
        })

    full : is_empty e ≡ false → Lists ws ms e (walk_of ws ms e)
    full z =
        let r = walk_from bit_xor (at_tail e.tail.0) (length ws) ws ms [] 0 e.head.0 in
        let ok : r.ok ≡ true = rw (of-head ws ms e z) at a in
        let s = walk-stands bit_xor (at_tail e.tail.0) bit_xor xor-made ws ms e.head.0 (length ws) in
        let t : front r.met 0 ≡ e.tail.0 = tail-is e.tail.0 (front r.met 0) 0 (s.right ok).1 in
        let l = accepted-listing bit_xor (at_tail e.tail.0) bit_xor xor-made ws ms e.head.0 (length ws) ok in
        rw (of-head ws ms e z) (record { listing = rw t at l; clean = all-reverse (λ x. is_marked ms x ≡ false) r.met s.clean })

-- the nodes that any walk stood on, right or not, are different nodes of the pool
pub walk-differs : (ws ms : List ℕ) (e : Ends) → Distinct (walk_of ws ms e).met × All (λ x. x < length ws) (walk_of ws ms e).met
walk-differs ws ms e = ⊎_elim empty full (true-or-false (is_empty e))
  where
    empty : is_empty e ≡ true → Distinct (walk_of ws ms e).met × All (λ x. x < length ws) (walk_of ws ms e).met
    empty z = rw (of-empty ws ms e z) (tt, tt)

    full : is_empty e ≡ false → Distinct (walk_of ws ms e).met × All (λ x. x < length ws) (walk_of ws ms e).met
    full z =
        let r = walk_from bit_xor (at_tail e.tail.0) (length ws) ws ms [] 0 e.head.0 in
        let p = (walk-stands bit_xor (at_tail e.tail.0) bit_xor xor-made ws ms e.head.0 (length ws)).part in
        rw (of-head ws ms e z) (
          rw (reverse-reverse r.met) at (distinct-reverse (reverse r.met) p.distinct),
          rw (reverse-reverse r.met) at (all-reverse (λ x. x < length ws) (reverse r.met) p.ranged),
        )

-- ---- the step of one list

pub list-accepts : (ws ms : List ℕ) (e : Ends) (m : ℕ) (xs : List ℕ) → pool_fits (length ws) ≡ true → length ms ≡ length ws → m ≢ 0
    → Listing bit_xor ws e.head.0 e.tail.0 xs → Clean ms xs
    → walk_list ws ms e m ≡ marking (paint ms m xs) (record { ok = true; count = length xs })
unfolding stood
list-accepts ws ms e m xs f n z l c =
    list-walks ws ms e m (can-walk ws ms e m (sizes-fit ws ms f n) z (listing-ends-hold ws e xs l))
    ∙ rw (listing-walk ws ms e xs l c, paint-reverse ms m xs, length-reverse xs)

pub record Listed (ws ms : List ℕ) (e : Ends) (m : ℕ) : Type 0 where
  pub nodes : List ℕ
  pub fits : pool_fits (length ws) ≡ true
  pub long : length ms ≡ length ws
  pub some : m ≢ 0
  pub listing : Listing bit_xor ws e.head.0 e.tail.0 nodes
  pub clean : Clean ms nodes
  pub comes : walk_list ws ms e m ≡ marking (paint ms m nodes) (record { ok = true; count = length nodes })

stood_ok : (ms : List ℕ) (m : ℕ) (w : Walk) → (stood ms m w).result.ok ≡ w.ok
unfolding stood
stood_ok ms m w = refl

pub list-sound : (ws ms : List ℕ) (e : Ends) (m : ℕ) → (walk_list ws ms e m).result.ok ≡ true → Listed ws ms e m
list-sound ws ms e m a = ⊎_elim walks refused (true-or-false (can_walk ws ms e m))
  where
    refused : can_walk ws ms e m ≡ false → Listed ws ms e m
    refused k = absurd (false-true (rw (list-refused ws ms e m k) at a))

    walks : can_walk ws ms e m ≡ true → Listed ws ms e m
    walks k =
        let p = can ws ms e m k in
        let ok : (walk_of ws ms e).ok ≡ true = sym (stood_ok ms m (walk_of ws ms e)) ∙ ap (λ (x : Marking Stood). x.result.ok) (sym (list-walks ws ms e m k)) ∙ a in
        let l = walk-listing ws ms e p.held ok in
        record {
          nodes = reverse (walk_of ws ms e).met;
          fits = p.sized.fits;
          long = p.sized.long;
          some = p.marks;
          listing = l.listing;
          clean = l.clean;
          comes = list-accepts ws ms e m (reverse (walk_of ws ms e).met) p.sized.fits p.sized.long p.marks l.listing l.clean;
        }

-- ---- the walk

-- a listing is accepted, with its length, and its nodes are marked
pub walk-accepts : (ws ms : List ℕ) (e : Ends) (xs : List ℕ) → pool_fits (length ws) ≡ true → length ms ≡ length ws
    → Listing bit_xor ws e.head.0 e.tail.0 xs
    → walk_all ws ms e ≡ marking (paint (unmarked ms) 1 xs) (record { answer = done; count = length xs })
walk-accepts ws ms e xs f n l =
    let w = listing-walk ws (unmarked ms) e xs l (unmarked-clean ms xs) in
    walk-done ws ms e (sizes-fit ws ms f n) (listing-ends-hold ws e xs l) (ap (λ (r : Walk). r.ok) w)
    ∙ rw (w, paint-reverse (unmarked ms) 1 xs, length-reverse xs)

pub record Walkable (ws ms : List ℕ) (e : Ends) : Type 0 where
  pub nodes : List ℕ
  pub fits : pool_fits (length ws) ≡ true
  pub long : length ms ≡ length ws
  pub listing : Listing bit_xor ws e.head.0 e.tail.0 nodes
  pub comes : walk_all ws ms e ≡ marking (paint (unmarked ms) 1 nodes) (record { answer = done; count = length nodes })

-- what is accepted has a listing
pub walk-sound : (ws ms : List ℕ) (e : Ends) → (walk_all ws ms e).result.answer ≡ done → Walkable ws ms e
walk-sound ws ms e d =
    let a = accepted ws ms e (ap is_err d) in
    let p = sizes ws ms a.sized in
    let l = walk-listing ws (unmarked ms) e a.held a.right in
    let nodes = reverse (walk_of ws (unmarked ms) e).met in
    record {
      nodes = nodes;
      fits = p.fits;
      long = p.long;
      listing = l.listing;
      comes = walk-accepts ws ms e nodes p.fits p.long l.listing;
    }

-- sizes that fit, ends that hold and no listing: 10, and no mark is left
pub walk-refuses : (ws ms : List ℕ) (e : Ends) → sizes_fit ws ms ≡ true → ends_hold ws e ≡ true
    → ((xs : List ℕ) → Listing bit_xor ws e.head.0 e.tail.0 xs → ⊥)
    → walk_all ws ms e ≡ marking (unmarked ms) (record { answer = Err NoListing; count = length (walk_of ws (unmarked ms) e).met })
walk-refuses ws ms e s h none =
    ⊎_elim (λ ok. absurd (none _ (walk-listing ws (unmarked ms) e h ok).listing)) (λ no. walk-fault ws ms e s h no)
    (true-or-false (walk_of ws (unmarked ms) e).ok)

-- the number, where the walk is begun: how many nodes it stood on, all of them different
pub walk-counts : (ws ms : List ℕ) (e : Ends) → sizes_fit ws ms ≡ true → ends_hold ws e ≡ true
    → ((walk_all ws ms e).result.count ≡ length (walk_of ws (unmarked ms) e).met) × Distinct (walk_of ws (unmarked ms) e).met
walk-counts ws ms e s h = (
  ⊎_elim (λ ok. ap (λ (x : Marking Walked). x.result.count) (walk-done ws ms e s h ok))
      (λ no. ap (λ (x : Marking Walked). x.result.count) (walk-fault ws ms e s h no)) (true-or-false (walk_of ws (unmarked ms) e).ok),
  (walk-differs ws (unmarked ms) e).0,
)
