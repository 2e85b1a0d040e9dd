-- What a walk stood on, and when it is right, whatever a word is made of and wherever a list ends. Assumes nothing.
use mathlib.Core.Path.{◌≡◌, refl, sym, ap, ◌∙◌}
use mathlib.Core.Logic.{◌≢◌}
use mathlib.Core.Bool.{Bool, true, false}
use mathlib.Core.List.{List, [], ◌∷◌, reverse, reverse_aux, reverse-cons}
use Prim.Native.Nat.{ℕ, zero, suc, ◌≤◌}
use native.Mathlib.Omega.{arith}
use lib.Dec.{eqb}
use lib.ListN.{length, get_or}
use borrow.Author.Tests.{eqb-true, ne_eqb}
use Rattle.words.specs.Names.{name, node_of}
use Rattle.words.specs.Listing.{All, Off, front, back, Listing}
use Rattle.words.proofs.Laws.Names.{node-name, name-not-null}
use Rattle.words.proofs.Laws.Nodes.{all-reverse, off-apart}
use Rattle.words.proofs.Laws.Chain.{back-reverse, front-reverse}
use Rattle.words.proofs.Laws.Part.{Part, part_join, part-one}
use Rattle.words.proofs.Laws.Listing.{listing-part}
use Rattle.walk.specs.Walk.{Walk, is_free, walk_from}
use Rattle.walk.proofs.Laws.Marks.{Clean, false-true, elem-off, off-elem, pigeons}
use Rattle.walk.proofs.Laws.Step.{Free, free, free-node, step-dry, step-fault, step_end, step-on, View, fault, ended, on, view}

-- a list ends at the last of these nodes, and at none before it
abbrev pub Stops : (ℕ → ℕ → Bool) → List ℕ → Type 0
Stops stop [] = Unit
Stops stop (x ∷ xs) = (stop (name x) (front xs 0) ≡ eqb (front xs 0) 0) × Stops stop xs

module _ (far : ℕ → ℕ → ℕ) (stop : ℕ → ℕ → Bool) (word : ℕ → ℕ → ℕ) where
  -- ---- every walk, right or not

  module _ (made : (v p : ℕ) → v ≡ word p (far v p)) (ws ms : List ℕ) (h : ℕ) where
    -- the nodes met, the last one first, from h to before w
    record Met (met : List ℕ) (p w : ℕ) : Type 0 where
      part : Part word ws 0 (reverse met) w
      near : front met 0 ≡ p
      head : back w met ≡ h
      clean : Clean ms met

    one_more : (met : List ℕ) (p w : ℕ) → Met met p w → Free ws ms met w → Met (node_of w ∷ met) w (far (get_or ws (node_of w) 0) p)
    one_more met p w m f =
        let x = node_of w in
        let q = far (get_or ws x 0) p in
        let off = off-apart x (reverse met) (all-reverse (λ y. y ≢ x) met (elem-off x met f.unmet)) in
        let near' : p ≡ back 0 (reverse met) = sym (back-reverse 0 met ∙ m.near) in
        let one : Part word ws (back 0 (reverse met)) (x ∷ []) q =
        part-one word ws (back 0 (reverse met)) x q f.below (made (get_or ws x 0) p ∙ ap (λ (r : ℕ). word r q) near') in
        record {
          part = rw (reverse-cons x met) (part_join word ws 0 (reverse met) (x ∷ []) q off (rw f.name_of at m.part) one);
          near = sym f.name_of;
          head = rw f.name_of at m.head;
          clean = (f.unmarked, m.clean);
        }

    -- how a walk from h comes out: the nodes are distinct and in the pool, none of them has a mark, and in their order they
    -- are a chain from h, with `after` named after the last. It is right only if that is null and the list ends there.
    pub record Stands (r : Walk) : Type 0 where
      pub after : ℕ
      pub part : Part word ws 0 (reverse r.met) after
      pub head : back after r.met ≡ h
      pub clean : Clean ms r.met
      pub right : r.ok ≡ true → (after ≡ 0) × (stop (front r.met 0) 0 ≡ true)

    so : (b : Bool) (met : List ℕ) (p w : ℕ) → Met met p w → (b ≡ true → (w ≡ 0) × (stop (front met 0) 0 ≡ true)) → Stands (record { ok = b; met = met })
    so b met p w m r = record { after = w; part = m.part; head = m.head; clean = m.clean; right = r }

    stands : (k : ℕ) (met : List ℕ) (p w : ℕ) → Met met p w → Stands (walk_from far stop k ws ms met p w)
    stands zero met p w m = rw (step-dry far stop ws ms met p w) (so false met p w m (λ z. absurd (false-true z)))
    stands (suc k) met p w m =
        go (view far stop ws ms met p w)
        (λ f. stands k (node_of w ∷ met) w (far (get_or ws (node_of w) 0) p) (one_more met p w m (free ws ms met w f)))
      where
        go : View far stop ws ms met p w
            → (is_free ws ms met w ≡ true → Stands (walk_from far stop k ws ms (node_of w ∷ met) w (far (get_or ws (node_of w) 0) p)))
            → Stands (walk_from far stop (suc k) ws ms met p w)
        go (fault e) rec = rw (step-fault far stop k ws ms met p w e) (so false met p w m (λ z. absurd (false-true z)))
        go (on f e) rec = rw (step-on far stop k ws ms met p w f e) (rec f)
        go (ended f e) rec =
            let q = far (get_or ws (node_of w) 0) p in
            let fr = free ws ms met w f in
            rw (step_end far stop k ws ms met p w f e)
            (so (eqb q 0) (node_of w ∷ met) w q (one_more met p w m fr)
            (λ z. let n = eqb-true q 0 z in (n, rw (n, fr.name_of) at e)))

    pub walk-stands : (k : ℕ) → Stands (walk_from far stop k ws ms [] 0 h)
    walk-stands k =
        stands k [] 0 h
        (record { part = record { distinct = tt; ranged = tt; chain = tt }; near = refl; head = refl; clean = tt })

    -- what a walk accepts is a listing, off the marks, and it ends where the list should
    pub accepted-listing : (k : ℕ) → (walk_from far stop k ws ms [] 0 h).ok ≡ true
        → Listing word ws h (front (walk_from far stop k ws ms [] 0 h).met 0) (reverse (walk_from far stop k ws ms [] 0 h).met)
    accepted-listing k a =
        let r = walk_from far stop k ws ms [] 0 h in
        let s = walk-stands k in
        let z = (s.right a).0 in
        let part : Part word ws 0 (reverse r.met) 0 = rw z at s.part in
        let head : back 0 r.met ≡ h = rw z at s.head in
        record {
          distinct = part.distinct;
          ranged = part.ranged;
          first = front-reverse 0 r.met ∙ head;
          last = back-reverse 0 r.met;
          chain = part.chain;
        }

  -- ---- a listing

  module _ (reads : (p q : ℕ) → far (word p q) p ≡ q) (ws ms : List ℕ) where
    after-node : (p x f : ℕ) → get_or ws x 0 ≡ word p f → far (get_or ws (node_of (name x)) 0) p ≡ f
    after-node p x f e = rw (node-name x, e) (reads p f)

    more-off : (x : ℕ) (met xs : List ℕ) → Off x xs → All (λ y. Off y met) xs → All (λ y. Off y (x ∷ met)) xs
    more-off x met [] h k = tt
    more-off x met (y ∷ ys) h k = ((λ e. h.0 (sym e), k.0), more-off x met ys h.1 k.1)

    off-none : (xs : List ℕ) → All (λ y. Off y []) xs
    off-none [] = tt
    off-none (x ∷ xs) = (tt, off-none xs)

    complete : (k : ℕ) (met : List ℕ) (p x : ℕ) (xs : List ℕ) → length (x ∷ xs) ≤ k → All (λ y. Off y met) (x ∷ xs)
        → Part word ws p (x ∷ xs) 0 → Clean ms (x ∷ xs) → Stops stop (x ∷ xs)
        → walk_from far stop k ws ms met p (name x) ≡ record { ok = true; met = reverse_aux (x ∷ xs) met }
    complete zero met p x xs len o h c s = absurd (omega arith)
    complete (suc k) met p x [] len o h c s =
        let nx = after-node p x 0 h.chain.0 in
        let f = free-node ws ms met x h.ranged.0 c.0 (off-elem x met o.0) in
        step_end far stop k ws ms met p (name x) f (rw nx s.0) ∙ rw (nx, node-name x)
    complete (suc k) met p x (y ∷ ys) len o h c s =
        let nx = after-node p x (name y) h.chain.0 in
        let f = free-node ws ms met x h.ranged.0 c.0 (off-elem x met o.0) in
        let rest : Part word ws (name x) (y ∷ ys) 0 = record { distinct = h.distinct.1; ranged = h.ranged.1; chain = h.chain.1 } in
        step-on far stop k ws ms met p (name x) f (rw nx (s.0 ∙ ne_eqb (name y) 0 (name-not-null y)))
        ∙ rw (nx, node-name x) (complete k (x ∷ met) (name x) y ys (omega arith) (more-off x met (y ∷ ys) h.distinct.0 o.1) rest c.1 s.1)

    -- a listing off the marks is accepted, over as many nodes as there are, and what was met is its reverse
    pub listing-accepted : (h t x : ℕ) (xs : List ℕ) → Listing word ws h t (x ∷ xs) → Clean ms (x ∷ xs) → Stops stop (x ∷ xs)
        → walk_from far stop (length ws) ws ms [] 0 h ≡ record { ok = true; met = reverse (x ∷ xs) }
    listing-accepted h t x xs l c s =
        rw (← l.first)
        (complete (length ws) [] 0 x xs (pigeons (length ws) (x ∷ xs) l.distinct l.ranged) (off-none (x ∷ xs)) (listing-part word ws h t (x ∷ xs) l) c s)
