-- What the edits share: tests that pass, a node acquired, marks. Assumes nothing.
use mathlib.Core.Path.{◌≡◌, refl, sym, ap, ◌∙◌}
use mathlib.Core.Logic.{◌≢◌, ⊎_elim}
use mathlib.Core.Bool.{true, false, cond, or-true}
use mathlib.Core.List.{List, [], ◌∷◌}
use Prim.Native.Nat.{ℕ, ◌^◌, ◌<◌}
use native.Mathlib.Omega.{arith}
use lib.Bits.{bit_xor}
use lib.Dec.{ltb, eqb}
use lib.ListN.{length, get_or}
use borrow.Author.Tests.{lt-ltb, eq-eqb, ne_eqb}
use Rattle.words.specs.declared.names.Node.{Node}
use Rattle.words.specs.declared.names.Name.{Name}
use Rattle.words.specs.Names.{name, is_null, pool_fits, naming, is_linked}
use Rattle.words.specs.Pool.{put_at, Outcome, outcome}
use Rattle.words.specs.LinkOps.{linked_at, acquire_link}
use Rattle.words.specs.Listing.{All, Off, front, back, Listing}
use Rattle.words.proofs.Laws.Nodes.{all_map, all_both}
use Rattle.words.proofs.Laws.Pool.{word-name, changes-put}
use Rattle.words.proofs.Laws.Listing.{listing-frame}
use Rattle.links.proofs.Laws.XorListing.{xor-unlinked-off}
use Rattle.words.proofs.Laws.Part.{away-node}
use Rattle.words.proofs.Laws.Cases.{same_or_not}
use Rattle.words.proofs.Laws.Chain.{last_of, back_last}
use Rattle.words.proofs.Laws.Outside.{Outside, listing-outside, unlinked-word, marks-agree}
use Rattle.answers.specs.declared.Refusal.{Refusal}
use Rattle.answers.specs.declared.Refusal.TheVariants.{NoSuchNode, AlreadyLinked}
use Rattle.std.specs.Prelude.{Err}
use Rattle.ends.specs.declared.Ends.{Ends}
use Rattle.answers.specs.Answer.{Answer, passed, need}
use Rattle.ends.proofs.Laws.Holds.{name-null}
use Rattle.cursor.specs.declared.Cursor.{Cursor}
use Rattle.cursor.specs.declared.Edited.{Edited}
use Rattle.cursor.specs.Cursor.{edited, node_test, acquire_node}
use Rattle.cursor.specs.Plain.{Place, nodes, Sound}
use Rattle.cursor.specs.Alone.{LeavesAlone}
use Rattle.words.proofs.Laws.Names.{fits-small}
use Rattle.cursor.proofs.Laws.Alone.{Within, same-alone}
use Rattle.cursor.proofs.Laws.Sound.{sound-test}
use Rattle.cursor.specs.Does.{Plain, plain, linking, unlinking, Does, linked_in}

-- the name of a node of a pool within the limit
abbrev pub named : ℕ → Name
named x = record { 0 = name x }

pub naming-in : (n : ℕ) (i : Node) → pool_fits n ≡ true → i.0 < n → naming i ≡ record { 0 = name i.0 }
unfolding naming
naming-in n i f h = let k = fits-small n f in rw (lt-ltb (name i.0) (2 ^ 32) (omega arith))

-- on a sound list only 7 is left of the tests of a call that takes a node
pub sound-node-test : (ws : List ℕ) (e : Ends) (c : Cursor) (z : Place) (i : Node) → pool_fits (length ws) ≡ true → Sound ws e c z
    → node_test ws e c i ≡ need (ltb i.0 (length ws)) NoSuchNode passed
unfolding node_test
sound-node-test ws e c z i f s = rw (sound-test ws e c z f s)

-- a call that is refused leaves everything
pub refused-does : (ws : List ℕ) (e : Ends) (c : Cursor) (z : Place) → Sound ws e c z → (o : Outcome Edited) (d : Plain)
    → (a : Answer) → o ≡ outcome ws (edited a e c) → d ≡ plain a z (linked_in ws) → Does ws z o d
refused-does ws e c z s o d a p q =
    rw (p, q) (record { answer = refl; sound = s; marks = λ j. refl; alone = same-alone ws (nodes z) (nodes z) })

-- ---- a node acquired

linked-at : (ws : List ℕ) (i : ℕ) → linked_at ws (name i) ≡ linked_in ws i
unfolding linked_at
linked-at ws i = ap is_linked (word-name ws i)

pub acquire-refused : (ws : List ℕ) (r : Refusal) (new : Name) → acquire_node {A = Unit} ws (Err r) new ≡ outcome ws (Err r)
unfolding acquire_node
acquire-refused ws r new = refl

pub acquire-linked : (ws : List ℕ) (i : ℕ) → linked_in ws i ≡ true → acquire_node ws passed (named i) ≡ outcome ws (Err AlreadyLinked)
unfolding acquire_node acquire_link
acquire-linked ws i h = rw (linked-at ws i, h)

pub acquire-free : (ws : List ℕ) (i : ℕ) → linked_in ws i ≡ false → acquire_node ws passed (named i) ≡ outcome (put_at ws (name i) 0) passed
unfolding acquire_node acquire_link
acquire-free ws i h = rw (linked-at ws i, h)

-- it is on no listing
pub free_off : (ws : List ℕ) (h t : ℕ) (xs : List ℕ) (i : ℕ) → Listing bit_xor ws h t xs → linked_in ws i ≡ false → Off i xs
free_off ws h t xs i l f = xor-unlinked-off ws h t xs i l (unlinked-word (get_or ws i 0) f)

-- and a store in it keeps a sound list sound
pub sound-acquired : (ws : List ℕ) (e : Ends) (c : Cursor) (z : Place) (i v : ℕ) → Off i (nodes z) → Sound ws e c z
    → Sound (put_at ws (name i) v) e c z
sound-acquired ws e c z i v o s =
    record {
      listing =
          listing-frame bit_xor (name i ∷ []) ws (put_at ws (name i) v) (changes-put ws (name i) v) e.head.0 e.tail.0 (nodes z)
          (all_map (λ x. name i ≢ name x) (λ x. Off (name x) (name i ∷ [])) (λ x h. (h, tt)) (nodes z) (away-node i (nodes z) o)) s.listing;
      place = s.place;
    }

-- changing no word but of i and of nodes that the call is given, it leaves alone every listing that has none of these
pub acquired-alone : (ws ws' xs ys vs : List ℕ) (i : ℕ) → linked_in ws i ≡ false → Outside (i ∷ vs) ws ws' → Within xs vs
    → ((P : ℕ → Type 0) → All P ys → P i) → LeavesAlone ws ws' xs ys
acquired-alone ws ws' xs ys vs i f out v w =
    record {
      others = λ h t us l a.
          listing-outside bit_xor (i ∷ vs) ws ws' out h t us
          (all_map (λ y. (y ≢ i) × Off y xs) (λ y. Off y (i ∷ vs)) (λ y p. (λ q. p.0 (sym q), v (λ x. x ≢ y) p.1)) us
          (all_both (λ y. y ≢ i) (λ y. Off y xs) us (free_off ws h t us i l f) a)) l;
      kept = λ j a b. out.same j (w (λ y. y ≢ j) b, v (λ y. y ≢ j) a);
      long = out.long;
    }

-- ---- marks

not_equal : (i j : ℕ) → i ≢ j → eqb j i ≡ false
not_equal i j ne = ne_eqb j i (λ e. ne (sym e))

-- where nothing changed but on i and the list's nodes, and all of these are linked now, i is linked besides
pub marks-linking : (ws ws' : List ℕ) (xs : List ℕ) (i : ℕ) → Outside (i ∷ xs) ws ws' → All (λ x. linked_in ws x ≡ true) xs
    → All (λ x. linked_in ws' x ≡ true) (i ∷ xs) → (j : ℕ) → linked_in ws' j ≡ linking i (linked_in ws) j
marks-linking ws ws' xs i out old new =
    marks-agree ws' (i ∷ xs) (linking i (linked_in ws)) new
    (rw (eq-eqb i i refl), all_map (λ x. linked_in ws x ≡ true) (λ x. linking i (linked_in ws) x ≡ true) (λ x h. rw h (or-true (eqb x i))) xs old)
    (λ j o. ap is_linked (out.same j o) ∙ sym (rw (not_equal i j o.0)))

-- where nothing changed but on the list's nodes, of which x is unlinked now and the others are linked, x is unlinked besides
pub marks-unlinking : (ws ws' : List ℕ) (x : ℕ) (xs : List ℕ) → Outside (x ∷ xs) ws ws' → Off x xs → All (λ y. linked_in ws y ≡ true) xs
    → All (λ y. linked_in ws' y ≡ true) xs → linked_in ws' x ≡ false → (j : ℕ) → linked_in ws' j ≡ unlinking x (linked_in ws) j
marks-unlinking ws ws' x xs out off old new gone =
    marks-agree ws' xs (unlinking x (linked_in ws)) new
    (all_map (λ y. (y ≢ x) × (linked_in ws y ≡ true)) (λ y. unlinking x (linked_in ws) y ≡ true) (λ y h. rw (ne_eqb y x h.0, h.1)) xs
    (all_both (λ y. y ≢ x) (λ y. linked_in ws y ≡ true) xs off old))
    (λ j o. ⊎_elim (λ e. rw (← e) (gone ∙ sym (rw (eq-eqb x x refl)))) (λ ne. ap is_linked (out.same j (ne, o)) ∙ sym (rw (not_equal x j ne))) (same_or_not x j))

-- ---- the ends

-- a tail that moves on if nothing followed
pub tail-after : (i x : ℕ) (R : List ℕ) (next tail : Name) → next.0 ≡ front R 0 → tail.0 ≡ back (name x) R
    → (cond (is_null next) (named i) tail).0 ≡ back (name i) R
tail-after i x [] next tail n t = rw n
tail-after i x (y ∷ R) next tail n t = rw (n, name-null y) t

-- the tail of a list with a node more at its front
pub tail-front : (i : ℕ) (xs : List ℕ) (tail : Name) → tail.0 ≡ back 0 xs → (cond (is_null tail) (named i) tail).0 ≡ back (name i) xs
tail-front i [] tail t = rw t
tail-front i (x ∷ xs) tail t = rw back-null t
  where
    back-null : is_null tail ≡ false
    back-null = rw (t, back_last 0 x xs) (name-null (last_of x xs))
