-- A true cursor stands: at a node of a listing with its real neighbours, and at null. Assumes nothing.
use mathlib.Core.Path.{◌≡◌, refl, sym, ap, ◌∙◌}
use mathlib.Core.Bool.{Bool, true, false, ◌&&◌, ◌||◌, not}
use mathlib.Core.List.{List, [], ◌∷◌, ◌++◌, reverse, reverse-cons, reverse-append, append_assoc}
use Prim.Native.Nat.{ℕ, ◌+◌, ◌<◌}
use lib.Dec.{eqb}
use lib.Bits.{bit_xor}
use lib.ListN.{length}
use borrow.Author.Tests.{eq-eqb}
use Rattle.words.specs.Names.{name, is_name}
use Rattle.words.specs.Pool.{word_at}
use Rattle.links.specs.XorOps.{next_of}
use Rattle.words.specs.Listing.{All, Off, Distinct, front, back, Chain, Listing}
use Rattle.words.proofs.Laws.Cases.{both}
use Rattle.links.proofs.Laws.Xor.{xor_comm, xor-twice-l}
use Rattle.words.proofs.Laws.Nodes.{all_right, distinct-right, distinct_apart}
use Rattle.words.proofs.Laws.Names.{name-is}
use Rattle.words.proofs.Laws.Pool.{word-name}
use Rattle.words.proofs.Laws.Chain.{last_of, back_last, all-last, back-append, front-reverse, chain-split}
use Rattle.links.proofs.Laws.XorListing.{xor-listing-reverse}
use Rattle.ends.specs.declared.Ends.{Ends}
use Rattle.ends.specs.Ends.{is_empty}
use Rattle.ends.specs.Tests.{link_with, side_holds, stands}
use Rattle.ends.proofs.Laws.Holds.{name-null, name-other, front-link, alone, link-with}

-- what is tested of the side R of a cursor at x, where the end on that side is t
record Side (ws : List ℕ) (t x : ℕ) (R : List ℕ) : Type 0 where
  link : link_with (length ws) (front R 0) (eqb (name x) t) ≡ true
  other : eqb (name x) (front R 0) ≡ false
  side : side_holds ws (name x) (front R 0) t ≡ true

side-of : (ws : List ℕ) (x : ℕ) (R : List ℕ) → Off x R → Distinct R → All (λ y. y < length ws) R → Chain bit_xor ws (name x) R 0
    → Side ws (back (name x) R) x R
unfolding side_holds next_of
side-of ws x [] o d r c =
    record {
      link = link-with (length ws) 0 _ (front-link (length ws) [] tt) (alone x [] tt);
      other = name-null x;
      side = refl;
    }
side-of ws x (y ∷ R) o d r c =
    record {
      link = link-with (length ws) (name y) _ (front-link (length ws) (y ∷ R) r) (alone x (y ∷ R) o);
      other = name-other x y o.0;
      side =
          rw (name-null y, word-name ws y, c.0, xor_comm (bit_xor (name x) (front R 0)) (name x), xor-twice-l (name x) (front R 0))
          (link-with (length ws) (front R 0) _ (front-link (length ws) R r.1) (alone y R d.0));
    }

beyond : (ws : List ℕ) (h t : ℕ) (L : List ℕ) (x : ℕ) (R : List ℕ) → Listing bit_xor ws h t (L ++ x ∷ R) → Side ws t x R
beyond ws h t L x R l =
    let d = distinct-right L (x ∷ R) l.distinct in
    let e : back (name x) R ≡ t = sym (back-append 0 L (x ∷ R)) ∙ l.last in
    rw e at (side-of ws x R d.0 d.1 (all_right (λ y. y < length ws) L (x ∷ R) l.ranged).1
    (chain-split bit_xor ws 0 L (x ∷ R) 0 l.chain).1.1)

-- a list cut at a node, read from its other side
pub turned-at : (L : List ℕ) (x : ℕ) (R : List ℕ) → reverse (L ++ x ∷ R) ≡ reverse R ++ x ∷ reverse L
turned-at L x R =
    reverse-append L (x ∷ R) ∙ ap (λ (l : List ℕ). l ++ reverse L) (reverse-cons x R) ∙ append_assoc (reverse R) (x ∷ []) (reverse L)

-- what is ahead is what is beyond in the mirror
ahead : (ws : List ℕ) (h t : ℕ) (L : List ℕ) (x : ℕ) (R : List ℕ) → Listing bit_xor ws h t (L ++ x ∷ R) → Side ws h x (reverse L)
ahead ws h t L x R l =
    beyond ws t h (reverse R) x (reverse L) (rw (turned-at L x R) at (xor-listing-reverse ws h t (L ++ x ∷ R) l))

neighbours_differ : (L : List ℕ) (x : ℕ) (R : List ℕ) → Distinct (L ++ x ∷ R) → (eqb (back 0 L) 0 || not (eqb (back 0 L) (front R 0))) ≡ true
neighbours_differ [] x R d = refl
neighbours_differ (y ∷ L) x [] d = rw (back_last 0 y L, name-null (last_of y L))
neighbours_differ (y ∷ L) x (z ∷ R) d =
    let a = distinct_apart (y ∷ L) (x ∷ z ∷ R) d in
    rw (back_last 0 y L, name-null (last_of y L), name-other (last_of y L) z (all-last (λ w. Off w (x ∷ z ∷ R)) y L a).1.0)

head-some : (L : List ℕ) (x : ℕ) (R : List ℕ) → eqb (front (L ++ x ∷ R) 0) 0 ≡ false
head-some [] x R = name-null x
head-some (y ∷ L) x R = name-null y

pub stands_at : (ws : List ℕ) (e : Ends) (L : List ℕ) (x : ℕ) (R : List ℕ) → Listing bit_xor ws e.head.0 e.tail.0 (L ++ x ∷ R)
    → stands ws e (name x) (back 0 L) (front R 0) ≡ true
unfolding stands
stands_at ws e L x R l =
    let a = ahead ws e.head.0 e.tail.0 L x R l in
    let b = beyond ws e.head.0 e.tail.0 L x R l in
    let s = (chain-split bit_xor ws 0 L (x ∷ R) 0 l.chain).1 in
    let fr = front-reverse 0 L in
    let hn : eqb e.head.0 0 ≡ false = rw (← l.first) (head-some L x R) in
    let lk : link_with (length ws) (back 0 L) (eqb (name x) e.head.0) ≡ true = rw fr at a.link in
    let ot : eqb (name x) (back 0 L) ≡ false = rw fr at a.other in
    let sd : side_holds ws (name x) (back 0 L) e.head.0 ≡ true = rw fr at a.side in
    let wd : eqb (word_at ws (name x)) (bit_xor (back 0 L) (front R 0)) ≡ true = eq-eqb _ _ (word-name ws x ∙ s.0) in
    rw (
      name-null x,
      hn,
      name-is (length ws) x (all_right (λ y. y < length ws) L (x ∷ R) l.ranged).0,
      lk,
      b.link,
      ot,
      b.other,
      neighbours_differ L x R l.distinct,
      wd,
      sd,
      b.side,
    )

-- at null a cursor made from the ends stands, whatever the words
pub stands-null : (ws : List ℕ) (e : Ends) → stands ws e 0 e.tail.0 e.head.0 ≡ true
unfolding stands
stands-null ws e = rw (eq-eqb e.tail.0 e.tail.0 refl, eq-eqb e.head.0 e.head.0 refl)

-- where a cursor that is not at null stands, there is a node
second : (a i l m n o d w s t : Bool) → (a && i && l && m && n && o && d && w && s && t) ≡ true → i ≡ true
second a i l m n o d w s t h =
    let h1 = (both (a && i && l && m && n && o && d && w && s) t h).0 in
    let h2 = (both (a && i && l && m && n && o && d && w) s h1).0 in
    let h3 = (both (a && i && l && m && n && o && d) w h2).0 in
    let h4 = (both (a && i && l && m && n && o) d h3).0 in
    let h5 = (both (a && i && l && m && n) o h4).0 in
    let h6 = (both (a && i && l && m) n h5).0 in
    let h7 = (both (a && i && l) m h6).0 in
    (both a i (both (a && i) l h7).0).1

pub stands-named : (ws : List ℕ) (e : Ends) (c p q : ℕ) → stands ws e c p q ≡ true → eqb c 0 ≡ false → is_name (length ws) c ≡ true
unfolding stands
stands-named ws e c p q h n =
    second (not (is_empty e)) (is_name (length ws) c) (link_with (length ws) p (eqb c e.head.0)) (link_with (length ws) q (eqb c e.tail.0))
    (not (eqb c p)) (not (eqb c q)) (eqb p 0 || not (eqb p q)) (eqb (word_at ws c) (bit_xor p q)) (side_holds ws c p e.head.0)
    (side_holds ws c q e.tail.0) (rw n at h)
