-- The ends of a listing hold. Assumes nothing.
use mathlib.Core.Path.{◌≡◌, refl, sym, ◌∙◌}
use mathlib.Core.Logic.{◌≢◌}
use mathlib.Core.Bool.{Bool, true, false, ◌&&◌, ◌||◌, beq, or-true}
use mathlib.Core.List.{List, [], ◌∷◌, reverse}
use Prim.Native.Nat.{ℕ, ◌<◌}
use lib.Dec.{eqb}
use lib.Bits.{bit_xor}
use lib.ListN.{length}
use borrow.Author.Tests.{eq-eqb, ne_eqb, eqb-true, eqb-false}
use Rattle.words.specs.Names.{name, is_name}
use Rattle.words.specs.Pool.{word_at}
use Rattle.words.specs.Listing.{All, Off, front, back, Listing}
use Rattle.words.proofs.Laws.Names.{name-is, name-inj, name-not-null}
use Rattle.words.proofs.Laws.Pool.{word-name}
use Rattle.words.proofs.Laws.Chain.{last_of, back_last, all-last}
use Rattle.links.proofs.Laws.XorListing.{xor-listing-reverse}
use Rattle.ends.specs.declared.Ends.{Ends}
use Rattle.ends.specs.Tests.{link_with, ends_hold}

-- ---- tests on names

pub name-null : (x : ℕ) → eqb (name x) 0 ≡ false
name-null x = ne_eqb (name x) 0 (name-not-null x)

pub name-other : (x y : ℕ) → y ≢ x → eqb (name x) (name y) ≡ false
name-other x y h = ne_eqb (name x) (name y) (λ e. h (sym (name-inj x y e)))

-- the first name of a part is null or a name in range
pub front-link : (n : ℕ) (xs : List ℕ) → All (λ x. x < n) xs → (eqb (front xs 0) 0 || is_name n (front xs 0)) ≡ true
front-link n [] h = refl
front-link n (x ∷ xs) h = rw (name-null x) (name-is n x h.0)

-- nothing follows the first of a part exactly if it is the last
pub alone : (y : ℕ) (ys : List ℕ) → Off y ys → eqb (front ys 0) 0 ≡ eqb (name y) (back (name y) ys)
alone y [] h = sym (eq-eqb (name y) (name y) refl)
alone y (z ∷ zs) h =
    name-null z ∙ sym (rw (back_last (name y) z zs) (name-other y (last_of z zs) (all-last (λ w. w ≢ y) z zs h)))

beq-self : (b : Bool) → beq b b ≡ true
beq-self true = refl
beq-self false = refl

pub link-with : (n w : ℕ) (b : Bool) → (eqb w 0 || is_name n w) ≡ true → eqb w 0 ≡ b → link_with n w b ≡ true
unfolding link_with
link-with n w b h e = rw (h, e) (beq-self b)

-- ---- the ends

first_holds : (ws : List ℕ) (h t x : ℕ) (R : List ℕ) → Listing bit_xor ws h t (x ∷ R)
    → (is_name (length ws) h ≡ true) × (link_with (length ws) (word_at ws h) (eqb h t) ≡ true)
first_holds ws h t x R l =
    rw (← l.first, ← l.last) (
      name-is (length ws) x l.ranged.0,
      rw (word-name ws x, l.chain.0) (link-with (length ws) (front R 0) _ (front-link (length ws) R l.ranged.1) (alone x R l.distinct.0)),
    )

eqb_comm : (a b : ℕ) → eqb a b ≡ eqb b a
eqb_comm a b = go (eqb a b) refl
  where
    go : (v : Bool) → eqb a b ≡ v → eqb a b ≡ eqb b a
    go true p = p ∙ sym (eq-eqb b a (sym (eqb-true a b p)))
    go false p = p ∙ sym (ne_eqb b a (λ q. eqb-false a b p (sym q)))

pub listing-ends-hold : (ws : List ℕ) (e : Ends) (xs : List ℕ) → Listing bit_xor ws e.head.0 e.tail.0 xs → ends_hold ws e ≡ true
unfolding ends_hold
listing-ends-hold ws e [] l = rw (← l.first, ← l.last)
listing-ends-hold ws e (x ∷ R) l = go (reverse (x ∷ R)) (xor-listing-reverse ws e.head.0 e.tail.0 (x ∷ R) l)
  where
    go : (ys : List ℕ) → Listing bit_xor ws e.tail.0 e.head.0 ys → ends_hold ws e ≡ true
    go [] k = absurd (name-not-null x (l.first ∙ sym k.last))
    go (y ∷ S) k =
        let f = first_holds ws e.head.0 e.tail.0 x R l in
        let g = first_holds ws e.tail.0 e.head.0 y S k in
        let g2 : link_with (length ws) (word_at ws e.tail.0) (eqb e.head.0 e.tail.0) ≡ true = rw (eqb_comm e.tail.0 e.head.0) at g.1 in
        rw (f.0, g.0, f.1, g2) (or-true (eqb e.head.0 0 && eqb e.tail.0 0))
