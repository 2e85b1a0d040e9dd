-- At each node of a listing, with its real neighbour on either side, a place is done and true. Assumes nothing.
use mathlib.Core.Path.{◌≡◌, refl, ap, ◌∙◌}
use mathlib.Core.Bool.{true}
use mathlib.Core.List.{List, [], ◌∷◌, ◌++◌, reverse}
use Prim.Native.Nat.{ℕ, ◌<◌}
use lib.Bits.{bit_xor}
use lib.ListN.{length}
use borrow.Author.Tests.{lt-ltb}
use Rattle.words.specs.declared.names.Node.{Node}
use Rattle.words.specs.declared.names.Name.{Name}
use Rattle.words.specs.Names.{pool_fits}
use Rattle.words.specs.Listing.{All, front, Listing}
use Rattle.words.proofs.Laws.Nodes.{all_left, all_right, all-reverse}
use Rattle.words.proofs.Laws.Chain.{front-reverse}
use Rattle.answers.specs.Answer.{done}
use Rattle.ends.specs.declared.Ends.{Ends}
use Rattle.cursor.specs.Cursor.{edited}
use Rattle.cursor.specs.Plain.{at, Sound}
use Rattle.cursor.proofs.Laws.Common.{naming-in}
use Rattle.place.specs.Places.{claimed, known, place_by_prev, place_by_next}
use Rattle.place.specs.Plain.{next_node, prev_node}
use Rattle.place.proofs.Laws.Places.{by_prev, by_next, place-by-prev-does, place-by-next-does}

next_known : (n : ℕ) (R : List ℕ) → All (λ y. y < n) R → known n (next_node R) ≡ true
next_known n [] r = refl
next_known n (y ∷ R) r = lt-ltb y n r.0

next-claimed : (n : ℕ) (R : List ℕ) → pool_fits n ≡ true → All (λ y. y < n) R → (claimed (next_node R)).0 ≡ front R 0
next-claimed n [] f r = refl
next-claimed n (y ∷ R) f r = ap (λ (w : Name). w.0) (naming-in n (record { 0 = y }) f r.0)

module _ (ws : List ℕ) (e : Ends) (L : List ℕ) (i : Node) (R : List ℕ) (f : pool_fits (length ws) ≡ true)
    (l : Listing bit_xor ws e.head.0 e.tail.0 (L ++ i.0 ∷ R)) where
  ahead : All (λ y. y < length ws) (reverse L)
  ahead = all-reverse (λ y. y < length ws) L (all_left (λ y. y < length ws) L (i.0 ∷ R) l.ranged)

  beyond : All (λ y. y < length ws) R
  beyond = (all_right (λ y. y < length ws) L (i.0 ∷ R) l.ranged).1

  pub real-prev-does : (place_by_prev ws e i (prev_node L) ≡ edited done e (by_prev ws i (prev_node L))) × Sound ws e (by_prev ws i (prev_node L)) (at L i.0 R)
  real-prev-does =
      place-by-prev-does ws e L i R (prev_node L) f l (next_known (length ws) (reverse L) ahead)
      (next-claimed (length ws) (reverse L) f ahead ∙ front-reverse 0 L)

  pub real-next-does : (place_by_next ws e i (next_node R) ≡ edited done e (by_next ws i (next_node R))) × Sound ws e (by_next ws i (next_node R)) (at L i.0 R)
  real-next-does =
      place-by-next-does ws e L i R (next_node R) f l (next_known (length ws) R beyond) (next-claimed (length ws) R f beyond)
