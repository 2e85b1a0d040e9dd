-- What splices and splits share. Assumes nothing.
use mathlib.Core.Path.{◌≡◌, refl, ap}
use mathlib.Core.Logic.{◌≢◌}
use mathlib.Core.Bool.{true, false}
use mathlib.Core.List.{List, [], ◌∷◌, ◌++◌}
use Prim.Native.Nat.{ℕ}
use lib.Bits.{bit_xor}
use lib.ListN.{get_or}
use Rattle.words.specs.Names.{is_linked}
use Rattle.words.specs.Pool.{Outcome, outcome}
use Rattle.words.specs.Listing.{All, Off, Apart, Listing}
use Rattle.words.proofs.Laws.Nodes.{all_map, all_both, all_append}
use Rattle.words.proofs.Laws.Outside.{Outside, marks-agree}
use Rattle.answers.specs.Answer.{Answer}
use Rattle.ends.specs.declared.Ends.{Ends}
use Rattle.ends.specs.Ends.{is_empty}
use Rattle.ends.proofs.Laws.Holds.{name-null}
use Rattle.cursor.specs.declared.Cursor.{Cursor}
use Rattle.cursor.specs.declared.EditedTwo.{EditedTwo}
use Rattle.cursor.specs.Cursor.{edited_two}
use Rattle.cursor.specs.Plain.{Place, nodes, Sound}
use Rattle.cursor.proofs.Laws.Alone.{same-alone}
use Rattle.splice.specs.Plain.{PlainTwo, two, DoesTwo}

-- a call that leaves everything as it is
pub same-does : (ws : List ℕ) (e : Ends) (c : Cursor) (z : Place) (o : Ends) (ys : List ℕ) → Sound ws e c z
    → Listing bit_xor ws o.head.0 o.tail.0 ys → (r : Outcome EditedTwo) (d : PlainTwo) (a : Answer)
    → r ≡ outcome ws (edited_two a e c o) → d ≡ two a z ys → DoesTwo ws z ys r d
same-does ws e c z o ys s l r d a p q =
    rw (p, q) (record { answer = refl; sound = s; other = l; marks = λ j. refl; alone = same-alone ws (nodes z ++ ys) (nodes z ++ ys) })

-- what shares no node with either of two sequences shares none with both
pub apart-both : (vs xs ys : List ℕ) → Apart vs xs → Apart vs ys → Apart vs (xs ++ ys)
apart-both vs xs ys a b =
    all_map (λ v. Off v xs × Off v ys) (λ v. Off v (xs ++ ys)) (λ v h. all_append (λ x. x ≢ v) xs ys h.0 h.1) vs
    (all_both (λ v. Off v xs) (λ v. Off v ys) vs a b)

-- marks stay where nothing changes but on nodes that are linked before and after
pub marks_stay : (ws ws' : List ℕ) (xs : List ℕ) → Outside xs ws ws' → All (λ x. is_linked (get_or ws x 0) ≡ true) xs
    → All (λ x. is_linked (get_or ws' x 0) ≡ true) xs → (j : ℕ) → is_linked (get_or ws' j 0) ≡ is_linked (get_or ws j 0)
marks_stay ws ws' xs out old new = marks-agree ws' xs (λ j. is_linked (get_or ws j 0)) new old (λ j o. ap is_linked (out.same j o))

-- the ends of an empty listing, and of one that is not
pub empty-is : (ws : List ℕ) (o : Ends) → Listing bit_xor ws o.head.0 o.tail.0 [] → is_empty o ≡ true
empty-is ws o l = rw (← l.first)

pub some_is : (ws : List ℕ) (o : Ends) (y : ℕ) (ys : List ℕ) → Listing bit_xor ws o.head.0 o.tail.0 (y ∷ ys) → is_empty o ≡ false
some_is ws o y ys l = rw (← l.first) (name-null y)
