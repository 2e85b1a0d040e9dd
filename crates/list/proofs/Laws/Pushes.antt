-- Pushes do their plain edit. Assumes nothing.
use mathlib.Core.Path.{◌≡◌, refl, sym}
use mathlib.Core.Bool.{true}
use mathlib.Core.List.{List}
use Prim.Native.Nat.{ℕ}
use lib.Bits.{bit_xor}
use lib.ListN.{length}
use Rattle.words.specs.declared.names.Node.{Node}
use Rattle.words.specs.Names.{pool_fits}
use Rattle.words.specs.Pool.{Outcome}
use Rattle.words.specs.Listing.{Listing}
use Rattle.ends.specs.declared.Ends.{Ends}
use Rattle.cursor.specs.declared.Edited.{Edited}
use Rattle.cursor.specs.Cursor.{null_cursor}
use Rattle.cursor.specs.Plain.{Place, at_null, nodes, Sound}
use Rattle.cursor.specs.Does.{Plain, Does, linked_in}
use Rattle.insert.proofs.Laws.Insert.{insert-after-does}
use Rattle.insert.proofs.Laws.Mirror.{insert-before-does}
use Rattle.list.specs.Lists.{without_cursor, push_front, push_back}
use Rattle.list.specs.Plain.{as_list, plain_push_front, plain_push_back, DoesList}

-- the null cursor of a listing is true
pub sound-null : (ws : List ℕ) (e : Ends) (xs : List ℕ) → Listing bit_xor ws e.head.0 e.tail.0 xs → Sound ws e (null_cursor e) (at_null xs)
sound-null ws e xs l = record { listing = l; place = (refl, sym l.last, sym l.first) }

-- a promise of an edit at a cursor is one of the list
pub does-list : (ws : List ℕ) (xs : List ℕ) (z : Place) (o : Outcome Edited) (d : Plain) → nodes z ≡ xs → Does ws z o d → DoesList ws xs (without_cursor o) (as_list d)
does-list ws xs z o d e k =
    record {
      answer = k.answer;
      listing = k.sound.listing;
      marks = k.marks;
      alone = rw (← e) k.alone;
    }

module _ (ws : List ℕ) (e : Ends) (xs : List ℕ) (i : Node) (f : pool_fits (length ws) ≡ true) (l : Listing bit_xor ws e.head.0 e.tail.0 xs) where
  pub push-front-does : DoesList ws xs (push_front ws e i) (plain_push_front (length ws) (linked_in ws) i.0 xs)
  unfolding push_front
  push-front-does = does-list ws xs (at_null xs) _ _ refl (insert-after-does ws e (null_cursor e) (at_null xs) i f (sound-null ws e xs l))

  pub push-back-does : DoesList ws xs (push_back ws e i) (plain_push_back (length ws) (linked_in ws) i.0 xs)
  unfolding push_back
  push-back-does = does-list ws xs (at_null xs) _ _ refl (insert-before-does ws e (null_cursor e) (at_null xs) i f (sound-null ws e xs l))
