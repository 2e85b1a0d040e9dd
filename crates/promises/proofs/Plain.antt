-- Take, reverse, clear and fast clear do their plain edits; a cursor shows and reads what is at its place. Assumes nothing.
use mathlib.Core.Path.{◌≡◌, refl, sym, ◌∙◌}
use mathlib.Core.Bool.{Bool, true, false, not, ◌&&◌}
use mathlib.Core.List.{List, [], ◌∷◌, reverse}
use Prim.Native.Nat.{ℕ, ◌<◌}
use native.Mathlib.Omega.{arith}
use lib.Bits.{bit_xor}
use lib.Dec.{eqb}
use lib.ListN.{length, set}
use lib.Seq.{get_or-set_same, get_or-set_other}
use borrow.Author.Tests.{ne_eqb, eqb-true, eqb-false}
use Rattle.words.specs.Names.{is_linked, pool_fits, decoding}
use Rattle.words.specs.Pool.{outcome}
use Rattle.words.specs.Listing.{All, Listing}
use Rattle.words.proofs.Laws.Names.{name-is, node-name, null-is-none}
use Rattle.words.proofs.Laws.Nodes.{all_right}
use Rattle.answers.specs.Answer.{done}
use Rattle.ends.specs.declared.Ends.{Ends}
use Rattle.ends.specs.Ends.{empty_ends, is_empty}
use Rattle.ends.proofs.Laws.Holds.{name-null}
use Rattle.cursor.specs.declared.Cursor.{Cursor}
use Rattle.cursor.specs.declared.Edited.{Edited}
use Rattle.cursor.specs.Cursor.{edited}
use Rattle.cursor.specs.Plain.{Place, at, at_null, Sound}
use Rattle.cursor.specs.Does.{linked_in}
use Rattle.cursor.proofs.Laws.Alone.{same-alone, outside_alone}
use Rattle.splice.specs.Plain.{DoesTwo}
use Rattle.list.specs.Lists.{take, fast_clear, reversed}
use Rattle.list.specs.Plain.{DoesList}
use Rattle.list.proofs.Laws.Pushes.{sound-null}
use Rattle.list.proofs.Laws.Ends.{take-empty, take-full, fast-clear-does, reverse-does}
use Rattle.records.specs.Records.{records_fit}
use Rattle.records.proofs.Laws.Read.{read_done, read-does, read-null, read-nothing}
use Rattle.walk.specs.Marks.{paint}
use Rattle.walk.proofs.Laws.Marks.{paint-length, paint-off}
use Rattle.walk.proofs.Laws.Clear.{clear-listing}
use Rattle.promises.specs.Plain.{plain_reverse, unlinking_all, plain_fast_clear, plain_take, under, left_by_take}
use Rattle.promises.specs.Demand2.{Reaches, Reads, Clears}

-- ---- cursors

pub reaches : (ws : List ℕ) (e : Ends) (r : Edited) (c : Cursor) (z : Place) → r ≡ edited done e c → Sound ws e c z → Reaches ws e r z
reaches ws e r c z q s = rw q (record { answer = refl; ends = refl; sound = s })

pub shows : (ws : List ℕ) (e : Ends) (c : Cursor) (z : Place) → Sound ws e c z → decoding (length ws) c.current ≡ under z
unfolding decoding
shows ws e c (at L x R) s =
    rw (s.place.0, name-is (length ws) x (all_right (λ y. y < length ws) L (x ∷ R) s.listing.ranged).0, node-name x)
shows ws e c (at_null xs) s = rw (s.place.0, null-is-none (length ws))

pub reads : (ws : List ℕ) (e : Ends) (c : Cursor) (z : Place) → Sound ws e c z → (rs : List ℕ) (width : ℕ)
    → records_fit (length ws) width (length rs) ≡ true → Reads ws e c rs width z
reads ws e c (at L x R) s rs width f =
    record { answer = read_done ws e c rs width f L x R s; part = read-does ws e c rs width f L x R s }
reads ws e c (at_null xs) s rs width f =
    record { answer = read-null ws e c rs width f xs s; part = read-nothing ws e c rs width f xs s }

-- ---- lists

pub none-listing : (ws : List ℕ) → Listing bit_xor ws 0 0 []
none-listing ws = record { distinct = tt; ranged = tt; first = refl; last = refl; chain = tt }

module _ (ws : List ℕ) (e : Ends) where
  pub is-empty : (xs : List ℕ) → Listing bit_xor ws e.head.0 e.tail.0 xs → is_empty e ≡ eqb (length xs) 0
  is-empty [] l = rw (← l.first)
  is-empty (x ∷ xs) l = rw (← l.first) (name-null x ∙ sym (ne_eqb (length (x ∷ xs)) 0 (λ z. omega arith)))

module _ (ws : List ℕ) (e : Ends) (xs : List ℕ) (f : pool_fits (length ws) ≡ true) (l : Listing bit_xor ws e.head.0 e.tail.0 xs) where
  pub take-does : (o : Ends) (ys : List ℕ) → Listing bit_xor ws o.head.0 o.tail.0 ys
      → DoesTwo ws (at_null xs) ys (left_by_take ws (take ws e o)) (plain_take ys xs)
  take-does o [] k =
      rw (take-empty ws e xs f l o k)
      (record {
        answer = refl;
        sound = sound-null ws empty_ends [] (none-listing ws);
        other = l;
        marks = λ j. refl;
        alone = same-alone ws _ _;
      })
  take-does o (y ∷ ys) k =
      rw (take-full ws e xs f l o y ys k)
      (record {
        answer = refl;
        sound = sound-null ws e xs l;
        other = k;
        marks = λ j. refl;
        alone = same-alone ws _ _;
      })

  pub reversal-does : DoesList ws xs (outcome ws (reversed ws e)) (plain_reverse (linked_in ws) xs)
  reversal-does =
      let r = reverse-does ws e xs f l in
      rw r.0 (record { answer = refl; listing = r.1; marks = λ j. refl; alone = same-alone ws xs (reverse xs) })

  pub fast-cleared : DoesList ws xs (outcome ws (fast_clear ws e)) (plain_fast_clear (linked_in ws) xs)
  fast-cleared =
      rw (fast-clear-does ws e xs f l).0
      (record { answer = refl; listing = none-listing ws; marks = λ j. refl; alone = same-alone ws xs [] })

-- ---- clear

-- painting unlinks the nodes, and no other
pub paint-unlinks : (ws xs : List ℕ) → All (λ x. x < length ws) xs → (j : ℕ) → linked_in (paint ws 1 xs) j ≡ unlinking_all xs (linked_in ws) j
unfolding paint is_linked
paint-unlinks ws [] r j = refl
paint-unlinks ws (x ∷ xs) r j = go (paint-unlinks ws xs r.1 j) (eqb j x) refl
  where
    go : linked_in (paint ws 1 xs) j ≡ unlinking_all xs (linked_in ws) j → (b : Bool) → eqb j x ≡ b
        → linked_in (set (paint ws 1 xs) x 1) j ≡ (not (eqb j x) && unlinking_all xs (linked_in ws) j)
    go ih true e =
        let d : x ≡ j = sym (eqb-true j x e) in
        rw (e, ← d) (rw (get_or-set_same (paint ws 1 xs) x 1 0 (rw (paint-length ws 1 xs) r.0)))
    go ih false e = rw (e, get_or-set_other (paint ws 1 xs) x j 1 0 (eqb-false j x e)) ih

pub clear-does : (ws ms : List ℕ) (e : Ends) (xs : List ℕ) → pool_fits (length ws) ≡ true → length ms ≡ length ws
    → Listing bit_xor ws e.head.0 e.tail.0 xs → Clears ws ms e xs
clear-does ws ms e xs f m l =
    let q = clear-listing ws ms e xs f m l in
    record {
      does =
          rw q
          (record {
            answer = refl;
            listing = none-listing (paint ws 1 xs);
            marks = paint-unlinks ws xs l.ranged;
            alone = outside_alone ws (paint ws 1 xs) xs [] (record { long = paint-length ws 1 xs; same = λ j o. paint-off ws 1 xs j o });
          });
      words = rw q;
      marks = rw q;
    }
