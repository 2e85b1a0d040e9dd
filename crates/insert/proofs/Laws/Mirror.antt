-- Insert before is insert after in the mirror, and so does its plain edit. Assumes nothing.
use mathlib.Core.Path.{◌≡◌, refl, sym, ap}
use mathlib.Core.Bool.{Bool, true, false, cond}
use mathlib.Core.List.{List, reverse, reverse-cons, reverse-reverse}
use Prim.Native.Nat.{ℕ}
use lib.Dec.{ltb}
use lib.ListN.{length}
use Rattle.words.specs.declared.names.Node.{Node}
use Rattle.words.specs.declared.names.Name.{Name}
use Rattle.words.specs.Names.{is_null, pool_fits, naming}
use Rattle.words.specs.Pool.{Outcome, outcome}
use Rattle.links.proofs.Laws.Between.{link-mirror}
use Rattle.answers.specs.declared.Refusal.TheVariants.{NoSuchNode}
use Rattle.std.specs.Prelude.{Ok, Err}
use Rattle.ends.specs.declared.Ends.{Ends}
use Rattle.answers.specs.Answer.{Tested, done, passed, need, if_refused}
use Rattle.ends.specs.Ends.{ends_of, turned}
use Rattle.cursor.specs.declared.Cursor.{Cursor}
use Rattle.cursor.specs.declared.Edited.{Edited}
use Rattle.cursor.specs.Cursor.{cursor_of, null_cursor, turned_cursor, edited, acquire_node}
use Rattle.cursor.specs.Edits.{unless_refused}
use Rattle.cursor.specs.Plain.{Place, at, at_null, nodes, mirror, Sound}
use Rattle.cursor.proofs.Laws.Alone.{more-alone}
use Rattle.cursor.proofs.Laws.Mirror.{mirror-mirror, all-mirror, all-unmirror, sound-mirror}
use Rattle.insert.specs.Inserts.{inserted_after, inserted_before, insert_after, insert_before}
use Rattle.cursor.specs.Does.{Plain, plain, linking, free_test, Does, linked_in}
use Rattle.insert.specs.Plain.{place_after, place_before, plain_insert_after, plain_insert_before}
use Rattle.cursor.proofs.Laws.Common.{sound-node-test}
use Rattle.insert.proofs.Laws.Insert.{insert-after-does}

-- what a call leaves, seen from the other side
abbrev pub turned_outcome : Outcome Edited → Outcome Edited
turned_outcome o = outcome o.words (edited o.result.answer (turned o.result.ends) (turned_cursor o.result.cursor))

abbrev pub turned_plain : Plain → Plain
turned_plain d = plain d.answer (mirror d.place) d.linked

-- ---- the steps, for any words and any cursor

steps-null : (ws : List ℕ) (e : Ends) (c : Cursor) (new : Name) → is_null c.current ≡ true
    → inserted_before ws e c new ≡ turned_outcome (inserted_after ws (turned e) (turned_cursor c) new)
unfolding inserted_after inserted_before
steps-null ws e c new n =
    let b = ends_of (cond (is_null e.head) new e.head) new in
    rw n (ap (λ (w : List ℕ). outcome w (edited done b (null_cursor b))) (link-mirror ws new.0 e.tail.0 0))

steps-node : (ws : List ℕ) (e : Ends) (c : Cursor) (new : Name) → is_null c.current ≡ false
    → inserted_before ws e c new ≡ turned_outcome (inserted_after ws (turned e) (turned_cursor c) new)
unfolding inserted_after inserted_before
steps-node ws e c new n =
    let b = ends_of (cond (is_null c.prev) new e.head) e.tail in
    rw n (ap (λ (w : List ℕ). outcome w (edited done b (cursor_of c.current new c.next))) (link-mirror ws new.0 c.prev.0 c.current.0))

pub inserted-mirror : (ws : List ℕ) (e : Ends) (c : Cursor) (new : Name)
    → inserted_before ws e c new ≡ turned_outcome (inserted_after ws (turned e) (turned_cursor c) new)
inserted-mirror ws e c new = go (is_null c.current) refl
  where
    go : (b : Bool) → is_null c.current ≡ b → inserted_before ws e c new ≡ turned_outcome (inserted_after ws (turned e) (turned_cursor c) new)
    go true n = steps-null ws e c new n
    go false n = steps-node ws e c new n

-- ---- the call, on a sound list

either_way : (t : Tested) (ws : List ℕ) (e : Ends) (c : Cursor) (x y : Outcome Edited) → x ≡ turned_outcome y
    → unless_refused t ws e c x ≡ turned_outcome (unless_refused t ws (turned e) (turned_cursor c) y)
either_way (Err r) ws e c x y k = refl
either_way (Ok u) ws e c x y k = k

module _ (ws : List ℕ) (e : Ends) (c : Cursor) (z : Place) (i : Node) (f : pool_fits (length ws) ≡ true) (s : Sound ws e c z) where
  pub insert-mirror : insert_before ws e c i ≡ turned_outcome (insert_after ws (turned e) (turned_cursor c) i)
  unfolding insert_before insert_after
  insert-mirror =
      rw (sound-node-test ws e c z i f s, sound-node-test ws (turned e) (turned_cursor c) (mirror z) i f (sound-mirror ws e c z s))
      (either_way t.result t.words e c _ _ (inserted-mirror t.words e c (naming i)))
    where
      t : Outcome Tested
      t = acquire_node ws (need (ltb i.0 (length ws)) NoSuchNode passed) (naming i)

  place-mirror : (z : Place) (m : ℕ) → place_before m z ≡ mirror (place_after m (mirror z))
  place-mirror (at L x R) m = rw (reverse-cons m (reverse L), reverse-reverse L, reverse-reverse R)
  place-mirror (at_null xs) m = rw (reverse-cons m (reverse xs), reverse-reverse xs)

  plain-mirror : plain_insert_before (length ws) (linked_in ws) i.0 z ≡ turned_plain (plain_insert_after (length ws) (linked_in ws) i.0 (mirror z))
  unfolding plain_insert_before plain_insert_after
  plain-mirror = go (free_test (length ws) (linked_in ws) i.0)
    where
      go : (t : Tested)
          → if_refused t (λ r. plain (Err r) z (linked_in ws)) (plain done (place_before i.0 z) (linking i.0 (linked_in ws)))
          ≡ turned_plain (if_refused t (λ r. plain (Err r) (mirror z) (linked_in ws))
          (plain done (place_after i.0 (mirror z)) (linking i.0 (linked_in ws))))
      go (Err r) = ap (λ (y : Place). plain (Err r) y (linked_in ws)) (sym (mirror-mirror z))
      go (Ok u) = ap (λ (y : Place). plain done y (linking i.0 (linked_in ws))) (place-mirror z i.0)

  -- a promise kept in the mirror is kept
  does-mirror : (o : Outcome Edited) (d : Plain) → Does ws (mirror z) o d → Does ws z (turned_outcome o) (turned_plain d)
  does-mirror o d k =
      record {
        answer = k.answer;
        sound = sound-mirror o.words o.result.ends o.result.cursor d.place k.sound;
        marks = k.marks;
        alone =
            more-alone ws o.words (nodes (mirror z)) (nodes d.place) (nodes z) (nodes (mirror d.place))
            (λ P. all-mirror P z) (λ P. all-unmirror P d.place) k.alone;
      }

  pub insert-before-does : Does ws z (insert_before ws e c i) (plain_insert_before (length ws) (linked_in ws) i.0 z)
  insert-before-does =
      rw (insert-mirror, plain-mirror)
      (does-mirror _ _ (insert-after-does ws (turned e) (turned_cursor c) (mirror z) i f (sound-mirror ws e c z s)))
