-- Laws of one step of a walk, whatever a word is made of and wherever a list ends. Assumes nothing.
use mathlib.Core.Path.{◌≡◌, refl}
use mathlib.Core.Bool.{Bool, true, false, ◌&&◌, ◌||◌, not}
use mathlib.Core.List.{List, ◌∷◌}
use Prim.Native.Nat.{ℕ, suc, ◌<◌}
use lib.Dec.{eqb}
use lib.ListN.{length, get_or}
use borrow.Author.Tests.{not-true}
use Rattle.words.specs.Names.{name, node_of, is_name}
use Rattle.words.proofs.Laws.Cases.{both}
use Rattle.words.proofs.Laws.Names.{named-name, named-node, name-is, node-name}
use Rattle.walk.specs.Marks.{elem, is_marked}
use Rattle.walk.specs.Walk.{is_free, walk_from}

-- ---- where a walk can stand

-- what it is for a walk to be able to stand on w
pub record Free (ws ms met : List ℕ) (w : ℕ) : Type 0 where
  pub name_of : w ≡ name (node_of w)
  pub below : node_of w < length ws
  pub unmarked : is_marked ms (node_of w) ≡ false
  pub unmet : elem (node_of w) met ≡ false

pub free : (ws ms met : List ℕ) (w : ℕ) → is_free ws ms met w ≡ true → Free ws ms met w
unfolding is_free
free ws ms met w h =
    let a = both (is_name (length ws) w && not (is_marked ms (node_of w))) (not (elem (node_of w) met)) h in
    let b = both (is_name (length ws) w) (not (is_marked ms (node_of w))) a.0 in
    record {
      name_of = named-name (length ws) w b.0;
      below = named-node (length ws) w b.0;
      unmarked = not_back (is_marked ms (node_of w)) b.1;
      unmet = not_back (elem (node_of w) met) a.1;
    }
  where
    not_back : (t : Bool) → not t ≡ true → t ≡ false
    not_back t k = not-true t k

-- of a name in range, by its mark and by the nodes met
pub free-is : (ws ms met : List ℕ) (w : ℕ) → is_name (length ws) w ≡ true
    → is_free ws ms met w ≡ not (is_marked ms (node_of w) || elem (node_of w) met)
unfolding is_free
free-is ws ms met w h = rw h (go (is_marked ms (node_of w)) (elem (node_of w) met))
  where
    go : (a b : Bool) → (not a && not b) ≡ not (a || b)
    go true b = refl
    go false b = refl

-- what is no name in range
pub free-none : (ws ms met : List ℕ) (w : ℕ) → is_name (length ws) w ≡ false → is_free ws ms met w ≡ false
unfolding is_free
free-none ws ms met w h = rw h

-- at a node
pub free-node : (ws ms met : List ℕ) (x : ℕ) → x < length ws → is_marked ms x ≡ false → elem x met ≡ false
    → is_free ws ms met (name x) ≡ true
unfolding is_free
free-node ws ms met x r a b = rw (name-is (length ws) x r, node-name x, a, b)

-- ---- one step

module _ (far : ℕ → ℕ → ℕ) (stop : ℕ → ℕ → Bool) where
  pub step-dry : (ws ms met : List ℕ) (p w : ℕ) → walk_from far stop 0 ws ms met p w ≡ record { ok = false; met = met }
  unfolding walk_from
  step-dry ws ms met p w = refl

  module _ (k : ℕ) (ws ms met : List ℕ) (p w : ℕ) where
    pub step-fault : is_free ws ms met w ≡ false → walk_from far stop (suc k) ws ms met p w ≡ record { ok = false; met = met }
    unfolding walk_from
    step-fault a = rw a

    pub step_end : is_free ws ms met w ≡ true → stop w (far (get_or ws (node_of w) 0) p) ≡ true
        → walk_from far stop (suc k) ws ms met p w ≡ record { ok = eqb (far (get_or ws (node_of w) 0) p) 0; met = node_of w ∷ met }
    unfolding walk_from
    step_end a b = rw (a, b)

    pub step-on : is_free ws ms met w ≡ true → stop w (far (get_or ws (node_of w) 0) p) ≡ false
        → walk_from far stop (suc k) ws ms met p w ≡ walk_from far stop k ws ms (node_of w ∷ met) w (far (get_or ws (node_of w) 0) p)
    unfolding walk_from
    step-on a b = rw (a, b)

  -- the three ways that a step can go
  pub data View (ws ms met : List ℕ) (p w : ℕ) : Type 0 where
    fault : is_free ws ms met w ≡ false → View ws ms met p w
    ended : is_free ws ms met w ≡ true → stop w (far (get_or ws (node_of w) 0) p) ≡ true → View ws ms met p w
    on : is_free ws ms met w ≡ true → stop w (far (get_or ws (node_of w) 0) p) ≡ false → View ws ms met p w

  pub view : (ws ms met : List ℕ) (p w : ℕ) → View ws ms met p w
  view ws ms met p w = go (is_free ws ms met w) refl (stop w (far (get_or ws (node_of w) 0) p)) refl
    where
      go : (a : Bool) → is_free ws ms met w ≡ a → (b : Bool) → stop w (far (get_or ws (node_of w) 0) p) ≡ b → View ws ms met p w
      go false ea b eb = fault ea
      go true ea true eb = ended ea eb
      go true ea false eb = on ea eb
