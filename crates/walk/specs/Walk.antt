-- The walk of a chain (document 01, 'Walk and audit'), over what a word is made of, over where a list ends, and over
-- marks that are set before it.
use Rattle.std.specs.Prelude.{ℕ, zero, suc, Bool, true, false, ◌&&◌, not, cond, List, [], ◌∷◌, eqb, length, get_or}
use Rattle.std.specs.Int.Bits.{bit_xor}
use Rattle.words.specs.Names.{is_name, node_of}
use Rattle.ends.specs.declared.Ends.{Ends}
use Rattle.ends.specs.Ends.{is_empty}
use Rattle.walk.specs.Marks.{elem, is_marked}

-- How a walk ends: whether where it should, with nothing after that; and the nodes that it stood on, the last one first.
pub record Walk : Type 0 where
  pub ok : Bool
  pub met : List ℕ

-- A walk can stand on w: a name in range, whose node has no mark and was not met.
unfoldable pub is_free : List ℕ → List ℕ → List ℕ → ℕ → Bool
is_free ws ms met w = is_name (length ws) w && not (is_marked ms (node_of w)) && not (elem (node_of w) met)

-- `far v p` is the name after a node whose word is v, p being named before it. Of a xor list it is v xor p; of a list
-- that is read forward only it would be v.
-- `stop w q` says that a list ends at w, q being named after it. It does at its tail; one that has no tail would end where q is null.
module _ (far : ℕ → ℕ → ℕ) (stop : ℕ → ℕ → Bool) where
  -- From w, with p named before it, over k nodes at the most. It stands on w if it can. Where the list ends, it is right
  -- if null is named after w; else it goes on to what is named there. All else is a fault.
  unfoldable pub walk_from : ℕ → List ℕ → List ℕ → List ℕ → ℕ → ℕ → Walk
  walk_from zero ws ms met p w = record { ok = false; met = met }
  walk_from (suc k) ws ms met p w =
      let x = node_of w in
      let q = far (get_or ws x 0) p in
      let on = walk_from k ws ms (x ∷ met) w q in
      cond (is_free ws ms met w)
      (cond (stop w q) (record { ok = eqb q 0; met = x ∷ met }) on)
      (record { ok = false; met = met })

-- A list with the tail t ends at t.
unfoldable pub at_tail : ℕ → ℕ → ℕ → Bool
at_tail t w q = eqb w t

-- The walk of a list from its head, over as many nodes as there are. An empty list has none to stand on.
unfoldable pub walk_of : List ℕ → List ℕ → Ends → Walk
walk_of ws ms e =
    cond (is_empty e)
    (record { ok = true; met = [] })
    (walk_from bit_xor (at_tail e.tail.0) (length ws) ws ms [] 0 e.head.0)
