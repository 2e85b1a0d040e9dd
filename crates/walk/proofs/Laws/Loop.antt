-- The loop of a walk: where it stands after some nodes, and how it comes out. Assumes nothing.
use mathlib.Core.Path.{◌≡◌, refl, sym, ap, ◌∙◌}
use mathlib.Core.Logic.{◌≢◌}
use mathlib.Core.Bool.{Bool, true, false, not}
use mathlib.Core.List.{List, [], ◌∷◌}
use Prim.Native.Nat.{ℕ, suc, ◌+◌, ◌-◌, ◌<◌, ◌≤◌}
use native.Mathlib.Omega.{arith}
use lib.Bits.{bit_xor}
use lib.Dec.{eqb}
use lib.ListN.{length, get_or, set}
use borrow.Author.Tests.{eq-eqb, ne_eqb}
use Rattle.words.specs.Names.{node_of, is_name, pool_fits}
use Rattle.words.specs.Pool.{word_at}
use Rattle.links.specs.XorOps.{next_of}
use Rattle.words.proofs.Laws.Names.{fits-small, named-node}
use Rattle.walk.specs.declared.step.Stood.{Stood}
use Rattle.walk.specs.Marks.{is_marked, paint, Marking, marking}
use Rattle.walk.specs.Walk.{is_free, walk_from, at_tail}
use Rattle.walk.specs.Calls.{stood}
use Rattle.walk.proofs.Laws.Marks.{marked-or-met}
use Rattle.walk.proofs.Laws.Step.{free-is, free-none, step-dry, step-fault, step_end, step-on}

-- ---- numbers and names

-- a count of nodes is a 32-bit number, and so is the next one
pub fits_word : (n : ℕ) → pool_fits n ≡ true → n < 2147483648
fits_word n h = let k = fits-small n h in omega arith

-- the name after a name in range
pub next-is : (ws : List ℕ) (w p : ℕ) → is_name (length ws) w ≡ true → next_of ws w p ≡ bit_xor (get_or ws (node_of w) 0) p
unfolding next_of word_at
next-is ws w p h = rw h

-- whether it is at the tail
pub at-tail : (t w q : ℕ) {b : Bool} → eqb w t ≡ b → at_tail t w q ≡ b
unfolding at_tail
at-tail t w q e = e

-- ---- the loop

module _ (far : ℕ → ℕ → ℕ) (stop : ℕ → ℕ → Bool) where
  -- A walk from h that marks with m stands at `at`, `prev` before it, after `count` nodes.
  pub record Walks (ws ms : List ℕ) (m h : ℕ) (marks : List ℕ) (at prev count : ℕ) : Type 0 where
    pub under : count ≤ length ws
    pub met : List ℕ
    pub painted : marks ≡ paint ms m met
    pub counted : count ≡ length met
    pub same : walk_from far stop (length ws) ws ms [] 0 h ≡ walk_from far stop (length ws - count) ws ms met prev at

  pub walks-start : (ws ms : List ℕ) (m h : ℕ) → Walks ws ms m h ms h 0 0
  unfolding paint
  walks-start ws ms m h =
      let z : length ws ≡ length ws - 0 = omega arith in
      record {
        under = omega arith;
        met = [];
        painted = refl;
        counted = refl;
        same = ap (λ (k : ℕ). walk_from far stop k ws ms [] 0 h) z;
      }

  -- it comes out so: the verdict, the marks and the count
  abbrev pub EndsSo : List ℕ → List ℕ → ℕ → ℕ → Bool → List ℕ → ℕ → Type 0
  EndsSo ws ms m h b marks count =
      ◌≡◌ {A = Marking Stood} (marking marks (record { ok = b; count = count })) (stood ms m (walk_from far stop (length ws) ws ms [] 0 h))

  module _ (ws ms : List ℕ) (m h : ℕ) (marks : List ℕ) (at prev count : ℕ) (w : Walks ws ms m h marks at prev count) where
    ends_so : (b : Bool) (marks' : List ℕ) (count' : ℕ) (met : List ℕ) → marks' ≡ paint ms m met → count' ≡ length met
        → walk_from far stop (length ws) ws ms [] 0 h ≡ record { ok = b; met = met } → EndsSo ws ms m h b marks' count'
    unfolding stood
    ends_so b marks' count' met p q r = rw (p, q, r)

    fuel : count < length ws → walk_from far stop (length ws) ws ms [] 0 h ≡ walk_from far stop (suc (length ws - (count + 1))) ws ms w.met prev at
    fuel lt =
        let z : length ws - count ≡ suc (length ws - (count + 1)) = omega arith in
        w.same ∙ ap (λ (k : ℕ). walk_from far stop k ws ms w.met prev at) z

    -- every node was stood on, and it would go on
    pub ends-dry : length ws ≤ count → EndsSo ws ms m h false marks (length ws)
    ends-dry ge =
        let z : length ws - count ≡ 0 = omega arith in
        let all : length ws ≡ length w.met = let u = w.under in let c = w.counted in omega arith in
        ends_so false marks (length ws) w.met w.painted all
        (w.same ∙ ap (λ (k : ℕ). walk_from far stop k ws ms w.met prev at) z ∙ step-dry far stop ws ms w.met prev at)

    module _ (lt : count < length ws) where
      fault : is_free ws ms w.met at ≡ false → EndsSo ws ms m h false marks count
      fault f =
          ends_so false marks count w.met w.painted w.counted
          (fuel lt ∙ step-fault far stop (length ws - (count + 1)) ws ms w.met prev at f)

      -- what it came to is no name in range
      pub ends-lost : is_name (length ws) at ≡ false → EndsSo ws ms m h false marks count
      ends-lost e = fault (free-none ws ms w.met at e)

      module _ (long : length ms ≡ length ws) (nz : m ≢ 0) (nm : is_name (length ws) at ≡ true) where
        free-by-mark : is_free ws ms w.met at ≡ eqb (get_or marks (node_of at) 0) 0
        unfolding is_marked
        free-by-mark =
            free-is ws ms w.met at nm
            ∙ ap not (sym (marked-or-met ms m w.met (node_of at) nz (rw long (named-node (length ws) at nm))))
            ∙ ap (λ (l : List ℕ). not (is_marked l (node_of at))) (sym w.painted) ∙ twice (eqb (get_or marks (node_of at) 0) 0)
          where
            twice : (b : Bool) → not (not b) ≡ b
            twice true = refl
            twice false = refl

        freed : get_or marks (node_of at) 0 ≤ 0 → is_free ws ms w.met at ≡ true
        freed new = free-by-mark ∙ eq-eqb (get_or marks (node_of at) 0) 0 (omega arith)

        painted' : set marks (node_of at) m ≡ paint ms m (node_of at ∷ w.met)
        unfolding paint
        painted' = ap (λ (l : List ℕ). set l (node_of at) m) w.painted

        counted' : count + 1 ≡ length (node_of at ∷ w.met)
        counted' = let c = w.counted in omega arith

        -- x is the node stood on, and q the name after it
        module _ (x : ℕ) (this : x ≡ node_of at) (q : ℕ) (next : q ≡ far (get_or ws (node_of at) 0) prev) where
          -- the node has a mark: it was met, or is another list's
          pub ends-again : 0 < get_or marks x 0 → EndsSo ws ms m h false marks count
          ends-again e =
              let some : 0 < get_or marks (node_of at) 0 = rw this at e in
              fault (free-by-mark ∙ ne_eqb (get_or marks (node_of at) 0) 0 (λ z. omega arith))

          -- the list ends here
          pub ends-here : get_or marks x 0 ≤ 0 → stop at q ≡ true → EndsSo ws ms m h (eqb q 0) (set marks x m) (count + 1)
          ends-here new e =
              rw (this, next)
              (ends_so _ _ _ (node_of at ∷ w.met) painted' counted'
              (fuel lt ∙ step_end far stop (length ws - (count + 1)) ws ms w.met prev at (freed (rw this at new)) (rw next at e)))

          -- it goes on
          pub walks-on : get_or marks x 0 ≤ 0 → stop at q ≡ false → Walks ws ms m h (set marks x m) q at (count + 1)
          walks-on new e =
              rw (this, next)
              (record {
                under = omega arith;
                met = node_of at ∷ w.met;
                painted = painted';
                counted = counted';
                same = fuel lt ∙ step-on far stop (length ws - (count + 1)) ws ms w.met prev at (freed (rw this at new)) (rw next at e);
              })
