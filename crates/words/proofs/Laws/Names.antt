-- Laws of names: a word is a name in range exactly if it is the name of a node in range. Assumes nothing.
use mathlib.Core.Path.{◌≡◌, refl, sym, ap, ◌∙◌}
use mathlib.Core.Bool.{Bool, true, false, ◌&&◌}
use Prim.Native.Nat.{ℕ, ◌/◌, ◌%◌, ◌-◌, ◌<◌, ◌≤◌}
use native.Mathlib.Omega.{arith}
use lib.Dec.{ltb, leb, eqb}
use borrow.Author.Tests.{lt-ltb, le-leb, lt-leb, eq-eqb, ltb-true, leb-true, eqb-true}
use Rattle.words.specs.declared.names.Node.{Node}
use Rattle.words.specs.declared.names.Name.{Name}
use Rattle.std.specs.Prelude.{Option, Some, None}
use Rattle.words.specs.Names.{name, node_of, is_name, pool_limit, pool_fits, decoding}
use Rattle.words.proofs.Laws.Cases.{both}

-- ---- the limit

-- how small a pool within the limit is: what the numbers of nodes, and their names, need to fit a word. No other law depends
-- on what the limit is.
pub fits-small : (n : ℕ) → pool_fits n ≡ true → n ≤ 16777216
unfolding pool_fits pool_limit
fits-small n h = let k = leb-true n pool_limit h in omega arith

-- ---- a name

pub node-name : (x : ℕ) → node_of (name x) ≡ x
node-name x = omega arith

pub name-inj : (x y : ℕ) → name x ≡ name y → x ≡ y
name-inj x y e = omega arith

pub name-not-null : (x : ℕ) → name x ≡ 0 → ⊥
name-not-null x e = omega arith

pub name-even : (x : ℕ) → name x % 2 ≡ 0
name-even x = omega arith

-- ---- the test

pub name-is : (n x : ℕ) → x < n → is_name n (name x) ≡ true
unfolding is_name
name-is n x h = rw (eq-eqb (name x % 2) 0 (omega arith), lt-ltb 0 (name x) (omega arith), le-leb (name x / 2) n (omega arith))

pub name-past : (n x : ℕ) → n ≤ x → is_name n (name x) ≡ false
unfolding is_name
name-past n x h = rw (eq-eqb (name x % 2) 0 (omega arith), lt-ltb 0 (name x) (omega arith), lt-leb (name x / 2) n (omega arith))

pub null-is-none : (n : ℕ) → is_name n 0 ≡ false
unfolding is_name
null-is-none n = refl

-- what a word that passes the test is
pub record Named (n w : ℕ) : Type 0 where
  pub even : w % 2 ≡ 0
  pub some : 0 < w / 2
  pub within : w / 2 ≤ n

pub named : (n w : ℕ) → is_name n w ≡ true → Named n w
unfolding is_name
named n w h =
    let a = both (eqb (w % 2) 0 && ltb 0 w) (leb (w / 2) n) h in
    let b = both (eqb (w % 2) 0) (ltb 0 w) a.0 in
    let e = eqb-true (w % 2) 0 b.0 in
    let s = ltb-true 0 w b.1 in
    record { even = e; some = omega arith; within = leb-true (w / 2) n a.1 }

-- the node that it names, which is below n
pub named-name : (n w : ℕ) → is_name n w ≡ true → w ≡ name (node_of w)
named-name n w h = let k = named n w h in omega arith

pub named-node : (n w : ℕ) → is_name n w ≡ true → node_of w < n
named-node n w h = let k = named n w h in omega arith

-- ---- decoding

-- a node that was decoded is in range, and the one that is named
pub record Decoded (n : ℕ) (w : Name) (i : Node) : Type 0 where
  pub here : is_name n w.0 ≡ true
  pub node : i.0 ≡ node_of w.0
  pub below : i.0 < n

node_in : Option Node → ℕ
node_in (Some i) = i.0
node_in None = 0

is_at : Option Node → Bool
is_at (Some i) = true
is_at None = false

decoded-named : (n : ℕ) (w : Name) (f : Option Node) → decoding n w ≡ f → is_name n w.0 ≡ is_at f
unfolding decoding is_at
decoded-named n w f e = go (is_name n w.0) refl
  where
    go : (b : Bool) → is_name n w.0 ≡ b → is_name n w.0 ≡ is_at f
    go true h = h ∙ ap is_at (rw h at e)
    go false h = h ∙ ap is_at (rw h at e)

pub decoded : (n : ℕ) (w : Name) (i : Node) → decoding n w ≡ Some i → Decoded n w i
unfolding decoding node_in is_at
decoded n w i e =
    let h : is_name n w.0 ≡ true = decoded-named n w (Some i) e in
    let k : node_of w.0 ≡ i.0 = ap node_in (rw h at e) in
    let b = named-node n w.0 h in
    record { here = h; node = sym k; below = rw (← k) b }

pub undecoded : (n : ℕ) (w : Name) → decoding n w ≡ None → is_name n w.0 ≡ false
unfolding is_at
undecoded n w e = decoded-named n w None e
