-- Laws of reading and storing by name, and of how much a store changes. Assumes nothing.
use mathlib.Core.Path.{◌≡◌, refl, sym, ap, ◌∙◌}
use mathlib.Core.Logic.{◌≢◌, ◌⊎◌, ⊎_elim}
use mathlib.Core.Bool.{Bool, true, false, cond}
use mathlib.Core.List.{List, [], ◌∷◌, ◌++◌}
use Prim.Native.Nat.{ℕ, ◌+◌, ◌-◌, ◌≤◌}
use lib.Dec.{lit≤}
use lib.ListN.{length, get_or, set, length-set, get_or-eq_default}
use lib.Seq.{get_or-set_same, get_or-set_other, set_out, set-set, set_comm}
use Rattle.words.specs.Names.{name, node_of, is_name}
use Rattle.words.specs.Pool.{word_at, put_at, Outcome, outcome}
use Rattle.words.specs.Changes.{Changes, AtMostFour}
use Rattle.words.proofs.Laws.Cases.{below_or_not, true-or-false}
use Rattle.words.proofs.Laws.Nodes.{all_left, all_right}
use Rattle.words.proofs.Laws.Names.{node-name, name-is, name-past, null-is-none, named-name, named-node}

-- ---- at a node's name, in range or not; at null; at what is no name

pub word-name : (ws : List ℕ) (x : ℕ) → word_at ws (name x) ≡ get_or ws x 0
unfolding word_at
word-name ws x =
    ⊎_elim (λ h. rw (name-is (length ws) x h, node-name x))
    (λ h. rw (name-past (length ws) x h) (sym (get_or-eq_default ws 0 h))) (below_or_not x (length ws))

pub put-name : (ws : List ℕ) (x v : ℕ) → put_at ws (name x) v ≡ set ws x v
unfolding put_at
put-name ws x v =
    ⊎_elim (λ h. rw (name-is (length ws) x h, node-name x))
    (λ h. rw (name-past (length ws) x h) (sym (set_out ws x v h))) (below_or_not x (length ws))

pub word_none : (ws : List ℕ) (w : ℕ) → is_name (length ws) w ≡ false → word_at ws w ≡ 0
unfolding word_at
word_none ws w h = rw h

pub put-none : (ws : List ℕ) (w v : ℕ) → is_name (length ws) w ≡ false → put_at ws w v ≡ ws
unfolding put_at
put-none ws w v h = rw h

pub put-null : (ws : List ℕ) (v : ℕ) → put_at ws 0 v ≡ ws
put-null ws v = put-none ws 0 v (null-is-none (length ws))

pub put-length : (ws : List ℕ) (w v : ℕ) → length (put_at ws w v) ≡ length ws
unfolding put_at
put-length ws w v =
    ⊎_elim (λ h. rw h (length-set ws (node_of w) v)) (λ h. rw h) (true-or-false (is_name (length ws) w))

-- ---- two stores

pub word-put-same : (ws : List ℕ) (w v : ℕ) → is_name (length ws) w ≡ true → word_at (put_at ws w v) w ≡ v
unfolding word_at put_at
word-put-same ws w v h =
    rw (h, length-set ws (node_of w) v, h) (get_or-set_same ws (node_of w) v 0 (named-node (length ws) w h))

pub word-put-other : (ws : List ℕ) (w v u : ℕ) → u ≢ w → word_at (put_at ws w v) u ≡ word_at ws u
word-put-other ws w v u ne =
    ⊎_elim (λ h. ⊎_elim (λ k. in-range h k) (λ k. word_none (put_at ws w v) u (rw (put-length ws w v) k) ∙ sym (word_none ws u k)) (true-or-false (is_name (length ws) u)))
    (λ h. ap (λ (l : List ℕ). word_at l u) (put-none ws w v h)) (true-or-false (is_name (length ws) w))
  where
    in-range : is_name (length ws) w ≡ true → is_name (length ws) u ≡ true → word_at (put_at ws w v) u ≡ word_at ws u
    in-range h k =
        let a = named-name (length ws) w h in
        let b = named-name (length ws) u k in
        let d : node_of u ≢ node_of w = λ e. ne (b ∙ ap name e ∙ sym a) in
        rw (a, b, put-name ws (node_of w) v, word-name (set ws (node_of w) v) (node_of u), word-name ws (node_of u))
        (get_or-set_other ws (node_of w) (node_of u) v 0 d)

pub put-put : (ws : List ℕ) (w v v' : ℕ) → put_at (put_at ws w v) w v' ≡ put_at ws w v'
put-put ws w v v' =
    ⊎_elim (λ h. in-range h) (λ h. ap (λ (l : List ℕ). put_at l w v') (put-none ws w v h)) (true-or-false (is_name (length ws) w))
  where
    in-range : is_name (length ws) w ≡ true → put_at (put_at ws w v) w v' ≡ put_at ws w v'
    in-range h =
        let a = named-name (length ws) w h in
        rw (a, put-name ws (node_of w) v, put-name (set ws (node_of w) v) (node_of w) v', put-name ws (node_of w) v') (set-set ws (node_of w) v v')

pub put-comm : (ws : List ℕ) (w v u k : ℕ) → w ≢ u → put_at (put_at ws w v) u k ≡ put_at (put_at ws u k) w v
put-comm ws w v u k ne =
    ⊎_elim (λ h. ⊎_elim (λ g. in-range h g) (λ g. put-none (put_at ws w v) u k (rw (put-length ws w v) g) ∙ sym (ap (λ (l : List ℕ). put_at l w v) (put-none ws u k g))) (true-or-false (is_name (length ws) u)))
    (λ h. ap (λ (l : List ℕ). put_at l u k) (put-none ws w v h) ∙ sym (put-none (put_at ws u k) w v (rw (put-length ws u k) h)))
    (true-or-false (is_name (length ws) w))
  where
    in-range : is_name (length ws) w ≡ true → is_name (length ws) u ≡ true → put_at (put_at ws w v) u k ≡ put_at (put_at ws u k) w v
    in-range h g =
        let a = named-name (length ws) w h in
        let b = named-name (length ws) u g in
        let i = node_of w in
        let j = node_of u in
        let d : i ≢ j = λ e. ne (a ∙ ap name e ∙ sym b) in
        rw (a, b, put-name ws i v, put-name (set ws i v) j k, put-name ws j k, put-name (set ws j k) i v) (set_comm ws i j v k d)

-- ---- how much is changed

pub changes-none : (ws : List ℕ) → Changes [] ws ws
changes-none ws = record { long = refl; same = λ i o. refl }

pub changes-put : (ws : List ℕ) (w v : ℕ) → Changes (w ∷ []) ws (put_at ws w v)
changes-put ws w v = record { long = put-length ws w v; same = λ i o. sym (word-name (put_at ws w v) i) ∙ word-put-other ws w v (name i) (λ e. o.0 (sym e)) ∙ word-name ws i }

pub changes-then : (ns ms a b c : List ℕ) → Changes ns a b → Changes ms b c → Changes (ns ++ ms) a c
changes-then ns ms a b c h k =
    record {
      long = k.long ∙ h.long;
      same = λ i o. k.same i (all_right (λ w. w ≢ name i) ns ms o) ∙ h.same i (all_left (λ w. w ≢ name i) ns ms o);
    }

-- a call that leaves everything, and one that may
pub few-none : (ws : List ℕ) → AtMostFour ws ws
few-none ws = record { names = []; few = lit≤ tt; changes = changes-none ws }

pub few-unless : {A : Type 0} (b : Bool) (ws : List ℕ) (r : A) (o : Outcome A) → AtMostFour ws o.words
    → AtMostFour ws (cond b (outcome ws r) o).words
few-unless true ws r o k = few-none ws
few-unless false ws r o k = k
