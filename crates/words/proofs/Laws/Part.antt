-- A part of a listing: distinct nodes of the pool that are a chain between two outer names. Every edit is made of parts
-- that are split, joined, kept, and given another outer name by one store. Assumes nothing.
use mathlib.Core.Path.{◌≡◌, sym, ap, subst, ◌∙◌}
use mathlib.Core.Logic.{◌≢◌}
use mathlib.Core.List.{List, [], ◌∷◌, ◌++◌, reverse}
use Prim.Native.Nat.{ℕ, ◌+◌, ◌<◌}
use lib.ListN.{length, get_or, set}
use lib.Seq.{get_or-set_other, get_or-set_same}
use Rattle.words.specs.Names.{name}
use Rattle.words.specs.Pool.{word_at, put_at}
use Rattle.words.specs.Listing.{All, Off, Distinct, Apart, front, back, Chain}
use Rattle.words.specs.Changes.{Changes}
use Rattle.words.proofs.Laws.Nodes.{all_map, all_append, all_left, all_right, all-reverse, distinct_append, distinct-left, distinct-right, distinct-reverse}
use Rattle.words.proofs.Laws.Names.{name-inj, name-not-null}
use Rattle.words.proofs.Laws.Pool.{word-name, put-name, put-length, changes-put}
use Rattle.words.proofs.Laws.Chain.{chain-split, chain-join, chain-frame, chain-reverse, Symmetric, last_of, back_last, all-last}

-- no node of xs has the name w
abbrev pub Away : ℕ → List ℕ → Type 0
Away w xs = All (λ x. w ≢ name x) xs

pub away-null : (xs : List ℕ) → Away 0 xs
away-null [] = tt
away-null (x ∷ xs) = (λ e. name-not-null x (sym e), away-null xs)

pub away-node : (i : ℕ) (xs : List ℕ) → Off i xs → Away (name i) xs
away-node i xs o = all_map (λ x. x ≢ i) (λ x. name i ≢ name x) (λ x h e. h (sym (name-inj i x e))) xs o

-- the ends of a part are away from what shares no node with it
pub away-front : (xs ys : List ℕ) → Apart xs ys → Away (front xs 0) ys
away-front [] ys a = away-null ys
away-front (x ∷ xs) ys a = away-node x ys a.0

pub away-back : (xs ys : List ℕ) → Apart xs ys → Away (back 0 xs) ys
away-back [] ys a = away-null ys
away-back (x ∷ xs) ys a = rw (back_last 0 x xs) (away-node (last_of x xs) ys (all-last (λ z. Off z ys) x xs a))

-- a store leaves the pool as long as it was
ranged-put : (ws : List ℕ) (w v : ℕ) (xs : List ℕ) → All (λ x. x < length ws) xs → All (λ x. x < length (put_at ws w v)) xs
ranged-put ws w v =
    all_map (λ x. x < length ws) (λ x. x < length (put_at ws w v)) (λ x h. subst (λ n. x < n) (sym (put-length ws w v)) h)

-- a store at the name of the last node is a store at that node
put-last : (f : ℕ → ℕ) (ws : List ℕ) (x : ℕ) (xs : List ℕ)
    → put_at ws (back 0 (x ∷ xs)) (f (word_at ws (back 0 (x ∷ xs)))) ≡ set ws (last_of x xs) (f (get_or ws (last_of x xs) 0))
put-last f ws x xs =
    ap (λ w. put_at ws w (f (word_at ws w))) (back_last 0 x xs) ∙ put-name ws (last_of x xs) (f (word_at ws (name (last_of x xs))))
    ∙ ap (λ w. set ws (last_of x xs) (f w)) (word-name ws (last_of x xs))

module _ (word : ℕ → ℕ → ℕ) where
  pub record Part (ws : List ℕ) (p : ℕ) (xs : List ℕ) (q : ℕ) : Type 0 where
    pub distinct : Distinct xs
    pub ranged : All (λ x. x < length ws) xs
    pub chain : Chain word ws p xs q

  pub part_left : (ws : List ℕ) (p : ℕ) (xs ys : List ℕ) (q : ℕ) → Part ws p (xs ++ ys) q → Part ws p xs (front ys q)
  part_left ws p xs ys q h =
      record {
        distinct = distinct-left xs ys h.distinct;
        ranged = all_left (λ x. x < length ws) xs ys h.ranged;
        chain = (chain-split word ws p xs ys q h.chain).0;
      }

  pub part_right : (ws : List ℕ) (p : ℕ) (xs ys : List ℕ) (q : ℕ) → Part ws p (xs ++ ys) q → Part ws (back p xs) ys q
  part_right ws p xs ys q h =
      record {
        distinct = distinct-right xs ys h.distinct;
        ranged = all_right (λ x. x < length ws) xs ys h.ranged;
        chain = (chain-split word ws p xs ys q h.chain).1;
      }

  pub part_join : (ws : List ℕ) (p : ℕ) (xs ys : List ℕ) (q : ℕ) → Apart xs ys → Part ws p xs (front ys q) → Part ws (back p xs) ys q
      → Part ws p (xs ++ ys) q
  part_join ws p xs ys q a h k =
      record {
        distinct = distinct_append xs ys h.distinct k.distinct a;
        ranged = all_append (λ x. x < length ws) xs ys h.ranged k.ranged;
        chain = chain-join word ws p xs ys q h.chain k.chain;
      }

  -- what changes elsewhere keeps the part
  pub part-frame : (ns ws ws' : List ℕ) → Changes ns ws ws' → (p : ℕ) (xs : List ℕ) (q : ℕ) → All (λ x. Off (name x) ns) xs
      → Part ws p xs q → Part ws' p xs q
  part-frame ns ws ws' k p xs q o h =
      record {
        distinct = h.distinct;
        ranged = rw k.long h.ranged;
        chain = chain-frame word ns ws ws' k p xs q o h.chain;
      }

  pub part-keep : (ws : List ℕ) (w v p : ℕ) (xs : List ℕ) (q : ℕ) → Away w xs → Part ws p xs q → Part (put_at ws w v) p xs q
  part-keep ws w v p xs q a h =
      part-frame (w ∷ []) ws (put_at ws w v) (changes-put ws w v) p xs q (all_map (λ x. w ≢ name x) (λ x. Off (name x) (w ∷ [])) (λ x e. (e, tt)) xs a) h

  -- one node, with its word
  pub part-one : (ws : List ℕ) (p x q : ℕ) → x < length ws → get_or ws x 0 ≡ word p q → Part ws p (x ∷ []) q
  part-one ws p x q r e = record { distinct = (tt, tt); ranged = (r, tt); chain = (e, tt) }

  -- a store at the last node trades the name after a part
  after-at : (f : ℕ → ℕ) (q q' : ℕ) → ((p : ℕ) → f (word p q) ≡ word p q') → (ws : List ℕ) (p x : ℕ) (xs : List ℕ)
      → Distinct (x ∷ xs) → All (λ y. y < length ws) (x ∷ xs) → Chain word ws p (x ∷ xs) q
      → Chain word (set ws (last_of x xs) (f (get_or ws (last_of x xs) 0))) p (x ∷ xs) q'
  unfolding last_of
  after-at f q q' hf ws p x [] d r h = (get_or-set_same ws x _ 0 r.0 ∙ ap f h.0 ∙ hf p, tt)
  after-at f q q' hf ws p x (y ∷ ys) d r h = (
    get_or-set_other ws (last_of y ys) x _ 0 (λ e. all-last (λ z. z ≢ x) y ys d.0 (sym e)) ∙ h.0,
    after-at f q q' hf ws (name x) y ys d.1 r.1 h.1,
  )

  pub retarget-after : (f : ℕ → ℕ) (q q' : ℕ) → ((p : ℕ) → f (word p q) ≡ word p q') → (ws : List ℕ) (p : ℕ) (xs : List ℕ)
      → Part ws p xs q → Part (put_at ws (back 0 xs) (f (word_at ws (back 0 xs)))) p xs q'
  retarget-after f q q' hf ws p [] h = record { distinct = tt; ranged = tt; chain = tt }
  retarget-after f q q' hf ws p (x ∷ xs) h =
      record {
        distinct = h.distinct;
        ranged = ranged-put ws (back 0 (x ∷ xs)) (f (word_at ws (back 0 (x ∷ xs)))) (x ∷ xs) h.ranged;
        chain =
            subst (λ ws'. Chain word ws' p (x ∷ xs) q') (sym (put-last f ws x xs))
            (after-at f q q' hf ws p x xs h.distinct h.ranged h.chain);
      }

  -- a store at the first node trades the name before a part
  pub retarget-before : (g : ℕ → ℕ) (p p' : ℕ) → ((q : ℕ) → g (word p q) ≡ word p' q) → (ws : List ℕ) (xs : List ℕ) (q : ℕ)
      → Part ws p xs q → Part (put_at ws (front xs 0) (g (word_at ws (front xs 0)))) p' xs q
  retarget-before g p p' hg ws [] q h = record { distinct = tt; ranged = tt; chain = tt }
  retarget-before g p p' hg ws (x ∷ xs) q h =
      let v = g (word_at ws (name x)) in
      let away : Away (name x) xs = away-node x xs h.distinct.0 in
      let rest : Part (put_at ws (name x) v) (name x) xs q =
      part-keep ws (name x) v (name x) xs q away
      (record { distinct = h.distinct.1; ranged = h.ranged.1; chain = h.chain.1 }) in
      record {
        distinct = h.distinct;
        ranged = ranged-put ws (name x) v (x ∷ xs) h.ranged;
        chain = (
          rw (put-name ws x v) (get_or-set_same ws x v 0 h.ranged.0 ∙ ap g (word-name ws x ∙ h.chain.0) ∙ hg (front xs q)),
          rest.chain,
        );
      }

  pub part-reverse : Symmetric word → (ws : List ℕ) (p : ℕ) (xs : List ℕ) (q : ℕ) → Part ws p xs q → Part ws q (reverse xs) p
  part-reverse comm ws p xs q h =
      record {
        distinct = distinct-reverse xs h.distinct;
        ranged = all-reverse (λ x. x < length ws) xs h.ranged;
        chain = chain-reverse word comm ws p xs q h.chain;
      }
