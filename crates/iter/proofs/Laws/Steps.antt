-- Over a listing the iterator gives the sequence from either end, in any mix of steps, until they meet. Assumes nothing.
use mathlib.Core.Path.{◌≡◌, refl, sym, ap, ◌∙◌}
use mathlib.Core.Logic.{◌≢◌}
use mathlib.Core.Bool.{Bool, true, false}
use mathlib.Core.List.{List, [], ◌∷◌, ◌++◌, reverse, reverse-append, reverse-reverse, append_assoc, append-nil}
use Prim.Native.Nat.{ℕ, ◌<◌}
use lib.Bits.{bit_xor}
use lib.Dec.{eqb}
use lib.ListN.{length}
use borrow.Author.Tests.{eq-eqb}
use Rattle.words.specs.declared.names.Name.{Name}
use Rattle.words.specs.Names.{name, is_null, is_name, pool_fits, decoding}
use Rattle.links.specs.XorOps.{next_of}
use Rattle.words.specs.Listing.{front, back, Listing}
use Rattle.links.proofs.Laws.Xor.{xor_comm, xor-twice-l}
use Rattle.words.proofs.Laws.Nodes.{all_left, all_right, distinct-right}
use Rattle.words.proofs.Laws.Names.{name-is, node-name}
use Rattle.words.proofs.Laws.Pool.{word-name}
use Rattle.words.proofs.Laws.Chain.{chain-split, back-append, front-reverse, back-reverse, last_of, back_last, all-last}
use Rattle.links.proofs.Laws.XorListing.{xor-listing-reverse}
use Rattle.std.specs.Prelude.{Some, Ok}
use Rattle.answers.specs.Answer.{Answer, done}
use Rattle.ends.specs.declared.Ends.{Ends}
use Rattle.ends.proofs.Laws.Holds.{name-null, name-other}
use Rattle.iter.specs.declared.Iter.{Iter}
use Rattle.iter.specs.Iter.{iter_of, over, turned_iter, stepped, next, next_back}
use Rattle.iter.specs.Plain.{first, rest, plain_run, iter_run, steps, handed_all}

abbrev Full : List ℕ → Type 0
Full [] = ⊥
Full (x ∷ xs) = Unit {0}

-- the iterator has the nodes M left, of a listing whose nodes A it has passed at the front and B at the back
pub record Left (ws : List ℕ) (it : Iter) (M : List ℕ) : Type 0 where
  pub h : ℕ
  pub t : ℕ
  pub A : List ℕ
  pub B : List ℕ
  pub listing : Listing bit_xor ws h t (A ++ (M ++ B))
  pub head : it.head.0 ≡ front M 0
  pub tail : it.tail.0 ≡ back 0 M
  pub ahead : Full M → it.prev_head.0 ≡ back 0 A
  pub behind : Full M → it.next_tail.0 ≡ front B 0

-- ---- seen from the other side

full-turned : (M : List ℕ) → Full (reverse M) → Full M
full-turned [] s = s
full-turned (x ∷ M) s = tt

pub left-turned : (ws : List ℕ) (it : Iter) (M : List ℕ) → Left ws it M → Left ws (turned_iter it) (reverse M)
left-turned ws it M k =
    let e : reverse (k.A ++ (M ++ k.B)) ≡ reverse k.B ++ (reverse M ++ reverse k.A) =
    reverse-append k.A (M ++ k.B) ∙ ap (λ (l : List ℕ). l ++ reverse k.A) (reverse-append M k.B)
    ∙ append_assoc (reverse k.B) (reverse M) (reverse k.A) in
    record {
      h = k.t;
      t = k.h;
      A = reverse k.B;
      B = reverse k.A;
      listing = rw e at (xor-listing-reverse ws k.h k.t (k.A ++ (M ++ k.B)) k.listing);
      head = k.tail ∙ sym (front-reverse 0 M);
      tail = k.head ∙ sym (back-reverse 0 M);
      ahead = λ s. k.behind (full-turned M s) ∙ sym (back-reverse 0 k.B);
      behind = λ s. k.ahead (full-turned M s) ∙ sym (front-reverse 0 k.A);
    }

-- ---- one step

handed_out : (n : ℕ) (w : Name) (x : ℕ) → x < n → w.0 ≡ name x → ◌≡◌ {A = Answer} (Ok (decoding n w)) (Ok (Some (record { 0 = x })))
unfolding decoding
handed_out n w x r e = rw (e, name-is n x r, node-name x)

-- what a step of the code is, by what is left
step-none : (ws : List ℕ) (it : Iter) → pool_fits (length ws) ≡ true → it.head.0 ≡ 0 → next ws it ≡ stepped done it
unfolding next
step-none ws it f h = rw (f, h)

step-last : (ws : List ℕ) (it : Iter) (x : ℕ) → pool_fits (length ws) ≡ true → x < length ws → it.head.0 ≡ name x → it.tail.0 ≡ name x
    → next ws it ≡ stepped (Ok (Some (record { 0 = x }))) over
unfolding next
step-last ws it x f r h t =
    let n : is_null it.head ≡ false = rw h (name-null x) in
    let i : is_name (length ws) it.head.0 ≡ true = rw h (name-is (length ws) x r) in
    let e : eqb it.head.0 it.tail.0 ≡ true = eq-eqb _ _ (h ∙ sym t) in
    rw (f, n, i, e, handed_out (length ws) it.head x r h)

step-on : (ws : List ℕ) (it : Iter) (x y : ℕ) → pool_fits (length ws) ≡ true → x < length ws → y < length ws → it.head.0 ≡ name x
    → eqb (name x) it.tail.0 ≡ false → next_of ws it.head.0 it.prev_head.0 ≡ name y
    → next ws it ≡ stepped (Ok (Some (record { 0 = x }))) (record { prev_head = it.head; head = record { 0 = name y }; tail = it.tail; next_tail = it.next_tail })
unfolding next
step-on ws it x y f r ry h t a =
    let n : is_null it.head ≡ false = rw h (name-null x) in
    let i : is_name (length ws) it.head.0 ≡ true = rw h (name-is (length ws) x r) in
    let e : eqb it.head.0 it.tail.0 ≡ false = rw h t in
    rw (f, n, i, e, a, name-is (length ws) y ry, handed_out (length ws) it.head x r h)

-- the name after a node of a listing
after-name : (ws : List ℕ) (h t : ℕ) (A : List ℕ) (x : ℕ) (R : List ℕ) → Listing bit_xor ws h t (A ++ x ∷ R) → next_of ws (name x) (back 0 A) ≡ front R 0
unfolding next_of
after-name ws h t A x R l =
    let s = (chain-split bit_xor ws 0 A (x ∷ R) 0 l.chain).1 in
    rw (word-name ws x, s.0, xor_comm (bit_xor (back 0 A) (front R 0)) (back 0 A)) (xor-twice-l (back 0 A) (front R 0))

pub left-next : (ws : List ℕ) (it : Iter) (M : List ℕ) → pool_fits (length ws) ≡ true → Left ws it M
    → ((next ws it).answer ≡ first M) × Left ws (next ws it).iter (rest M)
left-next ws it [] f k = rw (step-none ws it f k.head) (refl, k)
left-next ws it (x ∷ []) f k =
    let r = (all_right (λ y. y < length ws) k.A (x ∷ k.B) k.listing.ranged).0 in
    rw (step-last ws it x f r k.head k.tail) (
      refl,
      record {
        h = k.h;
        t = k.t;
        A = k.A ++ x ∷ [];
        B = k.B;
        listing = rw (append_assoc k.A (x ∷ []) k.B) k.listing;
        head = refl;
        tail = refl;
        ahead = λ s. absurd s;
        behind = λ s. absurd s;
      },
    )
left-next ws it (x ∷ y ∷ M) f k =
    let rs = all_right (λ v. v < length ws) k.A (x ∷ y ∷ (M ++ k.B)) k.listing.ranged in
    let d = distinct-right k.A (x ∷ y ∷ (M ++ k.B)) k.listing.distinct in
    let far : eqb (name x) it.tail.0 ≡ false =
    rw (k.tail, back_last 0 y M) (name-other x (last_of y M) (all-last (λ v. v ≢ x) y M (all_left (λ v. v ≢ x) (y ∷ M) k.B d.0))) in
    let a : next_of ws it.head.0 it.prev_head.0 ≡ name y =
    rw (k.head, k.ahead tt) (after-name ws k.h k.t k.A x (y ∷ (M ++ k.B)) k.listing) in
    rw (step-on ws it x y f rs.0 rs.1.0 k.head far a) (
      refl,
      record {
        h = k.h;
        t = k.t;
        A = k.A ++ x ∷ [];
        B = k.B;
        listing = rw (append_assoc k.A (x ∷ []) (y ∷ (M ++ k.B))) k.listing;
        head = refl;
        tail = k.tail;
        ahead = λ s. k.head ∙ sym (back-append 0 k.A (x ∷ []));
        behind = λ s. k.behind tt;
      },
    )

pub left_back : (ws : List ℕ) (it : Iter) (M : List ℕ) → pool_fits (length ws) ≡ true → Left ws it M
    → ((next_back ws it).answer ≡ first (reverse M)) × Left ws (next_back ws it).iter (reverse (rest (reverse M)))
unfolding next_back
left_back ws it M f k =
    let s = left-next ws (turned_iter it) (reverse M) f (left-turned ws it M k) in
    (s.0, left-turned ws (next ws (turned_iter it)).iter (rest (reverse M)) s.1)

-- ---- any mix of steps

both : (a b : Answer) (u v : List Answer) → a ≡ b → u ≡ v → a ∷ u ≡ b ∷ v
both a b u v p q = cc

run : (ws : List ℕ) (bs : List Bool) (it : Iter) (M : List ℕ) → pool_fits (length ws) ≡ true → Left ws it M → iter_run ws bs it ≡ plain_run bs M
run ws [] it M f k = refl
run ws (true ∷ bs) it M f k =
    let s = left-next ws it M f k in
    both _ _ _ _ s.0 (run ws bs (next ws it).iter (rest M) f s.1)
run ws (false ∷ bs) it M f k =
    let s = left_back ws it M f k in
    both _ _ _ _ s.0 (run ws bs (next_back ws it).iter (reverse (rest (reverse M))) f s.1)

-- iterating over a listing is taking nodes from the two ends of the sequence
pub iterates : (ws : List ℕ) (e : Ends) (xs : List ℕ) (bs : List Bool) → pool_fits (length ws) ≡ true
    → Listing bit_xor ws e.head.0 e.tail.0 xs → iter_run ws bs (iter_of e) ≡ plain_run bs xs
iterates ws e xs bs f l =
    run ws bs (iter_of e) xs f
    (record {
      h = e.head.0;
      t = e.tail.0;
      A = [];
      B = [];
      listing = rw (append-nil xs) l;
      head = sym l.first;
      tail = sym l.last;
      ahead = λ s. refl;
      behind = λ s. refl;
    })

-- ---- from one side alone

plain-forward : (xs : List ℕ) → plain_run (steps true xs) xs ≡ handed_all xs
plain-forward [] = refl
plain-forward (x ∷ xs) = both _ _ _ _ refl (plain-forward xs)

plain-backward : (ys : List ℕ) → plain_run (steps false ys) (reverse ys) ≡ handed_all ys
plain-backward [] = refl
plain-backward (y ∷ ys) = rw (reverse-reverse (y ∷ ys)) (both _ _ _ _ refl (plain-backward ys))

-- forward, the sequence
pub forward : (ws : List ℕ) (e : Ends) (xs : List ℕ) → pool_fits (length ws) ≡ true → Listing bit_xor ws e.head.0 e.tail.0 xs
    → iter_run ws (steps true xs) (iter_of e) ≡ handed_all xs
forward ws e xs f l = iterates ws e xs (steps true xs) f l ∙ plain-forward xs

-- backward, its reverse
pub backward : (ws : List ℕ) (e : Ends) (xs : List ℕ) → pool_fits (length ws) ≡ true → Listing bit_xor ws e.head.0 e.tail.0 xs
    → iter_run ws (steps false (reverse xs)) (iter_of e) ≡ handed_all (reverse xs)
backward ws e xs f l =
    iterates ws e xs (steps false (reverse xs)) f l
    ∙ ap (plain_run (steps false (reverse xs))) (sym (reverse-reverse xs)) ∙ plain-backward (reverse xs)
