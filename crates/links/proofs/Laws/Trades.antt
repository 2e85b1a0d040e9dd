-- `replace_next_or_prev` trades one neighbour for another: what it makes of a part of a listing, and that trades may be made
-- in any order. Assumes nothing.
use mathlib.Core.Path.{◌≡◌, sym, ap, ◌∙◌}
use mathlib.Core.Logic.{◌≢◌, ⊎_elim}
use mathlib.Core.Bool.{true}
use mathlib.Core.List.{List}
use Prim.Native.Nat.{ℕ}
use lib.Bits.{bit_xor}
use lib.ListN.{length}
use Rattle.words.specs.Names.{is_name}
use Rattle.words.specs.Pool.{word_at, put_at}
use Rattle.links.specs.XorOps.{replace_next_or_prev}
use Rattle.words.specs.Listing.{front, back}
use Rattle.words.proofs.Laws.Cases.{same_or_not, true-or-false}
use Rattle.links.proofs.Laws.Xor.{xor_comm, xor-twice-r, xor-twice-l, xor-swap}
use Rattle.words.proofs.Laws.Pool.{word-put-same, word-put-other, put-none, put-put, put-comm}
use Rattle.words.proofs.Laws.Part.{Part, Away, part-keep, retarget-after, retarget-before}

-- ---- the xor list: `replace_next_or_prev` is the retarget, on either side

pub trade-after : (q q' : ℕ) (ws : List ℕ) (p : ℕ) (xs : List ℕ) → Part bit_xor ws p xs q
    → Part bit_xor (replace_next_or_prev ws (back 0 xs) q q') p xs q'
unfolding replace_next_or_prev
trade-after q q' ws p xs h =
    retarget-after bit_xor (λ v. bit_xor (bit_xor v q) q') q q' (λ a. ap (λ (z : ℕ). bit_xor z q') (xor-twice-r a q)) ws p xs h

pub trade-before : (p p' : ℕ) (ws : List ℕ) (xs : List ℕ) (q : ℕ) → Part bit_xor ws p xs q
    → Part bit_xor (replace_next_or_prev ws (front xs 0) p p') p' xs q
unfolding replace_next_or_prev
trade-before p p' ws xs q h =
    retarget-before bit_xor (λ v. bit_xor (bit_xor v p) p') p p'
    (λ b. ap (λ (z : ℕ). bit_xor z p') (xor_comm (bit_xor p b) p ∙ xor-twice-l p b) ∙ xor_comm b p') ws xs q h

pub trade-keep : (ws : List ℕ) (w old new p : ℕ) (xs : List ℕ) (q : ℕ) → Away w xs → Part bit_xor ws p xs q
    → Part bit_xor (replace_next_or_prev ws w old new) p xs q
unfolding replace_next_or_prev
trade-keep ws w old new p xs q a h = part-keep bit_xor ws w _ p xs q a h

-- ---- trades of neighbours may be made in any order, at any places

pub trades-comm : (ws : List ℕ) (w a b u c d : ℕ)
    → replace_next_or_prev (replace_next_or_prev ws w a b) u c d ≡ replace_next_or_prev (replace_next_or_prev ws u c d) w a b
unfolding replace_next_or_prev
trades-comm ws w a b u c d = ⊎_elim same other (same_or_not w u)
  where
    once : (ws : List ℕ) (w a b c d : ℕ) → is_name (length ws) w ≡ true
        → put_at (put_at ws w (bit_xor (bit_xor (word_at ws w) a) b)) w (bit_xor (bit_xor (word_at (put_at ws w (bit_xor (bit_xor (word_at ws w) a) b)) w) c) d)
        ≡ put_at ws w (bit_xor (bit_xor (bit_xor (bit_xor (word_at ws w) a) b) c) d)
    once ws w a b c d h = rw (word-put-same ws w (bit_xor (bit_xor (word_at ws w) a) b) h) (put-put ws w _ _)

    four : (v a b c d : ℕ) → bit_xor (bit_xor (bit_xor (bit_xor v a) b) c) d ≡ bit_xor (bit_xor (bit_xor (bit_xor v c) d) a) b
    four v a b c d =
        rw (xor-swap (bit_xor v a) b c, xor-swap v a c, xor-swap (bit_xor (bit_xor v c) a) b d, xor-swap (bit_xor v c) a d)

    same : w ≡ u → put_at (put_at ws w (bit_xor (bit_xor (word_at ws w) a) b)) u (bit_xor (bit_xor (word_at (put_at ws w (bit_xor (bit_xor (word_at ws w) a) b)) u) c) d)
        ≡ put_at (put_at ws u (bit_xor (bit_xor (word_at ws u) c) d)) w (bit_xor (bit_xor (word_at (put_at ws u (bit_xor (bit_xor (word_at ws u) c) d)) w) a) b)
    same e =
        rw (← e)
        (⊎_elim
        (λ h. once ws w a b c d h ∙ ap (put_at ws w) (four (word_at ws w) a b c d) ∙ sym (once ws w c d a b h))
        (λ h. rw (put-none ws w (bit_xor (bit_xor (word_at ws w) a) b) h, put-none ws w (bit_xor (bit_xor (word_at ws w) c) d) h) (sym (put-none ws w _ h)))
        (true-or-false (is_name (length ws) w)))

    other : w ≢ u → put_at (put_at ws w (bit_xor (bit_xor (word_at ws w) a) b)) u (bit_xor (bit_xor (word_at (put_at ws w (bit_xor (bit_xor (word_at ws w) a) b)) u) c) d)
        ≡ put_at (put_at ws u (bit_xor (bit_xor (word_at ws u) c) d)) w (bit_xor (bit_xor (word_at (put_at ws u (bit_xor (bit_xor (word_at ws u) c) d)) w) a) b)
    other ne =
        rw (word-put-other ws w (bit_xor (bit_xor (word_at ws w) a) b) u (λ e. ne (sym e)), word-put-other ws u (bit_xor (bit_xor (word_at ws u) c) d) w ne)
        (put-comm ws w _ u _ ne)
