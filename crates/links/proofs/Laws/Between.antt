-- What `link_between` and `splice_between` make of a listing, and how much they change. Assumes nothing.
use mathlib.Core.Path.{◌≡◌, sym, ap, ◌∙◌}
use mathlib.Core.Logic.{◌≢◌}
use mathlib.Core.List.{List, [], ◌∷◌, ◌++◌}
use Prim.Native.Nat.{ℕ, ◌+◌, ◌<◌}
use lib.Bits.{bit_xor}
use lib.ListN.{length}
use lib.Seq.{get_or-set_same}
use Rattle.words.specs.Names.{name}
use Rattle.words.specs.Pool.{word_at, put_at}
use Rattle.links.specs.XorOps.{prev_of, next_of, set_link, replace_next_or_prev, link_between, splice_between}
use Rattle.words.specs.Listing.{Off, Apart, front, back, Listing}
use Rattle.words.specs.Changes.{Changes}
use Rattle.links.proofs.Laws.Xor.{xor_comm}
use Rattle.words.proofs.Laws.Nodes.{all_left, all_right, all_append, apart-sym, distinct_apart}
use Rattle.words.proofs.Laws.Pool.{put-length, put-name, changes-put, changes-then}
use Rattle.links.proofs.Laws.Trades.{trades-comm}
use Rattle.words.proofs.Laws.Part.{Part, away-node, away-front, away-back, part_left, part_right, part_join, part-one, part-keep}
use Rattle.links.proofs.Laws.Trades.{trade-after, trade-before, trade-keep}
use Rattle.words.proofs.Laws.Listing.{listing-part, part-listing}

-- ---- `link_between` is two trades and one store

pub link-trades : (ws : List ℕ) (w p q : ℕ)
    → link_between ws w p q ≡ set_link (replace_next_or_prev (replace_next_or_prev ws p q w) q p w) w p q
unfolding link_between replace_next_or_prev set_link prev_of next_of
link-trades ws w p q =
    let ws1 = put_at ws p (bit_xor (bit_xor (word_at ws p) q) w) in
    ap (λ (v : ℕ). put_at (put_at ws1 q v) w (bit_xor p q)) (xor_comm w (bit_xor (word_at ws1 q) p))

-- ---- how much is changed, for any words and any numbers

pub changes-trade : (ws : List ℕ) (w old new : ℕ) → Changes (w ∷ []) ws (replace_next_or_prev ws w old new)
unfolding replace_next_or_prev
changes-trade ws w old new = changes-put ws w _

pub changes-set : (ws : List ℕ) (w p q : ℕ) → Changes (w ∷ []) ws (set_link ws w p q)
unfolding set_link
changes-set ws w p q = changes-put ws w (bit_xor p q)

-- three words at the most
pub link-changes : (ws : List ℕ) (w p q : ℕ) → Changes (p ∷ q ∷ w ∷ []) ws (link_between ws w p q)
link-changes ws w p q =
    let ws1 = replace_next_or_prev ws p q w in
    let ws2 = replace_next_or_prev ws1 q p w in
    rw (link-trades ws w p q)
    (changes-then (p ∷ q ∷ []) (w ∷ []) ws ws2 (set_link ws2 w p q)
    (changes-then (p ∷ []) (q ∷ []) ws ws1 ws2 (changes-trade ws p q w) (changes-trade ws1 q p w))
    (changes-set ws2 w p q))

-- four words at the most
pub splice-changes : (ws : List ℕ) (s e p q : ℕ) → Changes (p ∷ q ∷ s ∷ e ∷ []) ws (splice_between ws s e p q)
unfolding splice_between
splice-changes ws s e p q =
    let ws1 = replace_next_or_prev ws p q s in
    let ws2 = replace_next_or_prev ws1 q p e in
    let ws3 = replace_next_or_prev ws2 s 0 p in
    changes-then (p ∷ q ∷ s ∷ []) (e ∷ []) ws ws3 _
    (changes-then (p ∷ q ∷ []) (s ∷ []) ws ws2 ws3
    (changes-then (p ∷ []) (q ∷ []) ws ws1 ws2 (changes-trade ws p q s) (changes-trade ws1 q p e)) (changes-trade ws2 s 0 p))
    (changes-trade ws3 e 0 q)

-- ---- the mirror, for any words and any numbers

pub link-mirror : (ws : List ℕ) (w p q : ℕ) → link_between ws w p q ≡ link_between ws w q p
unfolding set_link
link-mirror ws w p q =
    link-trades ws w p q ∙ ap (λ (l : List ℕ). set_link l w p q) (trades-comm ws p q w q p w)
    ∙ ap (put_at (replace_next_or_prev (replace_next_or_prev ws q p w) p q w) w) (xor_comm p q) ∙ sym (link-trades ws w q p)

pub splice-mirror : (ws : List ℕ) (s e p q : ℕ) → splice_between ws s e p q ≡ splice_between ws e s q p
unfolding splice_between
splice-mirror ws s e p q =
    let a = replace_next_or_prev (replace_next_or_prev ws p q s) q p e in
    let b = replace_next_or_prev (replace_next_or_prev ws q p e) p q s in
    let ab : a ≡ b = trades-comm ws p q s q p e in
    ap (λ (l : List ℕ). replace_next_or_prev (replace_next_or_prev l s 0 p) e 0 q) ab ∙ trades-comm b s 0 p e 0 q

-- ---- on a listing

-- a node that is off a listing, put between any two parts of it
pub linked : (ws : List ℕ) (h t : ℕ) (L R : List ℕ) (i : ℕ) → Listing bit_xor ws h t (L ++ R) → Off i (L ++ R) → i < length ws
    → Listing bit_xor (link_between ws (name i) (back 0 L) (front R 0)) (front (L ++ i ∷ R) 0) (back 0 (L ++ i ∷ R)) (L ++ i ∷ R)
unfolding set_link
linked ws h t L R i l off r =
    let p = back 0 L in
    let q = front R 0 in
    let m = name i in
    let whole = listing-part bit_xor ws h t (L ++ R) l in
    let apart = distinct_apart L R l.distinct in
    let off_l = all_left (λ x. x ≢ i) L R off in
    let off_r = all_right (λ x. x ≢ i) L R off in
    let ws1 = replace_next_or_prev ws p q m in
    let ws2 = replace_next_or_prev ws1 q p m in
    let ws3 = put_at ws2 m (bit_xor p q) in
    let L1 : Part bit_xor ws1 0 L m = trade-after q m ws 0 L (part_left bit_xor ws 0 L R 0 whole) in
    let R1 : Part bit_xor ws1 p R 0 = trade-keep ws p q m p R 0 (away-back L R apart) (part_right bit_xor ws 0 L R 0 whole) in
    let L2 : Part bit_xor ws2 0 L m = trade-keep ws1 q p m 0 L m (away-front R L (apart-sym L R apart)) L1 in
    let R2 : Part bit_xor ws2 m R 0 = trade-before p m ws1 R 0 R1 in
    let L3 : Part bit_xor ws3 0 L m = part-keep bit_xor ws2 m (bit_xor p q) 0 L m (away-node i L off_l) L2 in
    let R3 : Part bit_xor ws3 m R 0 = part-keep bit_xor ws2 m (bit_xor p q) m R 0 (away-node i R off_r) R2 in
    let long2 : length ws2 ≡ length ws = trade-length ws1 q p m ∙ trade-length ws p q m in
    let one : Part bit_xor ws3 p (i ∷ []) q =
    part-one bit_xor ws3 p i q (rw (put-length ws2 m (bit_xor p q), long2) r)
    (rw (put-name ws2 i (bit_xor p q)) (get_or-set_same ws2 i (bit_xor p q) 0 (rw long2 r))) in
    let iR : Part bit_xor ws3 p (i ∷ R) 0 = part_join bit_xor ws3 p (i ∷ []) R 0 (off_r, tt) one R3 in
    rw (link-trades ws m p q)
    (part-listing bit_xor ws3 (L ++ i ∷ R)
    (part_join bit_xor ws3 0 L (i ∷ R) 0 (apart-sym (i ∷ R) L (off_l, apart-sym L R apart)) L3 iR))
  where
    trade-length : (ws : List ℕ) (w old new : ℕ) → length (replace_next_or_prev ws w old new) ≡ length ws
    trade-length ws w old new = (changes-trade ws w old new).long

-- a whole other listing, put between any two parts of one with which it shares no node
pub spliced : (ws : List ℕ) (h t h' t' : ℕ) (L R : List ℕ) (x : ℕ) (xs : List ℕ) → Listing bit_xor ws h t (L ++ R)
    → Listing bit_xor ws h' t' (x ∷ xs) → Apart (L ++ R) (x ∷ xs)
    → Listing bit_xor (splice_between ws h' t' (back 0 L) (front R 0)) (front (L ++ (x ∷ xs ++ R)) 0) (back 0 (L ++ (x ∷ xs ++ R))) (L ++ (x ∷ xs ++ R))
unfolding splice_between
spliced ws h t h' t' L R x xs l m apart =
    let M = x ∷ xs in
    let p = back 0 L in
    let q = front R 0 in
    let s = name x in
    let e = back 0 M in
    let whole = listing-part bit_xor ws h t (L ++ R) l in
    let lr = distinct_apart L R l.distinct in
    let lm = all_left (λ y. Off y M) L R apart in
    let rm = all_right (λ y. Off y M) L R apart in
    let ws1 = replace_next_or_prev ws p q s in
    let ws2 = replace_next_or_prev ws1 q p e in
    let ws3 = replace_next_or_prev ws2 s 0 p in
    let ws4 = replace_next_or_prev ws3 e 0 q in
    let L1 : Part bit_xor ws1 0 L s = trade-after q s ws 0 L (part_left bit_xor ws 0 L R 0 whole) in
    let R1 : Part bit_xor ws1 p R 0 = trade-keep ws p q s p R 0 (away-back L R lr) (part_right bit_xor ws 0 L R 0 whole) in
    let M1 : Part bit_xor ws1 0 M 0 = trade-keep ws p q s 0 M 0 (away-back L M lm) (listing-part bit_xor ws h' t' M m) in
    let L2 : Part bit_xor ws2 0 L s = trade-keep ws1 q p e 0 L s (away-front R L (apart-sym L R lr)) L1 in
    let R2 : Part bit_xor ws2 e R 0 = trade-before p e ws1 R 0 R1 in
    let M2 : Part bit_xor ws2 0 M 0 = trade-keep ws1 q p e 0 M 0 (away-front R M rm) M1 in
    let L3 : Part bit_xor ws3 0 L s = trade-keep ws2 s 0 p 0 L s (away-front M L (apart-sym L M lm)) L2 in
    let R3 : Part bit_xor ws3 e R 0 = trade-keep ws2 s 0 p e R 0 (away-front M R (apart-sym R M rm)) R2 in
    let M3 : Part bit_xor ws3 p M 0 = trade-before 0 p ws2 M 0 M2 in
    let L4 : Part bit_xor ws4 0 L s = trade-keep ws3 e 0 q 0 L s (away-back M L (apart-sym L M lm)) L3 in
    let R4 : Part bit_xor ws4 e R 0 = trade-keep ws3 e 0 q e R 0 (away-back M R (apart-sym R M rm)) R3 in
    let M4 : Part bit_xor ws4 p M q = trade-after 0 q ws3 p M M3 in
    let MR : Part bit_xor ws4 p (M ++ R) 0 = part_join bit_xor ws4 p M R 0 (apart-sym R M rm) M4 R4 in
    rw (← m.first, ← m.last)
    (part-listing bit_xor ws4 (L ++ (M ++ R))
    (part_join bit_xor ws4 0 L (M ++ R) 0 (apart-sym (M ++ R) L (all_append (λ y. Off y L) M R (apart-sym L M lm) (apart-sym L R lr))) L4 MR))
