-- A listing with a node taken out, with a node exchanged, and cut in two: the word steps of remove, replace and split.
-- Assumes nothing.
use mathlib.Core.Path.{◌≡◌, ◌∙◌}
use mathlib.Core.Logic.{◌≢◌}
use mathlib.Core.List.{List, [], ◌∷◌, ◌++◌}
use Prim.Native.Nat.{ℕ, ◌+◌, ◌<◌}
use lib.Bits.{bit_xor}
use lib.ListN.{length, get_or}
use lib.Seq.{get_or-set_same}
use Rattle.words.specs.Names.{name}
use Rattle.words.specs.Pool.{put_at}
use Rattle.words.specs.LinkOps.{release_link}
use Rattle.links.specs.XorOps.{set_link, replace_next_or_prev}
use Rattle.words.specs.Listing.{Off, Apart, front, back, Listing}
use Rattle.words.specs.Changes.{Changes}
use Rattle.words.proofs.Laws.Nodes.{all_left, all_right, all_map, apart-sym, distinct_apart}
use Rattle.words.proofs.Laws.Names.{name-inj}
use Rattle.words.proofs.Laws.Pool.{put-name, put-length, changes-put, changes-then}
use Rattle.words.proofs.Laws.Part.{Part, away-node, away-front, away-back, part_left, part_right, part_join, part-one, part-keep}
use Rattle.links.proofs.Laws.Trades.{trade-after, trade-before, trade-keep}
use Rattle.words.proofs.Laws.Listing.{listing-part, part-listing}
use Rattle.links.proofs.Laws.Between.{changes-trade, changes-set}

-- the parts of a listing on the two sides of a node
pub record Sides (ws : List ℕ) (L : List ℕ) (x : ℕ) (R : List ℕ) : Type 0 where
  pub left : Part bit_xor ws 0 L (name x)
  pub right : Part bit_xor ws (name x) R 0
  pub here : x < length ws
  pub word : get_or ws x 0 ≡ bit_xor (back 0 L) (front R 0)
  pub apart : Apart L R
  pub off_l : Off x L
  pub off_r : Off x R

pub sides : (ws : List ℕ) (h t : ℕ) (L : List ℕ) (x : ℕ) (R : List ℕ) → Listing bit_xor ws h t (L ++ x ∷ R) → Sides ws L x R
sides ws h t L x R l =
    let whole = listing-part bit_xor ws h t (L ++ x ∷ R) l in
    let xr = part_right bit_xor ws 0 L (x ∷ R) 0 whole in
    let a = distinct_apart L (x ∷ R) l.distinct in
    record {
      left = part_left bit_xor ws 0 L (x ∷ R) 0 whole;
      right = part_right bit_xor ws (back 0 L) (x ∷ []) R 0 xr;
      here = xr.ranged.0;
      word = xr.chain.0;
      apart = all_map (λ y. Off y (x ∷ R)) (λ y. Off y R) (λ y o. o.1) L a;
      off_l = (apart-sym L (x ∷ R) a).0;
      off_r = xr.distinct.0;
    }

-- a word that an edit elsewhere keeps
kept_word : (names ws ws' : List ℕ) → Changes names ws ws' → (x v : ℕ) → Off (name x) names → get_or ws x 0 ≡ v → get_or ws' x 0 ≡ v
kept_word names ws ws' k x v o e = k.same x o ∙ e

word-stored : (ws : List ℕ) (x v : ℕ) → x < length ws → get_or (put_at ws (name x) v) x 0 ≡ v
word-stored ws x v r = rw (put-name ws x v) (get_or-set_same ws x v 0 r)

-- an end of a part is no name of a node that is off the part
front-other : (xs : List ℕ) (x : ℕ) → Off x xs → front xs 0 ≢ name x
front-other xs x o = (away-front xs (x ∷ []) (apart-sym (x ∷ []) xs (o, tt))).0

back-other : (xs : List ℕ) (x : ℕ) → Off x xs → back 0 xs ≢ name x
back-other xs x o = (away-back xs (x ∷ []) (apart-sym (x ∷ []) xs (o, tt))).0

-- ---- a node taken out

unfoldable pub taken_out : List ℕ → ℕ → ℕ → ℕ → List ℕ
taken_out ws w p q = replace_next_or_prev (replace_next_or_prev (release_link ws w) p w q) q w p

pub taken-out : (ws : List ℕ) (h t : ℕ) (L : List ℕ) (x : ℕ) (R : List ℕ) → Listing bit_xor ws h t (L ++ x ∷ R)
    → Listing bit_xor (taken_out ws (name x) (back 0 L) (front R 0)) (front (L ++ R) 0) (back 0 (L ++ R)) (L ++ R)
unfolding taken_out release_link
taken-out ws h t L x R l =
    let s = sides ws h t L x R l in
    let p = back 0 L in
    let q = front R 0 in
    let ws1 = put_at ws (name x) 1 in
    let ws2 = replace_next_or_prev ws1 p (name x) q in
    let L1 : Part bit_xor ws1 0 L (name x) = part-keep bit_xor ws (name x) 1 0 L (name x) (away-node x L s.off_l) s.left in
    let R1 : Part bit_xor ws1 (name x) R 0 = part-keep bit_xor ws (name x) 1 (name x) R 0 (away-node x R s.off_r) s.right in
    let L2 : Part bit_xor ws2 0 L q = trade-after (name x) q ws1 0 L L1 in
    let R2 : Part bit_xor ws2 (name x) R 0 = trade-keep ws1 p (name x) q (name x) R 0 (away-back L R s.apart) R1 in
    part-listing bit_xor _ (L ++ R)
    (part_join bit_xor _ 0 L R 0 s.apart (trade-keep ws2 q (name x) p 0 L q (away-front R L (apart-sym L R s.apart)) L2)
    (trade-before (name x) p ws2 R 0 R2))

-- it is unlinked then
pub taken_word : (ws : List ℕ) (h t : ℕ) (L : List ℕ) (x : ℕ) (R : List ℕ) → Listing bit_xor ws h t (L ++ x ∷ R)
    → get_or (taken_out ws (name x) (back 0 L) (front R 0)) x 0 ≡ 1
unfolding taken_out release_link
taken_word ws h t L x R l =
    let s = sides ws h t L x R l in
    let p = back 0 L in
    let q = front R 0 in
    let ws1 = put_at ws (name x) 1 in
    let ws2 = replace_next_or_prev ws1 p (name x) q in
    kept_word (q ∷ []) ws2 _ (changes-trade ws2 q (name x) p) x 1 (front-other R x s.off_r, tt)
    (kept_word (p ∷ []) ws1 ws2 (changes-trade ws1 p (name x) q) x 1 (back-other L x s.off_l, tt) (word-stored ws x 1 s.here))

-- three words at the most
pub taken-changes : (ws : List ℕ) (w p q : ℕ) → Changes (w ∷ p ∷ q ∷ []) ws (taken_out ws w p q)
unfolding taken_out release_link
taken-changes ws w p q =
    let ws1 = put_at ws w 1 in
    let ws2 = replace_next_or_prev ws1 p w q in
    changes-then (w ∷ p ∷ []) (q ∷ []) ws ws2 _ (changes-then (w ∷ []) (p ∷ []) ws ws1 ws2 (changes-put ws w 1) (changes-trade ws1 p w q)) (changes-trade ws2 q w p)

-- ---- a node exchanged

unfoldable pub exchanged : List ℕ → ℕ → ℕ → ℕ → ℕ → List ℕ
exchanged ws new w p q = release_link (set_link (replace_next_or_prev (replace_next_or_prev ws p w new) q w new) new p q) w

module _ (ws : List ℕ) (h t : ℕ) (L : List ℕ) (x : ℕ) (R : List ℕ) (i : ℕ) (l : Listing bit_xor ws h t (L ++ x ∷ R)) (off : Off i (L ++ x ∷ R)) where
  exchange-off : (x ≢ i) × Off i L × Off i R
  exchange-off =
      let o = all_right (λ y. y ≢ i) L (x ∷ R) off in (o.0, all_left (λ y. y ≢ i) L (x ∷ R) off, o.1)

  pub exchanged-listing : i < length ws
      → Listing bit_xor (exchanged ws (name i) (name x) (back 0 L) (front R 0)) (front (L ++ i ∷ R) 0) (back 0 (L ++ i ∷ R)) (L ++ i ∷ R)
  unfolding exchanged release_link set_link
  exchanged-listing r =
      let s = sides ws h t L x R l in
      let o = exchange-off in
      let p = back 0 L in
      let q = front R 0 in
      let m = name i in
      let ws1 = replace_next_or_prev ws p (name x) m in
      let ws2 = replace_next_or_prev ws1 q (name x) m in
      let ws3 = put_at ws2 m (bit_xor p q) in
      let ws4 = put_at ws3 (name x) 1 in
      let L1 : Part bit_xor ws1 0 L m = trade-after (name x) m ws 0 L s.left in
      let R1 : Part bit_xor ws1 (name x) R 0 = trade-keep ws p (name x) m (name x) R 0 (away-back L R s.apart) s.right in
      let L2 : Part bit_xor ws2 0 L m = trade-keep ws1 q (name x) m 0 L m (away-front R L (apart-sym L R s.apart)) L1 in
      let R2 : Part bit_xor ws2 m R 0 = trade-before (name x) m ws1 R 0 R1 in
      let L3 : Part bit_xor ws3 0 L m = part-keep bit_xor ws2 m (bit_xor p q) 0 L m (away-node i L o.1) L2 in
      let R3 : Part bit_xor ws3 m R 0 = part-keep bit_xor ws2 m (bit_xor p q) m R 0 (away-node i R o.2) R2 in
      let L4 : Part bit_xor ws4 0 L m = part-keep bit_xor ws3 (name x) 1 0 L m (away-node x L s.off_l) L3 in
      let R4 : Part bit_xor ws4 m R 0 = part-keep bit_xor ws3 (name x) 1 m R 0 (away-node x R s.off_r) R3 in
      let long2 : length ws2 ≡ length ws = (changes-trade ws1 q (name x) m).long ∙ (changes-trade ws p (name x) m).long in
      let r3 : i < length ws3 = rw (put-length ws2 m (bit_xor p q), long2) r in
      let one3 : Part bit_xor ws3 p (i ∷ []) q = part-one bit_xor ws3 p i q r3 (word-stored ws2 i (bit_xor p q) (rw long2 r)) in
      let one4 : Part bit_xor ws4 p (i ∷ []) q = part-keep bit_xor ws3 (name x) 1 p (i ∷ []) q (λ e. o.0 (name-inj x i e), tt) one3 in
      let iR : Part bit_xor ws4 p (i ∷ R) 0 = part_join bit_xor ws4 p (i ∷ []) R 0 (o.2, tt) one4 R4 in
      part-listing bit_xor ws4 (L ++ i ∷ R)
      (part_join bit_xor ws4 0 L (i ∷ R) 0 (apart-sym (i ∷ R) L (o.1, apart-sym L R s.apart)) L4 iR)

  -- the old one is unlinked then
  pub exchanged-word : get_or (exchanged ws (name i) (name x) (back 0 L) (front R 0)) x 0 ≡ 1
  unfolding exchanged release_link set_link
  exchanged-word =
      let s = sides ws h t L x R l in
      let p = back 0 L in
      let q = front R 0 in
      let ws2 = replace_next_or_prev (replace_next_or_prev ws p (name x) (name i)) q (name x) (name i) in
      let ws3 = put_at ws2 (name i) (bit_xor p q) in
      let long3 : length ws3 ≡ length ws =
      put-length ws2 (name i) (bit_xor p q) ∙ (changes-trade _ q (name x) (name i)).long ∙ (changes-trade ws p (name x) (name i)).long in
      word-stored ws3 x 1 (rw long3 s.here)

-- four words at the most
pub exchanged-changes : (ws : List ℕ) (new w p q : ℕ) → Changes (p ∷ q ∷ new ∷ w ∷ []) ws (exchanged ws new w p q)
unfolding exchanged release_link
exchanged-changes ws new w p q =
    let ws1 = replace_next_or_prev ws p w new in
    let ws2 = replace_next_or_prev ws1 q w new in
    let ws3 = set_link ws2 new p q in
    changes-then (p ∷ q ∷ new ∷ []) (w ∷ []) ws ws3 _
    (changes-then (p ∷ q ∷ []) (new ∷ []) ws ws2 ws3
    (changes-then (p ∷ []) (q ∷ []) ws ws1 ws2 (changes-trade ws p w new) (changes-trade ws1 q w new)) (changes-set ws2 new p q))
    (changes-put ws3 w 1)

-- ---- a listing cut in two, behind a node

unfoldable pub cut_off : List ℕ → ℕ → ℕ → ℕ → List ℕ
cut_off ws w p q = set_link (replace_next_or_prev ws q w 0) w p 0

module _ (ws : List ℕ) (h t : ℕ) (L : List ℕ) (x : ℕ) (R : List ℕ) (l : Listing bit_xor ws h t (L ++ x ∷ R)) where
  -- what stays
  pub cut-stays : Listing bit_xor (cut_off ws (name x) (back 0 L) (front R 0)) (front (L ++ x ∷ []) 0) (back 0 (L ++ x ∷ [])) (L ++ x ∷ [])
  unfolding cut_off set_link
  cut-stays =
      let s = sides ws h t L x R l in
      let p = back 0 L in
      let q = front R 0 in
      let ws1 = replace_next_or_prev ws q (name x) 0 in
      let ws2 = put_at ws1 (name x) (bit_xor p 0) in
      let L1 : Part bit_xor ws1 0 L (name x) = trade-keep ws q (name x) 0 0 L (name x) (away-front R L (apart-sym L R s.apart)) s.left in
      let L2 : Part bit_xor ws2 0 L (name x) = part-keep bit_xor ws1 (name x) (bit_xor p 0) 0 L (name x) (away-node x L s.off_l) L1 in
      let long1 : length ws1 ≡ length ws = (changes-trade ws q (name x) 0).long in
      let one : Part bit_xor ws2 p (x ∷ []) 0 =
      part-one bit_xor ws2 p x 0 (rw (put-length ws1 (name x) (bit_xor p 0), long1) s.here) (word-stored ws1 x (bit_xor p 0) (rw long1 s.here)) in
      part-listing bit_xor ws2 (L ++ x ∷ []) (part_join bit_xor ws2 0 L (x ∷ []) 0 (apart-sym (x ∷ []) L (s.off_l, tt)) L2 one)

  -- what moves out
  pub cut-goes : Listing bit_xor (cut_off ws (name x) (back 0 L) (front R 0)) (front R 0) (back 0 R) R
  unfolding cut_off set_link
  cut-goes =
      let s = sides ws h t L x R l in
      let p = back 0 L in
      let q = front R 0 in
      let ws1 = replace_next_or_prev ws q (name x) 0 in
      part-listing bit_xor _ R
      (part-keep bit_xor ws1 (name x) (bit_xor p 0) 0 R 0 (away-node x R s.off_r) (trade-before (name x) 0 ws R 0 s.right))

-- two words at the most
pub cut-changes : (ws : List ℕ) (w p q : ℕ) → Changes (q ∷ w ∷ []) ws (cut_off ws w p q)
unfolding cut_off
cut-changes ws w p q =
    let ws1 = replace_next_or_prev ws q w 0 in
    changes-then (q ∷ []) (w ∷ []) ws ws1 _ (changes-trade ws q w 0) (changes-set ws1 w p 0)
