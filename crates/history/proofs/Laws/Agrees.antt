-- A desk that agrees with its history, after one list has changed, or two. Assumes nothing.
use mathlib.Core.Path.{◌≡◌, sym, ◌∙◌}
use mathlib.Core.Logic.{◌≢◌, ⊎_elim}
use mathlib.Core.List.{List, [], ◌++◌}
use Prim.Native.Nat.{ℕ, ◌+◌, ◌<◌, ◌≤◌}
use native.Mathlib.Omega.{arith}
use lib.ListN.{length, get_or, set, length-set}
use lib.Seq.{get_or-set_same, get_or-set_other, set-get_or}
use Rattle.words.specs.Listing.{Apart}
use Rattle.words.proofs.Laws.Cases.{same_or_not}
use Rattle.cursor.specs.Plain.{Place, at_null, nodes, Sound}
use Rattle.cursor.specs.Alone.{LeavesAlone}
use Rattle.cursor.specs.Does.{linked_in}
use Rattle.splice.proofs.Laws.Common.{apart-both}
use Rattle.desk.specs.declared.Row.{Row}
use Rattle.desk.specs.Step.{Desk, fresh_row, row_at, put_row, put_words}
use Rattle.history.specs.History.{History, place_at, times, on_lists, held, is_held}
use Rattle.history.specs.Follows.{Agrees}
use Rattle.history.proofs.Laws.Counts.{times-apart, on-set, on-two}
use Rattle.history.proofs.Laws.Counted.{Counted}

module _ (n : ℕ) (d : Desk) (h : History) (g : Agrees n d h) where
  abbrev pub lists : ℕ
  lists = length h.places

  pub counted : Counted n (held h) (linked_in d.words)
  unfolding is_held
  counted = record { once = g.once; ranged = g.ranged; linked = g.linked }

  -- two lists share no node
  pub rows_apart : (i l : ℕ) → i < lists → l < lists → i ≢ l → Apart (nodes (place_at h i)) (nodes (place_at h l))
  unfolding held
  rows_apart i l a b ne =
      times-apart (nodes (place_at h i)) (nodes (place_at h l))
      (λ x. less x (on-two x h.places i l (at_null []) a b ne) (g.once x))
    where
      less : (x : ℕ) → times x (nodes (place_at h i)) + times x (nodes (place_at h l)) ≤ on_lists x h.places
          → on_lists x h.places + times x h.stranded ≤ 1 → times x (nodes (place_at h i)) + times x (nodes (place_at h l)) ≤ 1
      less x p q = omega arith

  module _ (l m : ℕ) (a : l < lists) (b : m < lists) where
    -- the desk and the history with new rows and places for the other list m and then for l
    abbrev pub desk' : List ℕ → Row → Row → Desk
    desk' ws r q = put_row (put_row (put_words d ws) m q) l r

    abbrev pub history' : Place → Place → List ℕ → History
    history' z y st = record { places = set (set h.places m y) l z; stranded = st }

    -- what is at the other places stays
    rows-else : (ws : List ℕ) (r q : Row) (i : ℕ) → i ≢ l → i ≢ m → row_at (desk' ws r q) i ≡ row_at d i
    rows-else ws r q i p k = get_or-set_other (set d.lists m q) l i r fresh_row p ∙ get_or-set_other d.lists m i q fresh_row k

    places-else : (z y : Place) (st : List ℕ) (i : ℕ) → i ≢ l → i ≢ m → place_at (history' z y st) i ≡ place_at h i
    places-else z y st i p k =
        get_or-set_other (set h.places m y) l i z (at_null []) p ∙ get_or-set_other h.places m i y (at_null []) k

    module _ (ws : List ℕ) (r q : Row) (z y : Place) (st : List ℕ) where
      lists' : length (history' z y st).places ≡ lists
      lists' = length-set (set h.places m y) l z ∙ length-set h.places m y

      at_named : Sound ws r.ends r.cursor z
          → Sound ws (row_at (desk' ws r q) l).ends (row_at (desk' ws r q) l).cursor (place_at (history' z y st) l)
      at_named s =
          rw (
            get_or-set_same (set d.lists m q) l r fresh_row (rw (length-set d.lists m q, g.lists) a),
            get_or-set_same (set h.places m y) l z (at_null []) (rw (length-set h.places m y) a),
          )
          s

      at_other : m ≢ l → Sound ws q.ends q.cursor y
          → Sound ws (row_at (desk' ws r q) m).ends (row_at (desk' ws r q) m).cursor (place_at (history' z y st) m)
      at_other ne s =
          rw (
            get_or-set_other (set d.lists m q) l m r fresh_row ne,
            get_or-set_other (set h.places m y) l m z (at_null []) ne,
            get_or-set_same d.lists m q fresh_row (rw g.lists b),
            get_or-set_same h.places m y (at_null []) b,
          )
          s

      at-else : (i : ℕ) → i ≢ l → i ≢ m → Sound ws (row_at d i).ends (row_at d i).cursor (place_at h i)
          → Sound ws (row_at (desk' ws r q) i).ends (row_at (desk' ws r q) i).cursor (place_at (history' z y st) i)
      at-else i p k s = rw (rows-else ws r q i p k, places-else z y st i p k) s

      -- what makes a new desk agree with a new history
      pub agrees-put : length ws ≡ n → Sound ws r.ends r.cursor z → (m ≢ l → Sound ws q.ends q.cursor y)
          → ((i : ℕ) → i < lists → i ≢ l → i ≢ m → Sound ws (row_at d i).ends (row_at d i).cursor (place_at h i))
          → Counted n (held (history' z y st)) (linked_in ws) → Agrees n (desk' ws r q) (history' z y st)
      unfolding is_held
      agrees-put long s t u k =
          record {
            long = long;
            lists = length-set (set d.lists m q) l r ∙ length-set d.lists m q ∙ g.lists ∙ sym lists';
            sound = λ i c.
                ⊎_elim (λ e. rw e (at_named s))
                (λ ne. ⊎_elim (λ e. rw e (at_other (λ f. ne (e ∙ f)) (t (λ f. ne (e ∙ f))))) (λ k. at-else i ne k (u i (rw lists' at c) ne k)) (same_or_not i m))
                (same_or_not i l);
            once = k.once;
            ranged = k.ranged;
            linked = k.linked;
          }

    -- ---- one list changes

    -- the counts: what was on the list goes, and what is on it comes
    pub held_one : (z : Place) (st : List ℕ) (x : ℕ)
        → held (history' z (place_at h m) st) x + times x (nodes (place_at h l)) + times x h.stranded ≡ held h x + times x (nodes z) + times x st
    unfolding held
    held_one z st x =
        let e : on_lists x (set (set h.places m (place_at h m)) l z) ≡ on_lists x (set h.places l z) = rw (set-get_or h.places m (at_null [])) in
        let k : on_lists x (set h.places l z) + times x (nodes (place_at h l)) ≡ on_lists x h.places + times x (nodes z) =
        on-set x h.places l z (at_null []) a in
        omega arith

    pub one-agrees : (ws : List ℕ) (r : Row) (z : Place) (st after : List ℕ) → LeavesAlone d.words ws (nodes (place_at h l)) after
        → Sound ws r.ends r.cursor z → Counted n (held (history' z (place_at h m) st)) (linked_in ws)
        → Agrees n (desk' ws r (row_at d m)) (history' z (place_at h m) st)
    one-agrees ws r z st after alone s k =
        agrees-put ws r (row_at d m) z (place_at h m) st (alone.long ∙ g.long) s (λ ne. stays m b ne) (λ i c p q. stays i c p) k
      where
        stays : (i : ℕ) → i < lists → i ≢ l → Sound ws (row_at d i).ends (row_at d i).cursor (place_at h i)
        stays i c ne =
            let o = g.sound i c in record { listing = alone.others _ _ _ o.listing (rows_apart i l c a ne); place = o.place }

    -- ---- two lists change

    pub held_two : l ≢ m → (z y : Place) (st : List ℕ) (x : ℕ)
        → held (history' z y st) x + times x (nodes (place_at h l)) + times x (nodes (place_at h m)) + times x h.stranded
        ≡ held h x + times x (nodes z) + times x (nodes y) + times x st
    unfolding held
    held_two ne z y st x =
        let e : times x (nodes (get_or (set h.places m y) l (at_null []))) ≡ times x (nodes (place_at h l)) =
        rw (get_or-set_other h.places m l y (at_null []) ne) in
        let j : on_lists x (set (set h.places m y) l z) + times x (nodes (get_or (set h.places m y) l (at_null []))) ≡ on_lists x (set h.places m y) + times x (nodes z) =
        on-set x (set h.places m y) l z (at_null []) (rw (length-set h.places m y) a) in
        let k : on_lists x (set h.places m y) + times x (nodes (place_at h m)) ≡ on_lists x h.places + times x (nodes y) =
        on-set x h.places m y (at_null []) b in
        omega arith

    pub two-agree : l ≢ m → (ws : List ℕ) (r q : Row) (z y : Place) (st after : List ℕ)
        → LeavesAlone d.words ws (nodes (place_at h l) ++ nodes (place_at h m)) after
        → Sound ws r.ends r.cursor z → Sound ws q.ends q.cursor y → Counted n (held (history' z y st)) (linked_in ws) → Agrees n (desk' ws r q) (history' z y st)
    two-agree ne ws r q z y st after alone s t k = agrees-put ws r q z y st (alone.long ∙ g.long) s (λ c. t) stays k
      where
        stays : (i : ℕ) → i < lists → i ≢ l → i ≢ m → Sound ws (row_at d i).ends (row_at d i).cursor (place_at h i)
        stays i c p q =
            let o = g.sound i c in
            let a' = apart-both (nodes (place_at h i)) (nodes (place_at h l)) (nodes (place_at h m)) (rows_apart i l c a p) (rows_apart i m c b q) in
            record { listing = alone.others _ _ _ o.listing a'; place = o.place }
