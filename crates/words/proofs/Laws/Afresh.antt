-- Laws of words written afresh: to be a listing is to have those words. Assumes nothing.
use mathlib.Core.Path.{◌≡◌, refl, sym, ap, ◌∙◌}
use mathlib.Core.Logic.{◌≢◌, ◌↔◌, ⊎_elim}
use mathlib.Core.List.{List, [], ◌∷◌, ◌++◌}
use Prim.Native.Nat.{ℕ, ◌+◌, ◌<◌}
use lib.ListN.{length, get_or, set, length-set, get_or-eq_default}
use lib.Seq.{get_or-set_same, get_or-set_other, set-get_or, set_out, ext_get_or}
use Rattle.words.specs.Names.{name}
use Rattle.words.specs.Listing.{All, Off, Distinct, Apart, front, back, Chain, Listing}
use Rattle.words.specs.Afresh.{joined, afresh, afresh_all}
use Rattle.words.proofs.Laws.Cases.{below_or_not, same_or_not}
use Rattle.words.proofs.Laws.Nodes.{all_left, all_right, distinct-left, distinct-right, distinct_apart}

module _ (word : ℕ → ℕ → ℕ) where
  pub afresh-length : (ws : List ℕ) (p : ℕ) (xs : List ℕ) (q : ℕ) → length (afresh word ws p xs q) ≡ length ws
  afresh-length ws p [] q = refl
  afresh-length ws p (x ∷ xs) q = afresh-length (set ws x (word p (front xs q))) (name x) xs q ∙ length-set ws x (word p (front xs q))

  -- a node that is not written keeps its word
  pub afresh-off : (ws : List ℕ) (p : ℕ) (xs : List ℕ) (q i : ℕ) → Off i xs → get_or (afresh word ws p xs q) i 0 ≡ get_or ws i 0
  afresh-off ws p [] q i o = refl
  afresh-off ws p (x ∷ xs) q i o =
      afresh-off (set ws x (word p (front xs q))) (name x) xs q i o.1 ∙ get_or-set_other ws x i (word p (front xs q)) 0 (λ e. o.0 (sym e))

  -- what is written is a chain
  pub afresh-chain : (ws : List ℕ) (p : ℕ) (xs : List ℕ) (q : ℕ) → Distinct xs → All (λ x. x < length ws) xs
      → Chain word (afresh word ws p xs q) p xs q
  afresh-chain ws p [] q d r = tt
  afresh-chain ws p (x ∷ xs) q d r =
      let v = word p (front xs q) in (
        afresh-off (set ws x v) (name x) xs q x d.0 ∙ get_or-set_same ws x v 0 r.0,
        afresh-chain (set ws x v) (name x) xs q d.1 (rw (length-set ws x v) r.1),
      )

  -- to write a chain's words again changes nothing
  pub chain-afresh : (ws : List ℕ) (p : ℕ) (xs : List ℕ) (q : ℕ) → Chain word ws p xs q → afresh word ws p xs q ≡ ws
  chain-afresh ws p [] q h = refl
  chain-afresh ws p (x ∷ xs) q h =
      let e : set ws x (word p (front xs q)) ≡ ws = rw (← h.0) (set-get_or ws x 0) in
      ap (λ (l : List ℕ). afresh word l (name x) xs q) e ∙ chain-afresh ws (name x) xs q h.1

  -- the listing rule with 'words by the rule' said as 'written afresh, the words are as they are'
  pub record Written (ws : List ℕ) (h t : ℕ) (xs : List ℕ) : Type 0 where
    pub distinct : Distinct xs
    pub ranged : All (λ x. x < length ws) xs
    pub first : front xs 0 ≡ h
    pub last : back 0 xs ≡ t
    pub words : afresh word ws 0 xs 0 ≡ ws

  pub listing-written : (ws : List ℕ) (h t : ℕ) (xs : List ℕ) → Listing word ws h t xs ↔ Written ws h t xs
  listing-written ws h t xs = (
    λ l. record { distinct = l.distinct; ranged = l.ranged; first = l.first; last = l.last; words = chain-afresh ws 0 xs 0 l.chain },
    λ r. record { distinct = r.distinct; ranged = r.ranged; first = r.first; last = r.last; chain = rw r.words at (afresh-chain ws 0 xs 0 r.distinct r.ranged) },
  )

  -- ---- several sequences

  -- each is a chain between nulls
  abbrev pub Chains : List ℕ → List (List ℕ) → Type 0
  Chains ws [] = Unit
  Chains ws (xs ∷ xss) = Chain word ws 0 xs 0 × Chains ws xss

  -- a pool that agrees with ws but on the nodes still to be written agrees with it on xs too once that is written
  agrees : (ws rest : List ℕ) (xs base : List ℕ) (p q : ℕ) → length base ≡ length ws
      → ((i : ℕ) → Off i (xs ++ rest) → get_or base i 0 ≡ get_or ws i 0) → Chain word ws p xs q
      → (i : ℕ) → Off i rest → get_or (afresh word base p xs q) i 0 ≡ get_or ws i 0
  agrees ws rest [] base p q long same h = same
  agrees ws rest (x ∷ xs) base p q long same h =
      agrees ws rest xs (set base x (word p (front xs q))) (name x) q (length-set base x (word p (front xs q)) ∙ long) same' h.1
    where
      same' : (i : ℕ) → Off i (xs ++ rest) → get_or (set base x (word p (front xs q))) i 0 ≡ get_or ws i 0
      same' i o = ⊎_elim here (λ ne. get_or-set_other base x i (word p (front xs q)) 0 (λ e. ne (sym e)) ∙ same i (ne, o)) (same_or_not x i)
        where
          here : x ≡ i → get_or (set base x (word p (front xs q))) i 0 ≡ get_or ws i 0
          here e =
              rw (← e)
              (⊎_elim (λ r. get_or-set_same base x (word p (front xs q)) 0 r ∙ sym h.0)
              (λ r. ap (λ (l : List ℕ). get_or l x 0) (set_out base x (word p (front xs q)) r) ∙ get_or-eq_default base 0 r ∙ sym (get_or-eq_default ws 0 (rw long at r)))
              (below_or_not x (length base)))

  -- a pool that agrees with ws off the sequences becomes ws when they are written into it
  pub chains-afresh : (ws : List ℕ) (xss : List (List ℕ)) (base : List ℕ) → length base ≡ length ws
      → ((i : ℕ) → Off i (joined xss) → get_or base i 0 ≡ get_or ws i 0) → Chains ws xss → afresh_all word base xss ≡ ws
  chains-afresh ws [] base long same h = ext_get_or 0 base ws long (λ i r. same i tt)
  chains-afresh ws (xs ∷ xss) base long same h =
      chains-afresh ws xss (afresh word base 0 xs 0) (afresh-length base 0 xs 0 ∙ long)
      (agrees ws (joined xss) xs base 0 0 long same h.0) h.1

  -- and what is written there is a chain of each, where the sequences share no node
  pub afresh-keeps : (ws : List ℕ) (xss : List (List ℕ)) (p : ℕ) (ys : List ℕ) (q : ℕ) → Apart ys (joined xss)
      → Chain word ws p ys q → Chain word (afresh_all word ws xss) p ys q
  afresh-keeps ws [] p ys q a h = h
  afresh-keeps ws (xs ∷ xss) p ys q a h = afresh-keeps (afresh word ws 0 xs 0) xss p ys q (rights ys a) (kept p ys a h)
    where
      rights : (ys : List ℕ) → Apart ys (joined (xs ∷ xss)) → Apart ys (joined xss)
      rights [] a = tt
      rights (y ∷ ys) a = (all_right (λ z. z ≢ y) xs (joined xss) a.0, rights ys a.1)

      kept : (p : ℕ) (ys : List ℕ) → Apart ys (joined (xs ∷ xss)) → Chain word ws p ys q → Chain word (afresh word ws 0 xs 0) p ys q
      kept p [] a h = tt
      kept p (y ∷ ys) a h =
          (afresh-off ws 0 xs 0 y (all_left (λ z. z ≢ y) xs (joined xss) a.0) ∙ h.0, kept (name y) ys a.1 h.1)

  pub afresh-chains : (ws : List ℕ) (xss : List (List ℕ)) → Distinct (joined xss) → All (λ x. x < length ws) (joined xss)
      → Chains (afresh_all word ws xss) xss
  afresh-chains ws [] d r = tt
  afresh-chains ws (xs ∷ xss) d r = (
    afresh-keeps (afresh word ws 0 xs 0) xss 0 xs 0 (distinct_apart xs (joined xss) d)
        (afresh-chain ws 0 xs 0 (distinct-left xs (joined xss) d) (all_left (λ x. x < length ws) xs (joined xss) r)),
    afresh-chains (afresh word ws 0 xs 0) xss (distinct-right xs (joined xss) d)
        (rw (afresh-length ws 0 xs 0) (all_right (λ x. x < length ws) xs (joined xss) r)),
  )
