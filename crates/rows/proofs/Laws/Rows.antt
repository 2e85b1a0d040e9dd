-- How many lists a slice has, and what is stored in it and read from it. Assumes nothing.
use mathlib.Core.Path.{◌≡◌, refl, sym, ap, ◌∙◌}
use mathlib.Core.List.{List, [], ◌∷◌, ◌++◌}
use Prim.Native.Nat.{ℕ, zero, suc, ◌+◌, ◌*◌, ◌/◌, ◌<◌, ◌≤◌}
use native.Mathlib.Omega.{arith}
use lib.ListN.{length, get_or, set, take, drop, length-set, get_or-eq_default}
use lib.Seq.{set_out}
use Rattle.std.specs.Simd.{first_chunks}
use Rattle.desk.specs.declared.Row.{Row}
use Rattle.desk.specs.Step.{fresh_row}
use Rattle.rows.specs.Rows.{row_of, words_of, rows_of, laid}

-- five words a list
pub count-rows : (ws : List ℕ) → length (rows_of ws) ≡ length ws / 5
unfolding rows_of
count-rows [] = refl
count-rows (a ∷ []) = refl
count-rows (a ∷ b ∷ []) = refl
count-rows (a ∷ b ∷ c ∷ []) = refl
count-rows (a ∷ b ∷ c ∷ d ∷ []) = refl
count-rows (a ∷ b ∷ c ∷ d ∷ e ∷ ws) = let i = count-rows ws in omega arith

-- the words of the next list
list_on : (i : ℕ) → 5 * suc i ≡ suc (suc (suc (suc (suc (5 * i)))))
list_on i = omega arith

further : (i k : ℕ) → 5 * suc i + k ≡ suc (suc (suc (suc (suc (5 * i + k)))))
further i k = omega arith

-- a list that is there has its five words in the slice
pub row-there : (ws : List ℕ) (i : ℕ) → i < length (rows_of ws)
    → get_or (rows_of ws) i fresh_row
    ≡ row_of (get_or ws (5 * i) 0) (get_or ws (5 * i + 1) 0) (get_or ws (5 * i + 2) 0) (get_or ws (5 * i + 3) 0) (get_or ws (5 * i + 4) 0)
unfolding rows_of
row-there [] i h = absurd (omega arith)
row-there (a ∷ []) i h = absurd (omega arith)
row-there (a ∷ b ∷ []) i h = absurd (omega arith)
row-there (a ∷ b ∷ c ∷ []) i h = absurd (omega arith)
row-there (a ∷ b ∷ c ∷ d ∷ []) i h = absurd (omega arith)
row-there (a ∷ b ∷ c ∷ d ∷ e ∷ ws) zero h = refl
row-there (a ∷ b ∷ c ∷ d ∷ e ∷ ws) (suc i) h =
    rw (further i 1, further i 2, further i 3, further i 4, list_on i) (row-there ws i (omega arith))

-- and it has the five words of its part of the slice
pub part-there : (ws : List ℕ) (n i : ℕ) (x : List ℕ) → n ≡ length (rows_of ws) → i < n → get_or (first_chunks 5 n ws) i [] ≡ x
    → row_of (get_or x 0 0) (get_or x 1 0) (get_or x 2 0) (get_or x 3 0) (get_or x 4 0) ≡ get_or (rows_of ws) i fresh_row
unfolding rows_of
part-there ws zero i x e h p = absurd (omega arith)
part-there [] (suc n) i x e h p = absurd (omega arith)
part-there (a ∷ []) (suc n) i x e h p = absurd (omega arith)
part-there (a ∷ b ∷ []) (suc n) i x e h p = absurd (omega arith)
part-there (a ∷ b ∷ c ∷ []) (suc n) i x e h p = absurd (omega arith)
part-there (a ∷ b ∷ c ∷ d ∷ []) (suc n) i x e h p = absurd (omega arith)
part-there (a ∷ b ∷ c ∷ d ∷ f ∷ ws) (suc n) zero x e h p = rw (← p) refl
part-there (a ∷ b ∷ c ∷ d ∷ f ∷ ws) (suc n) (suc i) x e h p = part-there ws n i x (omega arith) (omega arith) p

-- lists that have not changed leave the slice as it was
pub laid-own : (ws : List ℕ) → laid (rows_of ws) ws ≡ ws
unfolding rows_of laid
laid-own [] = refl
laid-own (a ∷ []) = refl
laid-own (a ∷ b ∷ []) = refl
laid-own (a ∷ b ∷ c ∷ []) = refl
laid-own (a ∷ b ∷ c ∷ d ∷ []) = refl
laid-own (a ∷ b ∷ c ∷ d ∷ e ∷ ws) = ap (λ (l : List ℕ). a ∷ b ∷ c ∷ d ∷ e ∷ l) (laid-own ws)

-- the slice with the five words of list i stored
laid-set : (ws : List ℕ) (i : ℕ) (r : Row) → i < length (rows_of ws)
    → laid (set (rows_of ws) i r) ws ≡ take (5 * i) ws ++ (words_of r ++ drop 5 (drop (5 * i) ws))
unfolding rows_of laid
laid-set [] i r h = absurd (omega arith)
laid-set (a ∷ []) i r h = absurd (omega arith)
laid-set (a ∷ b ∷ []) i r h = absurd (omega arith)
laid-set (a ∷ b ∷ c ∷ []) i r h = absurd (omega arith)
laid-set (a ∷ b ∷ c ∷ d ∷ []) i r h = absurd (omega arith)
laid-set (a ∷ b ∷ c ∷ d ∷ e ∷ ws) zero r h = rw (laid-own ws)
laid-set (a ∷ b ∷ c ∷ d ∷ e ∷ ws) (suc i) r h =
    rw (list_on i) (ap (λ (l : List ℕ). a ∷ b ∷ c ∷ d ∷ e ∷ l) (laid-set ws i r (omega arith)))

-- what is stored is read again, and the slice keeps its length
pub rows-laid : (rs : List Row) (ws : List ℕ) → length rs ≡ length (rows_of ws) → rows_of (laid rs ws) ≡ rs
unfolding rows_of laid
rows-laid [] [] e = refl
rows-laid [] (a ∷ []) e = refl
rows-laid [] (a ∷ b ∷ []) e = refl
rows-laid [] (a ∷ b ∷ c ∷ []) e = refl
rows-laid [] (a ∷ b ∷ c ∷ d ∷ []) e = refl
rows-laid [] (a ∷ b ∷ c ∷ d ∷ f ∷ ws) e = absurd (omega arith)
rows-laid (r ∷ rs) [] e = absurd (omega arith)
rows-laid (r ∷ rs) (a ∷ []) e = absurd (omega arith)
rows-laid (r ∷ rs) (a ∷ b ∷ []) e = absurd (omega arith)
rows-laid (r ∷ rs) (a ∷ b ∷ c ∷ []) e = absurd (omega arith)
rows-laid (r ∷ rs) (a ∷ b ∷ c ∷ d ∷ []) e = absurd (omega arith)
rows-laid (r ∷ rs) (a ∷ b ∷ c ∷ d ∷ f ∷ ws) e = ap (λ (l : List Row). r ∷ l) (rows-laid rs ws (omega arith))

pub laid-length : (rs : List Row) (ws : List ℕ) → length rs ≡ length (rows_of ws) → length (laid rs ws) ≡ length ws
unfolding rows_of laid
laid-length [] ws e = refl
laid-length (r ∷ rs) [] e = absurd (omega arith)
laid-length (r ∷ rs) (a ∷ []) e = absurd (omega arith)
laid-length (r ∷ rs) (a ∷ b ∷ []) e = absurd (omega arith)
laid-length (r ∷ rs) (a ∷ b ∷ c ∷ []) e = absurd (omega arith)
laid-length (r ∷ rs) (a ∷ b ∷ c ∷ d ∷ []) e = absurd (omega arith)
laid-length (r ∷ rs) (a ∷ b ∷ c ∷ d ∷ f ∷ ws) e =
    ap (λ n. suc (suc (suc (suc (suc n))))) (laid-length rs ws (omega arith))

-- what is stored over the same lists once more is all that shows
laid-again : (rs qs : List Row) (ws : List ℕ) → length rs ≡ length qs → laid rs (laid qs ws) ≡ laid rs ws
unfolding laid
laid-again [] [] ws e = refl
laid-again [] (q ∷ qs) ws e = absurd (omega arith)
laid-again (r ∷ rs) [] ws e = refl
laid-again (r ∷ rs) (q ∷ qs) ws e = rw (laid-again rs qs (drop 5 ws) (omega arith))

-- two lists, stored one after the other
pub laid-two : (ws : List ℕ) (m l : ℕ) (q r : Row)
    → (vs : List ℕ) → vs ≡ laid (set (rows_of ws) m q) ws → laid (set (rows_of vs) l r) vs ≡ laid (set (set (rows_of ws) m q) l r) ws
laid-two ws m l q r vs first =
    let qs = set (rows_of ws) m q in
    ap (λ (us : List ℕ). laid (set (rows_of us) l r) us) first
    ∙ ap (λ (rs : List Row). laid (set rs l r) (laid qs ws)) (rows-laid qs ws (length-set (rows_of ws) m q))
    ∙ laid-again (set qs l r) qs ws (length-set qs l r)

-- ---- by the count that a test knows

module _ (ws : List ℕ) (n i : ℕ) (few : n ≡ length (rows_of ws)) where
  -- the end of a list that is there
  pub last_word : i < n → 5 * i + 5 ≤ length ws
  last_word h = let e = count-rows ws in omega arith

  pub no_row : n ≤ i → get_or (rows_of ws) i fresh_row ≡ fresh_row
  no_row h = get_or-eq_default (rows_of ws) fresh_row (omega arith)

  pub none-put : n ≤ i → (r : Row) → ws ≡ laid (set (rows_of ws) i r) ws
  none-put h r = sym (ap (λ (rs : List Row). laid rs ws) (set_out (rows_of ws) i r (omega arith)) ∙ laid-own ws)

  pub row_put : i < n → (r : Row) (k : ℕ) → k ≡ 5
      → take (5 * i) ws ++ (words_of r ++ drop k (drop (5 * i) ws)) ≡ laid (set (rows_of ws) i r) ws
  row_put h r k five = rw five (sym (laid-set ws i r (omega arith)))
