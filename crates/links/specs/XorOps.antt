-- The word steps of a xor list, whose word is the xor of two neighbours' names: `next`, `prev`, `set`,
-- `replace_next_or_prev`, `link_between` and `splice_between`, in the source's order (document 01, 'Words').
use Rattle.std.specs.Prelude.{ℕ, List}
use Rattle.std.specs.Int.Bits.{bit_xor}
use Rattle.words.specs.Pool.{word_at, put_at}

-- `next`: the name after w, from the name before it.
unfoldable pub next_of : List ℕ → ℕ → ℕ → ℕ
next_of ws w p = bit_xor (word_at ws w) p

-- `prev`: the name before w, from the name after it.
unfoldable pub prev_of : List ℕ → ℕ → ℕ → ℕ
prev_of ws w q = bit_xor (word_at ws w) q

-- `set`: w stands between p and q.
unfoldable pub set_link : List ℕ → ℕ → ℕ → ℕ → List ℕ
set_link ws w p q = put_at ws w (bit_xor p q)

-- `replace_next_or_prev`: one neighbour of w is traded for another.
unfoldable pub replace_next_or_prev : List ℕ → ℕ → ℕ → ℕ → List ℕ
replace_next_or_prev ws w old new = put_at ws w (bit_xor (bit_xor (word_at ws w) old) new)

-- `link_between`: w comes between the neighbours p and q.
unfoldable pub link_between : List ℕ → ℕ → ℕ → ℕ → List ℕ
link_between ws w p q =
    let ws1 = set_link ws p (prev_of ws p q) w in
    let ws2 = set_link ws1 q w (next_of ws1 q p) in
    set_link ws2 w p q

-- `splice_between`: the list that starts at s and ends at e comes between the neighbours p and q.
unfoldable pub splice_between : List ℕ → ℕ → ℕ → ℕ → ℕ → List ℕ
splice_between ws s e p q =
    let ws1 = replace_next_or_prev ws p q s in
    let ws2 = replace_next_or_prev ws1 q p e in
    let ws3 = replace_next_or_prev ws2 s 0 p in
    replace_next_or_prev ws3 e 0 q
