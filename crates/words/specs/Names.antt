-- Node numbers and names, two kinds of number (document 01, 'Words').
-- Here and in all that follows i, x, y are nodes; w, p, q are words, which may be names; n is how many nodes a pool has.
use Rattle.std.specs.Prelude.{Option, Some, None, ℕ, ◌+◌, ◌*◌, ◌/◌, ◌%◌, ◌-◌, ◌^◌, Bool, ◌&&◌, not, cond, ltb, leb, eqb}
use Rattle.words.specs.declared.names.Node.{Node}
use Rattle.words.specs.declared.names.Name.{Name}

-- The most nodes that a pool may have. No other definition says so.
unfoldable pub pool_limit : ℕ
pool_limit = 1000000

-- A pool of n nodes is within the limit.
unfoldable pub pool_fits : ℕ → Bool
pool_fits n = leb n pool_limit

-- The most lists that a directory may have. No other definition says so.
unfoldable pub directory_limit : ℕ
directory_limit = 64

-- A directory of k lists is within the limit.
unfoldable pub directory_fits : ℕ → Bool
directory_fits k = leb k directory_limit

-- The name of node i. 0 is no node's.
abbrev pub name : ℕ → ℕ
name i = 2 * (i + 1)

-- Null, where a name may stand.
abbrev pub null : Name
null = record { 0 = 0 }

abbrev pub is_null : Name → Bool
is_null w = eqb w.0 0

-- The word w is the name of a node below n: even, not null, and not past the last.
unfoldable pub is_name : ℕ → ℕ → Bool
is_name n w = eqb (w % 2) 0 && ltb 0 w && leb (w / 2) n

-- The node that a name names.
abbrev pub node_of : ℕ → ℕ
node_of w = w / 2 - 1

-- Naming: the name of a node number, and null for a number whose name is no 32-bit word.
unfoldable pub naming : Node → Name
naming i = cond (ltb (name i.0) (2 ^ 32)) (record { 0 = name i.0 }) null

-- Decoding: the node below n that a word names, or nothing.
unfoldable pub decoding : ℕ → Name → Option Node
decoding n w = cond (is_name n w.0) (Some (record { 0 = node_of w.0 })) None

-- The word of an unlinked node (`UNLINKED_MARKER`). It is no name, and no xor of names.
abbrev pub unlinked_marker : ℕ
unlinked_marker = 1

-- Any other word counts as linked, 0 too.
unfoldable pub is_linked : ℕ → Bool
is_linked w = not (eqb w unlinked_marker)
