-- Command lines (document 01, 'Command lines'): ten lower-case hexadecimal digits, for command, list, other list and node.
use Rattle.std.specs.Prelude.{ℕ, ◌+◌, ◌*◌, ◌/◌, ◌%◌, ◌-◌, Bool, true, ◌&&◌, ◌||◌, not, cond, List, [], ◌∷◌, ltb, leb, eqb, length, Option, Some, None}
use Rattle.std.specs.List.{fold}
use Rattle.lines.specs.declared.line.Order.{Order}
use Rattle.lines.specs.declared.line.Line.{Line}

-- The value of a byte that is one of 0-9 or a-f, and 16 for any other.
unfoldable pub digit_of : ℕ → ℕ
digit_of b = cond (leb 48 b && leb b 57) (b - 48) (cond (leb 97 b && leb b 102) (b - 87) 16)

-- Which command uses which field.
unfoldable pub uses_node : ℕ → Bool
uses_node c = eqb c 1 || eqb c 2 || eqb c 4 || eqb c 16 || eqb c 17

unfoldable pub uses_other : ℕ → Bool
uses_other c = leb 5 c && leb c 8 || eqb c 12

unfoldable pub uses_list : ℕ → Bool
uses_list c = not (eqb c 20)

-- The command is one of 1 to 20, and a field that it does not use is zero.
unfoldable pub right_fields : Order → Bool
right_fields o =
    leb 1 o.code && leb o.code 20 && (uses_list o.code || eqb o.list 0) && (uses_other o.code || eqb o.other 0)
    && (uses_node o.code || eqb o.node 0)

-- The number that the digits make, the first one highest.
unfoldable pub value_from : ℕ → List ℕ → ℕ
value_from v [] = v
value_from v (b ∷ bs) = value_from (v * 16 + digit_of b) bs

unfoldable pub all_digits : List ℕ → Bool
all_digits [] = true
all_digits (b ∷ bs) = ltb (digit_of b) 16 && all_digits bs

-- Ten digits, as the fields that they are.
unfoldable pub order_of : ℕ → Order
order_of v =
    record { code = v / 4294967296 % 256; list = v / 16777216 % 256; other = v / 65536 % 256; node = v % 65536 }

abbrev pub if_right : Order → Option Order
if_right o = cond (right_fields o) (Some o) None

-- 11 for an order with an unknown command, or with something in a field that its command does not use, whoever hands it in. A
-- line that was read stays what it was (a law). A list or a node that is only too great is no 11: 2 or 7 says so.
unfoldable pub tested : Option Order → Option Order
tested (Some o) = if_right o
tested None = None

-- 3: both lists are used, and they are the same.
abbrev pub same_list : Order → Bool
same_list o = uses_other o.code && eqb o.list o.other

-- What a whole line says, None if it is malformed, from its bytes without the line feed.
unfoldable pub line_of : List ℕ → Option Order
line_of bs = cond (eqb (length bs) 10 && all_digits bs) (if_right (order_of (value_from 0 bs))) None

-- ---- the same, one byte at a time

abbrev pub fresh : Line
fresh = record { value = 0; count = 0 }

-- Another digit, while there are fewer than ten; any other byte spoils the line.
unfoldable pub fed : Line → ℕ → Line
fed l b =
    cond (ltb l.count 10 && ltb (digit_of b) 16)
    (record { value = l.value % 68719476736 * 16 + digit_of b; count = l.count + 1 })
    (record { value = 0; count = 11 })

unfoldable pub fed_all : Line → List ℕ → Line
fed_all l bs = fold fed l bs

-- What a line that was read so says.
unfoldable pub parsed : Line → Option Order
parsed l = cond (eqb l.count 10) (if_right (order_of l.value)) None
