-- A line that was read was tested for 11: the test changes nothing. What it passes has right fields. Assumes nothing.
use mathlib.Core.Path.{◌≡◌, refl, sym, ap, ◌∙◌}
use mathlib.Core.Bool.{Bool, true, false, ◌&&◌, cond}
use mathlib.Core.List.{List}
use Prim.Native.Nat.{ℕ}
use lib.Dec.{eqb}
use lib.ListN.{length}
use Rattle.lines.specs.declared.line.Order.{Order}
use Rattle.lines.specs.declared.line.Line.{Line}
use Rattle.std.specs.Prelude.{Option, Some, None}
use Rattle.lines.specs.Lines.{right_fields, value_from, all_digits, order_of, if_right, line_of, parsed, tested}

pub tested-right : (o : Order) → right_fields o ≡ true → tested (Some o) ≡ Some o
unfolding tested
tested-right o e = rw e

pub tested-wrong : (o : Order) → right_fields o ≡ false → tested (Some o) ≡ None
unfolding tested
tested-wrong o e = rw e

pub tested-malformed : tested None ≡ None
unfolding tested
tested-malformed = refl

again : (o : Order) → tested (if_right o) ≡ if_right o
again o = go (right_fields o) refl
  where
    go : (t : Bool) → right_fields o ≡ t → tested (if_right o) ≡ if_right o
    go true e = rw e (tested-right o e)
    go false e = rw e tested-malformed

either : (t : Bool) (o : Order) → tested (cond t (if_right o) None) ≡ cond t (if_right o) None
either true o = again o
either false o = tested-malformed

pub tested-line : (bs : List ℕ) → tested (line_of bs) ≡ line_of bs
unfolding line_of
tested-line bs = either (eqb (length bs) 10 && all_digits bs) (order_of (value_from 0 bs))

pub tested-parsed : (l : Line) → tested (parsed l) ≡ parsed l
unfolding parsed
tested-parsed l = either (eqb l.count 10) (order_of l.value)

-- the fields of an order, if there is one, are right
fields_of : Option Order → Bool
fields_of (Some o) = right_fields o
fields_of None = true

passed : (p : Option Order) → fields_of (tested p) ≡ true
unfolding fields_of
passed (Some o) = go (right_fields o) refl
  where
    go : (t : Bool) → right_fields o ≡ t → fields_of (tested (Some o)) ≡ true
    go true e = rw (tested-right o e) e
    go false e = rw (tested-wrong o e)
passed None = rw tested-malformed

pub tested-fields : (p : Option Order) (o : Order) → tested p ≡ Some o → right_fields o ≡ true
unfolding fields_of
tested-fields p o e = sym (ap fields_of e) ∙ passed p
