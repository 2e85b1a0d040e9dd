-- The iterator (document 01, 'Edits').
use Rattle.std.specs.Prelude.{ℕ, cond, List, eqb, length, Ok, Err}
use Rattle.words.specs.Names.{null, is_null, is_name, pool_fits, decoding}
use Rattle.links.specs.XorOps.{next_of}
use Rattle.answers.specs.declared.Refusal.TheVariants.{Size, NoListing}
use Rattle.ends.specs.declared.Ends.{Ends}
use Rattle.answers.specs.Answer.{Answer, done}
use Rattle.iter.specs.declared.Iter.{Iter}
use Rattle.iter.specs.declared.Stepped.{Stepped}

abbrev pub stepped : Answer → Iter → Stepped
stepped a it = record { answer = a; iter = it }

-- Over a whole list: nothing is stepped over yet.
abbrev pub iter_of : Ends → Iter
iter_of e = record { prev_head = null; head = e.head; tail = e.tail; next_tail = null }

-- Nothing is left.
abbrev pub over : Iter
over = record { prev_head = null; head = null; tail = null; next_tail = null }

-- Seen from the other side.
abbrev pub turned_iter : Iter → Iter
turned_iter it = record { prev_head = it.next_tail; head = it.tail; tail = it.head; next_tail = it.prev_head }

-- One node from the front. A head of null gives nothing. Else it must be a name in range; the last node ends the
-- iteration; and before the last, what comes after it must be a name in range too.
unfoldable pub next : List ℕ → Iter → Stepped
next ws it =
    let n = length ws in
    let out = Ok (decoding n it.head) in
    let after = next_of ws it.head.0 it.prev_head.0 in
    cond (pool_fits n)
    (cond (is_null it.head) (stepped done it)
    (cond (is_name n it.head.0)
    (cond (eqb it.head.0 it.tail.0) (stepped out over)
    (cond (is_name n after)
    (stepped out (record { prev_head = it.head; head = record { 0 = after }; tail = it.tail; next_tail = it.next_tail }))
    (stepped (Err NoListing) it)))
    (stepped (Err NoListing) it)))
    (stepped (Err Size) it)

-- One node from the back: the same from the other side.
unfoldable pub next_back : List ℕ → Iter → Stepped
next_back ws it = let r = next ws (turned_iter it) in stepped r.answer (turned_iter r.iter)
