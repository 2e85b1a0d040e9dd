-- The table of refusals (document 01, 'Refusal numbers'): each call's tests in their order. It is written with the notions of the
-- document, and not with the tests that the calls make.
use Rattle.std.specs.Prelude.{Result, ℕ, ◌*◌, ◌<◌, ◌≤◌, ◌≡◌, ◌⊎◌, true, false, List, [], ◌∷◌, length, get_or, Err, None, Option, Some, is_err}
use Rattle.std.specs.Int.Bits.{bit_xor}
use Rattle.words.specs.declared.names.Node.{Node}
use Rattle.words.specs.Names.{name, is_null, is_name, is_linked, pool_fits, directory_fits}
use Rattle.words.specs.Pool.{word_at}
use Rattle.words.specs.Listing.{Listing}
use Rattle.answers.specs.declared.Refusal.{Refusal}
use Rattle.answers.specs.declared.Refusal.TheVariants.{Size, EndsDoNotHold, CursorDoesNotStand, NotEmpty, NoSuchNode, AtNull, AlreadyLinked, NoListing}
use Rattle.ends.specs.declared.Ends.{Ends}
use Rattle.ends.specs.Ends.{is_empty}
use Rattle.ends.specs.Tests.{ends_hold, stands}
use Rattle.cursor.specs.declared.Cursor.{Cursor}
use Rattle.iter.specs.declared.Iter.{Iter}
use Rattle.audit.specs.Listed.{AllHold, Listed, AllApart}
use Rattle.table.specs.Calls.{AtCursor, move-next, move-prev, remove, insert-after, insert-before, replace}
use Rattle.table.specs.Calls.{AtBoth, splice-after, splice-before, split-after, split-before}
use Rattle.table.specs.Calls.{OnList, push-front, push-back, pop-front, pop-back, fast-clear, reversal}
use Rattle.table.specs.Calls.{Placing, at-front, at-back, by-prev, by-next, Side, front, back}
use Rattle.table.specs.Calls.{Call, at-cursor, at-both, on-list, take, placing, read, step, walk, clear, audit}

-- A test: the refusal that it gives, and when it passes.
pub record Test : Type 1 where
  pub refusal : Refusal
  pub Passes : Type 0

abbrev pub test : Refusal → Type 0 → Test
test r P = record { refusal = r; Passes = P }

-- The answer is the refusal of the first test that fails; it is no refusal if none does.
abbrev pub FirstFailing : {A : Type 0} → List Test → Result A Refusal → Type 0
FirstFailing [] a = is_err a ≡ false
FirstFailing (t ∷ ts) a = (t.Passes × FirstFailing ts a) ⊎ ((t.Passes → ⊥) × (a ≡ Err t.refusal))

-- ---- the tests

-- 1: the pool, the marks, the directory, the width of a record, the records.
abbrev pub pool : List ℕ → Test
pool ws = test Size (pool_fits (length ws) ≡ true)

abbrev pub marks : List ℕ → List ℕ → Test
marks ws ms = test Size (length ms ≡ length ws)

abbrev pub directory : List Ends → Test
directory es = test Size (directory_fits (length es) ≡ true)

abbrev pub width : ℕ → Test
width w = test Size ((1 ≤ w) × (w ≤ 256))

abbrev pub records : List ℕ → List ℕ → ℕ → Test
records ws rs w = test Size (length rs ≡ w * length ws)

-- 4: the ends hold.
abbrev pub ends : List ℕ → Ends → Test
ends ws e = test EndsDoNotHold (ends_hold ws e ≡ true)

-- 5: a cursor at c, with p before it and q after it, stands.
abbrev pub standing : List ℕ → Ends → ℕ → ℕ → ℕ → Test
standing ws e c p q = test CursorDoesNotStand (stands ws e c p q ≡ true)

abbrev pub cursor : List ℕ → Ends → Cursor → Test
cursor ws e c = standing ws e c.current.0 c.prev.0 c.next.0

-- 6: the other list is empty.
abbrev pub empty : Ends → Test
empty o = test NotEmpty (is_empty o ≡ true)

-- 7: there is such a node; of a neighbour that may be none, if it is one.
abbrev pub node : List ℕ → Node → Test
node ws i = test NoSuchNode (i.0 < length ws)

abbrev pub Known : ℕ → Option Node → Type 0
Known n (Some j) = j.0 < n
Known n None = Unit

abbrev pub neighbour : List ℕ → Option Node → Test
neighbour ws j = test NoSuchNode (Known (length ws) j)

-- 8: the cursor is not at null; the list is not empty.
abbrev pub at_node : Cursor → Test
at_node c = test AtNull (is_null c.current ≡ false)

abbrev pub some : Ends → Test
some e = test AtNull (is_empty e ≡ false)

-- 9: the node is not linked.
abbrev pub free : List ℕ → Node → Test
free ws i = test AlreadyLinked (is_linked (get_or ws i.0 0) ≡ false)

-- 10: the list has a listing; all lists have, and none share a node.
abbrev pub listing : List ℕ → Ends → Test
listing ws e = test NoListing ((xs : List ℕ) × Listing bit_xor ws e.head.0 e.tail.0 xs)

abbrev pub listings : List ℕ → List Ends → Test
listings ws es = test NoListing ((xss : List (List ℕ)) × Listed ws es xss × AllApart xss)

-- 10, of a step from w, with p outside it and t at the far end: w is null; or it is a name in range, and it is the last, or else
-- the word worked out is a name in range too.
abbrev pub follows : List ℕ → ℕ → ℕ → ℕ → Test
follows ws w p t =
    test NoListing
    ((w ≡ 0) ⊎ ((is_name (length ws) w ≡ true) × ((w ≡ t) ⊎ (is_name (length ws) (bit_xor (word_at ws w) p) ≡ true))))

-- The name of a neighbour, null for none.
abbrev pub named : Option Node → ℕ
named (Some j) = name j.0
named None = 0

-- ---- the rows

abbrev pub cursor_row : List ℕ → AtCursor → Ends → Cursor → List Test
cursor_row ws move-next e c = pool ws ∷ ends ws e ∷ cursor ws e c ∷ []
cursor_row ws move-prev e c = pool ws ∷ ends ws e ∷ cursor ws e c ∷ []
cursor_row ws remove e c = pool ws ∷ ends ws e ∷ cursor ws e c ∷ at_node c ∷ []
cursor_row ws (insert-after i) e c = pool ws ∷ ends ws e ∷ cursor ws e c ∷ node ws i ∷ free ws i ∷ []
cursor_row ws (insert-before i) e c = pool ws ∷ ends ws e ∷ cursor ws e c ∷ node ws i ∷ free ws i ∷ []
cursor_row ws (replace i) e c = pool ws ∷ ends ws e ∷ cursor ws e c ∷ node ws i ∷ at_node c ∷ free ws i ∷ []

abbrev pub both_row : List ℕ → AtBoth → Ends → Cursor → Ends → List Test
both_row ws splice-after e c o = pool ws ∷ ends ws e ∷ ends ws o ∷ cursor ws e c ∷ []
both_row ws splice-before e c o = pool ws ∷ ends ws e ∷ ends ws o ∷ cursor ws e c ∷ []
both_row ws split-after e c o = pool ws ∷ ends ws e ∷ ends ws o ∷ cursor ws e c ∷ empty o ∷ []
both_row ws split-before e c o = pool ws ∷ ends ws e ∷ ends ws o ∷ cursor ws e c ∷ empty o ∷ []

abbrev pub list_row : List ℕ → OnList → Ends → List Test
list_row ws (push-front i) e = pool ws ∷ ends ws e ∷ node ws i ∷ free ws i ∷ []
list_row ws (push-back i) e = pool ws ∷ ends ws e ∷ node ws i ∷ free ws i ∷ []
list_row ws pop-front e = pool ws ∷ ends ws e ∷ some e ∷ []
list_row ws pop-back e = pool ws ∷ ends ws e ∷ some e ∷ []
list_row ws fast-clear e = pool ws ∷ ends ws e ∷ []
list_row ws reversal e = pool ws ∷ ends ws e ∷ []

-- The neighbour that is not claimed is worked out by xor, and the result must stand.
abbrev pub place_row : List ℕ → Placing → Ends → List Test
place_row ws at-front e = pool ws ∷ ends ws e ∷ []
place_row ws at-back e = pool ws ∷ ends ws e ∷ []
place_row ws (by-prev i j) e =
    pool ws ∷ ends ws e ∷ node ws i ∷ neighbour ws j ∷ standing ws e (name i.0) (named j) (bit_xor (get_or ws i.0 0) (named j)) ∷ []
place_row ws (by-next i j) e =
    pool ws ∷ ends ws e ∷ node ws i ∷ neighbour ws j ∷ standing ws e (name i.0) (bit_xor (get_or ws i.0 0) (named j)) (named j) ∷ []

abbrev pub step_row : List ℕ → Side → Iter → List Test
step_row ws front it = pool ws ∷ follows ws it.head.0 it.prev_head.0 it.tail.0 ∷ []
step_row ws back it = pool ws ∷ follows ws it.tail.0 it.next_tail.0 it.head.0 ∷ []

-- The tests of a call on these words and marks, in order.
abbrev pub row : List ℕ → List ℕ → Call → List Test
row ws ms (at-cursor k e c) = cursor_row ws k e c
row ws ms (at-both k e c o) = both_row ws k e c o
row ws ms (on-list k e) = list_row ws k e
row ws ms (take e o) = pool ws ∷ ends ws e ∷ ends ws o ∷ empty o ∷ []
row ws ms (placing k e) = place_row ws k e
row ws ms (read e c rs w) = pool ws ∷ width w ∷ records ws rs w ∷ ends ws e ∷ cursor ws e c ∷ at_node c ∷ []
row ws ms (step s it) = step_row ws s it
row ws ms (walk e) = pool ws ∷ marks ws ms ∷ ends ws e ∷ listing ws e ∷ []
row ws ms (clear e) = pool ws ∷ marks ws ms ∷ ends ws e ∷ listing ws e ∷ []
row ws ms (audit es) = pool ws ∷ marks ws ms ∷ directory es ∷ test EndsDoNotHold (AllHold ws es) ∷ listings ws es ∷ []
