-- The audit of a directory (document 01, 'Walk and audit'). Here and in all that follows es are the records of its lists,
-- and k is the number of a list.
use Rattle.std.specs.Prelude.{ℕ, zero, suc, ◌+◌, Bool, cond, not, ◌&&◌, List, [], ◌∷◌, length, slice_index, Err}
use Rattle.words.specs.Names.{directory_fits, is_linked}
use Rattle.answers.specs.declared.Refusal.{Refusal}
use Rattle.answers.specs.declared.Refusal.TheVariants.{Size, EndsDoNotHold, NoListing}
use Rattle.answers.specs.Answer.{done}
use Rattle.ends.specs.declared.Ends.{Ends}
use Rattle.ends.specs.Ends.{ends_of}
use Rattle.ends.specs.Tests.{ends_hold}
use Rattle.walk.specs.Marks.{is_marked, unmarked, sizes_fit, Marking, marking}
use Rattle.walk.specs.Calls.{walk_list}
use Rattle.audit.specs.declared.Audited.{Audited}

-- The records of the lists with these heads and tails: as many as there are of both.
abbrev pub zip_ends : List ℕ → List ℕ → List Ends
zip_ends [] ts = []
zip_ends (h ∷ hs) [] = []
zip_ends (h ∷ hs) (t ∷ ts) = ends_of (record { 0 = h }) (record { 0 = t }) ∷ zip_ends hs ts

-- The pool and the directory are within their limits, and there is one mark a node.
unfoldable pub audit_fits : List ℕ → List Ends → List ℕ → Bool
audit_fits ws es ms = sizes_fit ws ms && directory_fits (length es)

-- Which list fails a test first, if any does.
pub data Lowest : Type 0 where
  none : Lowest
  list : ℕ → Lowest

-- The lowest list whose ends do not hold, if the first of these is list k.
unfoldable pub lowest_unheld : List ℕ → ℕ → List Ends → Lowest
lowest_unheld ws k [] = none
lowest_unheld ws k (e ∷ es) = cond (ends_hold ws e) (lowest_unheld ws (k + 1) es) (list k)

-- The walks of the lists in turn, each over the marks that those before it left, up to the first that comes out wrong.
-- The mark of list k is k + 1, and a node that has a mark is not stood on again.
unfoldable pub walks_of : List ℕ → ℕ → List Ends → List ℕ → Marking Lowest
walks_of ws k [] ms = marking ms none
walks_of ws k (e ∷ es) ms =
    let w = walk_list ws ms e (k + 1) in
    cond w.result.ok (walks_of ws (k + 1) es w.marks) (marking w.marks (list k))

-- 1 for a test that passes, 0 for one that fails.
unfoldable pub bit : Bool → ℕ
bit b = cond b 1 0

-- How many of the nodes below n pass a test.
unfoldable pub tally : ℕ → (ℕ → Bool) → ℕ
tally zero p = 0
tally (suc n) p = tally n p + bit (p n)

-- Node i is stranded: it has no mark, and its word is that of a linked node.
unfoldable pub is_stranded : List ℕ → List ℕ → ℕ → Bool
is_stranded ws ms i = not (is_marked ms i) && is_linked (slice_index ws i)

-- An audit that is refused at list k.
abbrev pub refused_at : Refusal → ℕ → Audited
refused_at r k = record { answer = Err r; list = k; on_lists = 0; stranded = 0 }

-- What the walks show: 10 at the lowest list that failed, with no mark; or else the nodes that have marks, and the stranded.
abbrev pub after_walks : List ℕ → List ℕ → Lowest → Marking Audited
after_walks ws ms none =
    marking ms (record { answer = done; list = 0; on_lists = tally (length ws) (is_marked ms); stranded = tally (length ws) (is_stranded ws ms) })
after_walks ws ms (list k) = marking (unmarked ms) (refused_at NoListing k)

-- What the ends show: 4 at the lowest list that failed; or else it is for the walks, over marks of which none is set.
abbrev pub after_ends : List ℕ → List Ends → List ℕ → Lowest → Marking Audited
after_ends ws es ms none = let w = walks_of ws 0 es (unmarked ms) in after_walks ws w.marks w.result
after_ends ws es ms (list k) = marking ms (refused_at EndsDoNotHold k)

-- The audit: the sizes, then the ends of all lists, then their walks.
unfoldable pub audit_all : List ℕ → List Ends → List ℕ → Marking Audited
audit_all ws es ms =
    cond (audit_fits ws es ms) (after_ends ws es ms (lowest_unheld ws 0 es)) (marking ms (refused_at Size 0))
