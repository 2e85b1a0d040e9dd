-- What each call hands back and leaves, for all arguments.
use Rattle.std.specs.Prelude.{ℕ, Bool, false, ◌&&◌, not, cond, List, eqb, length, Err, is_err}
use Rattle.words.specs.Names.{unlinked_marker}
use Rattle.words.specs.Pool.{Outcome, outcome}
use Rattle.answers.specs.declared.Refusal.{Refusal}
use Rattle.answers.specs.declared.Refusal.TheVariants.{Size, EndsDoNotHold, NoListing}
use Rattle.ends.specs.declared.Ends.{Ends}
use Rattle.answers.specs.Answer.{done}
use Rattle.ends.specs.declared.ListEdited.{ListEdited}
use Rattle.ends.specs.Ends.{empty_ends, list_edited}
use Rattle.ends.specs.Tests.{ends_hold}
use Rattle.walk.specs.declared.step.Stood.{Stood}
use Rattle.walk.specs.declared.walk.Walked.{Walked}
use Rattle.walk.specs.Marks.{paint, unmarked, sizes_fit, Marking, marking}
use Rattle.walk.specs.Walk.{Walk, walk_of}

-- A walk with the mark m: it is set on each node that was stood on, and they are counted.
unfoldable pub stood : List ℕ → ℕ → Walk → Marking Stood
stood ms m w = marking (paint ms m w.met) (record { ok = w.ok; count = length w.met })

-- The step of one list can be made: the sizes fit, the mark is not 0, and the ends hold.
unfoldable pub can_walk : List ℕ → List ℕ → Ends → ℕ → Bool
can_walk ws ms e m = sizes_fit ws ms && not (eqb m 0) && ends_hold ws e

-- `walk_list`, the step of one list over marks that may be set: a marked node is on another list, and not stood on.
unfoldable pub walk_list : List ℕ → List ℕ → Ends → ℕ → Marking Stood
walk_list ws ms e m =
    cond (can_walk ws ms e m) (stood ms m (walk_of ws ms e)) (marking ms (record { ok = false; count = 0 }))

-- What `walk` says of a walk over marks of which none is set: 10, with no mark, unless it ended right.
unfoldable pub verdict : List ℕ → Walk → Marking Walked
verdict ms w =
    cond w.ok
    (marking (paint ms 1 w.met) (record { answer = done; count = length w.met }))
    (marking ms (record { answer = Err NoListing; count = length w.met }))

-- A walk that is not begun.
abbrev pub unbegun : List ℕ → Refusal → Marking Walked
unbegun ms r = marking ms (record { answer = Err r; count = 0 })

-- `walk`: the tests in their order, then the walk of the list over marks of which none is set.
unfoldable pub walk_all : List ℕ → List ℕ → Ends → Marking Walked
walk_all ws ms e =
    cond (sizes_fit ws ms)
    (cond (ends_hold ws e)
    (verdict (unmarked ms) (walk_of ws (unmarked ms) e))
    (unbegun ms EndsDoNotHold))
    (unbegun ms Size)

-- `clear`: it walks; refused, it leaves words and ends as they are; else each node that was stood on gets the unlinked
-- marker, and the ends are those of an empty list.
unfoldable pub clear_all : List ℕ → List ℕ → Ends → Outcome (Marking ListEdited)
clear_all ws ms e =
    let w = walk_all ws ms e in
    let a = w.result.answer in
    cond (is_err a)
    (outcome ws (marking w.marks (list_edited a e)))
    (outcome (paint ws unlinked_marker (walk_of ws (unmarked ms) e).met) (marking w.marks (list_edited a empty_ends)))
