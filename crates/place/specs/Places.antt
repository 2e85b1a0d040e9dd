-- Places by node and claimed neighbour (document 01, 'Edits').
use Rattle.std.specs.Prelude.{ℕ, Bool, true, cond, List, ltb, length, Option, Some, None, Err}
use Rattle.words.specs.declared.names.Node.{Node}
use Rattle.words.specs.declared.names.Name.{Name}
use Rattle.words.specs.Names.{null, naming}
use Rattle.links.specs.XorOps.{next_of, prev_of}
use Rattle.answers.specs.declared.Refusal.TheVariants.{CursorDoesNotStand, NoSuchNode}
use Rattle.ends.specs.declared.Ends.{Ends}
use Rattle.answers.specs.Answer.{Tested, passed, done, need, and_then, if_refused}
use Rattle.ends.specs.Tests.{ends_test}
use Rattle.cursor.specs.declared.Cursor.{Cursor}
use Rattle.cursor.specs.declared.Edited.{Edited}
use Rattle.cursor.specs.Cursor.{cursor_of, null_cursor, cursor_stands, edited}

-- The name of a claimed neighbour, null for none.
abbrev pub claimed : Option Node → Name
claimed (Some i) = naming i
claimed None = null

-- It is none, or a node of a pool of n.
abbrev pub known : ℕ → Option Node → Bool
known n (Some i) = ltb i.0 n
known n None = true

-- 1, 4, and 7 for either number.
unfoldable pub claim_test : List ℕ → Ends → Node → Option Node → Tested
claim_test ws e i j =
    and_then (ends_test ws e) (need (ltb i.0 (length ws)) NoSuchNode (need (known (length ws) j) NoSuchNode passed))

-- 5 unless the place stands; refused, it is the null cursor.
unfoldable pub placed : List ℕ → Ends → Cursor → Edited
placed ws e c = cond (cursor_stands ws e c) (edited done e c) (edited (Err CursorDoesNotStand) e (null_cursor e))

-- The other neighbour is worked out by xor.
unfoldable pub place_by_prev : List ℕ → Ends → Node → Option Node → Edited
place_by_prev ws e i j =
    let p = claimed j in
    if_refused (claim_test ws e i j) (λ r. edited (Err r) e (null_cursor e))
    (placed ws e (cursor_of (naming i) p (record { 0 = next_of ws (naming i).0 p.0 })))

unfoldable pub place_by_next : List ℕ → Ends → Node → Option Node → Edited
place_by_next ws e i j =
    let q = claimed j in
    if_refused (claim_test ws e i j) (λ r. edited (Err r) e (null_cursor e))
    (placed ws e (cursor_of (naming i) (record { 0 = prev_of ws (naming i).0 q.0 }) q))
