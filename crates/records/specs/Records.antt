-- Reading (document 01, 'Edits' and refusal 1): the records are one flat slice, so many bytes a node.
use Rattle.std.specs.Prelude.{ℕ, ◌*◌, Bool, cond, ◌&&◌, List, [], ltb, leb, eqb, length, take, drop, is_err}
use Rattle.words.specs.Names.{node_of, pool_fits}
use Rattle.answers.specs.declared.Refusal.TheVariants.{Size}
use Rattle.ends.specs.declared.Ends.{Ends}
use Rattle.answers.specs.Answer.{Tested, need}
use Rattle.cursor.specs.declared.Cursor.{Cursor}
use Rattle.cursor.specs.Cursor.{stand_test, some_test}

-- The pool is within the limit, the width is 1 to 256, and there are width times nodes bytes.
unfoldable pub records_fit : ℕ → ℕ → ℕ → Bool
records_fit n width len = pool_fits n && leb width 256 && (ltb 0 width && eqb len (width * n))

-- 1, 4, 5, 8.
unfoldable pub read_test : List ℕ → Ends → Cursor → ℕ → ℕ → Tested
read_test ws e c len width = need (records_fit (length ws) width len) Size (some_test (stand_test ws e c) c)

-- The record of node i.
abbrev pub record_of : List ℕ → ℕ → ℕ → List ℕ
record_of rs width i = take width (drop (i * width) rs)

-- The record of the node under the cursor; nothing if refused.
unfoldable pub read_at : List ℕ → Ends → Cursor → List ℕ → ℕ → List ℕ
read_at ws e c rs width =
    cond (is_err (read_test ws e c (length rs) width)) [] (record_of rs width (node_of c.current.0))
