-- The C entries over lent pools: walk and audit, and refusal 12 before them. Here ns are the numbers that a call is lent.
use Rattle.std.specs.Prelude.{ℕ, cond, List, [], ◌∷◌, ◌++◌, leb, length, drop}
use Rattle.answers.specs.declared.Refusal.TheVariants.{NoRoom}
use Rattle.answers.specs.Answer.{number, answer_number}
use Rattle.ends.specs.declared.Ends.{Ends}
use Rattle.walk.specs.Calls.{walk_all}
use Rattle.audit.specs.Audit.{audit_all}

-- What a call leaves: the marks, the numbers, and what it returns.
pub record Entered : Type 0 where
  pub marks : List ℕ
  pub numbers : List ℕ
  pub answer : ℕ

abbrev pub entered : List ℕ → List ℕ → ℕ → Entered
entered ms ns n = record { marks = ms; numbers = ns; answer = n }

-- The numbers bs are written to the front, and the rest stays as it was.
abbrev pub written : List ℕ → List ℕ → List ℕ
written bs ns = bs ++ drop (length bs) ns

-- Without room for its numbers a call is refused, and nothing changes.
abbrev pub no_room : List ℕ → List ℕ → Entered
no_room ms ns = entered ms ns (number NoRoom)

-- `rewzhanok_walk`: its number is how many nodes the walk stood on.
unfoldable pub walk_entry : List ℕ → Ends → List ℕ → List ℕ → Entered
walk_entry ws e ms ns =
    let w = walk_all ws ms e in
    cond (leb 1 (length ns))
    (entered w.marks (written (w.result.count ∷ []) ns) (answer_number w.result.answer))
    (no_room ms ns)

-- `rewzhanok_audit`: its numbers are the list that a refusal names, the nodes on lists, the stranded nodes, and 0.
unfoldable pub audit_entry : List ℕ → List Ends → List ℕ → List ℕ → Entered
audit_entry ws es ms ns =
    let a = audit_all ws es ms in
    cond (leb 4 (length ns))
    (entered a.marks (written (a.result.list ∷ a.result.on_lists ∷ a.result.stranded ∷ 0 ∷ []) ns) (answer_number a.result.answer))
    (no_room ms ns)
