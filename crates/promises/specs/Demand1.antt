-- Demand 1: any words, ends, cursor, node and marks are handed to any call, any line to any desk, anything to the C entries. It does
-- its edit, or it is refused with the number of the first test of its row that fails; and refused, it has changed nothing but marks.
use Rattle.std.specs.Prelude.{ℕ, ◌*◌, ◌<◌, ◌≤◌, ◌≡◌, ◌≢◌, ◌⊎◌, true, List, [], ◌∷◌, length, Err, is_err, Option}
use Rattle.words.specs.Pool.{outcome}
use Rattle.answers.specs.declared.Refusal.{Refusal}
use Rattle.answers.specs.declared.Refusal.TheVariants.{NoRoom}
use Rattle.answers.specs.Answer.{number}
use Rattle.ends.specs.declared.Ends.{Ends}
use Rattle.walk.specs.Marks.{Marking, marking}
use Rattle.table.specs.Calls.{Call, walk, clear, audit}
use Rattle.table.specs.Table.{Test, test, FirstFailing, row}
use Rattle.table.specs.Refused.{follows_chain, marks_after, marks_under, AllCalls}
use Rattle.table.specs.Lowest.{Names}
use Rattle.lines.specs.declared.line.Order.{Order}
use Rattle.lines.specs.Inputs.{lines_of}
use Rattle.desk.specs.declared.Row.{Row}
use Rattle.desk.specs.Work.{worked, work_of, clearing}
use Rattle.desk.specs.Reply.{no_node}
use Rattle.desk.specs.Step.{Desk, DeskStepped, step}
use Rattle.lent_desk.specs.Lent.{Lent, lent, desk_of, lent_step}
use Rattle.batch_desk.specs.Step.{no_marks, batch_step}
use Rattle.rewzhanok.specs.Entry.{entered, entry_test, entry_of}
use Rattle.rewzhanok_pools.specs.Entries.{Entered, no_room, walk_entry, audit_entry}
use Rattle.promises.specs.Commands.{line_row, line_follows, work_row}

-- The number is that of the first test that fails, and 0 if none does.
abbrev pub FirstNumber : List Test → ℕ → Type 0
FirstNumber [] n = n ≡ 0
FirstNumber (t ∷ ts) n = (t.Passes × FirstNumber ts n) ⊎ ((t.Passes → ⊥) × (n ≡ number t.refusal))

-- A line on a desk, whatever is in it. Refused, the desk is as it was, the marks are by the table's one definition, and no node is
-- handed out.
pub record OnDesk (d : Desk) (ms : List ℕ) (p : Option Order) (s : Marking DeskStepped) : Type 0 where
  pub tests : FirstNumber (line_row d ms p) s.result.reply.number
  pub same : s.result.reply.number ≢ 0 → s.result.desk ≡ d
  pub marks : s.result.reply.number ≢ 0 → s.marks ≡ marks_after (line_follows d p) s.result.reply.number ms
  pub none : s.result.reply.number ≢ 0 → s.result.reply.second ≡ no_node

-- `work`, on two lists and words that may be anything.
pub record AtWork (ws : List ℕ) (r q : Row) (o : Order) : Type 0 where
  pub tests : FirstFailing (work_row ws r q o) (work_of ws r q o).result.answer
  pub unchanged : (x : Refusal) → (work_of ws r q o).result.answer ≡ Err x → work_of ws r q o ≡ outcome ws (worked (Err x) r q)

-- The desk's clear, on two lists, words and marks that may be anything.
pub record AtClear (ws ms : List ℕ) (r q : Row) : Type 0 where
  pub tests : FirstFailing (row ws ms (clear r.ends)) (clearing ws ms r q).result.result.answer
  pub unchanged : (x : Refusal) → (clearing ws ms r q).result.result.answer ≡ Err x
      → clearing ws ms r q ≡ outcome ws (marking (marks_under (clear r.ends) x ms) (worked (Err x) r q))

-- A line on the lent desk: all that is lent is as it was, but marks.
pub record OnLent (s : Lent) (p : Option Order) : Type 0 where
  pub tests : FirstNumber (line_row (desk_of s) s.marks p) (lent_step s p).reply.number
  pub same : (lent_step s p).reply.number ≢ 0
      → (lent_step s p).lent ≡ lent s.words s.lists (marks_after (line_follows (desk_of s) p) (lent_step s p).reply.number s.marks)
  pub none : (lent_step s p).reply.number ≢ 0 → (lent_step s p).reply.second ≡ no_node

-- A line on the batch desk, which has marks of its own.
pub record OnBatch (d : Desk) (p : Option Order) : Type 0 where
  pub tests : FirstNumber (line_row d no_marks p) (batch_step d p).reply.number
  pub same : (batch_step d p).reply.number ≢ 0 → (batch_step d p).desk ≡ d
  pub none : (batch_step d p).reply.number ≢ 0 → (batch_step d p).reply.second ≡ no_node

-- The C entry: 12 alone, and then no byte changes.
pub record AtEntry (cs out : List ℕ) : Type 0 where
  pub tests : FirstFailing (test NoRoom (length cs ≤ 65536) ∷ test NoRoom (11 * length (lines_of cs) ≤ length out) ∷ []) (entry_test cs out)
  pub unchanged : is_err (entry_test cs out) ≡ true → entry_of cs out ≡ entered out 4294967295

-- A C entry over a pool that makes the call c and has k numbers for the caller: 12, and then the row of the call. Without room nothing
-- is changed; refused by the call, nothing but marks, and the numbers are the call's.
pub record AtPool (k : ℕ) (ws ms ns : List ℕ) (c : Call) (s : Entered) : Type 0 where
  pub tests : FirstNumber (test NoRoom (k ≤ length ns) ∷ row ws ms c) s.answer
  pub no-room : length ns < k → s ≡ no_room ms ns
  pub marks : s.answer ≢ 0 → s.marks ≡ marks_after (follows_chain c) s.answer ms

-- All of it.
pub record Demand1 : Type 0 where
  pub calls : AllCalls
  -- and a refused audit names the lowest list at fault
  pub names : (ws ms : List ℕ) (es : List Ends) → Names ws ms es
  pub lines : (d : Desk) (ms : List ℕ) (p : Option Order) → OnDesk d ms p (step d ms p)
  pub work : (ws : List ℕ) (r q : Row) (o : Order) → AtWork ws r q o
  pub clear : (ws ms : List ℕ) (r q : Row) → AtClear ws ms r q
  pub lent-desk : (s : Lent) (p : Option Order) → OnLent s p
  pub batch-desk : (d : Desk) (p : Option Order) → OnBatch d p
  pub entry : (cs out : List ℕ) → AtEntry cs out
  pub walk-entry : (ws ms ns : List ℕ) (e : Ends) → AtPool 1 ws ms ns (walk e) (walk_entry ws e ms ns)
  pub audit-entry : (ws ms ns : List ℕ) (es : List Ends) → AtPool 4 ws ms ns (audit es) (audit_entry ws es ms ns)
