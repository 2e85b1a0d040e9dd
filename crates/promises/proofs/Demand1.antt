-- Demand 1 is kept. Assumes nothing.
use mathlib.Core.Path.{◌≡◌, refl, sym, ap, ◌∙◌}
use mathlib.Core.Logic.{inl, inr}
use mathlib.Core.Bool.{Bool, true, false, cond}
use mathlib.Core.List.{List, [], ◌∷◌}
use Prim.Native.Nat.{ℕ, ◌*◌, ◌≤◌}
use native.Mathlib.Omega.{arith}
use lib.Dec.{leb}
use lib.ListN.{length}
use borrow.Author.Tests.{leb-true, le-leb}
use Rattle.std.specs.Prelude.{Option, Ok, Err, is_err}
use Rattle.answers.specs.declared.Refusal.TheVariants.{NoRoom}
use Rattle.answers.specs.Answer.{Answer, Tested, passed, answer_number, if_refused, need}
use Rattle.answers.proofs.Laws.Ladder.{not-both}
use Rattle.ends.specs.declared.Ends.{Ends}
use Rattle.walk.specs.Calls.{walk_all}
use Rattle.audit.specs.Audit.{audit_all}
use Rattle.table.specs.Calls.{Call, walk, audit, Left, calls}
use Rattle.table.specs.Table.{test, row}
use Rattle.table.specs.Refused.{follows_chain, marks_after, Keeps}
use Rattle.table.proofs.Laws.Ladder.{rung}
use Rattle.table.proofs.Laws.All.{all-calls}
use Rattle.table.proofs.Laws.Lowest.{audit-names}
use Rattle.lines.specs.declared.line.Order.{Order}
use Rattle.lines.specs.Inputs.{lines_of}
use Rattle.desk.specs.Step.{Desk, step}
use Rattle.rows.specs.Rows.{laid}
use Rattle.rows.proofs.Laws.Rows.{laid-own}
use Rattle.lent_desk.specs.Lent.{Lent, lent, desk_of, left_by, lent_step}
use Rattle.batch_desk.specs.Step.{no_marks, batch_step}
use Rattle.rewzhanok.specs.Entry.{entry_test, entry_of}
use Rattle.rewzhanok_pools.specs.Entries.{entered, written, no_room, walk_entry, audit_entry}
use Rattle.promises.specs.Demand1.{OnLent, OnBatch, AtEntry, AtPool, Demand1}
use Rattle.promises.proofs.Commands.{at-work, at_clear}
use Rattle.promises.proofs.Lines.{numbered, refusal, kept-marks, on-desk}

-- the lists go back to the places that they came from
on-lent : (s : Lent) (p : Option Order) → OnLent s p
unfolding lent_step left_by desk_of
on-lent s p =
    let k = on-desk (desk_of s) s.marks p in
    let m = step (desk_of s) s.marks p in
    record {
      tests = k.tests;
      same = λ z.
          ap (λ (d : Desk). lent d.words (laid d.lists s.lists) m.marks) (k.same z)
          ∙ ap (λ (ls : List ℕ). lent s.words ls m.marks) (laid-own s.lists)
          ∙ ap (λ (ms : List ℕ). lent s.words s.lists ms) (k.marks z);
      none = k.none;
    }

on-batch : (d : Desk) (p : Option Order) → OnBatch d p
unfolding batch_step
on-batch d p = let k = on-desk d no_marks p in record { tests = k.tests; same = k.same; none = k.none }

refused-entry : {A : Type 0} (t : Tested) (x y : A) → is_err t ≡ true → if_refused t (λ r. x) y ≡ x
refused-entry (Err r) x y h = refl
refused-entry (Ok u) x y h = absurd (not-both (sym h))

at_entry : (cs out : List ℕ) → AtEntry cs out
unfolding entry_test entry_of
at_entry cs out =
    let room = 11 * length (lines_of cs) in
    record {
      tests =
          rung (leb (length cs) 65536) NoRoom (length cs ≤ 65536) (need (leb room (length out)) NoRoom passed) (test NoRoom (room ≤ length out) ∷ [])
          (λ h. leb-true (length cs) 65536 h) (λ h. le-leb (length cs) 65536 h)
          (λ p. rung (leb room (length out)) NoRoom (room ≤ length out) passed [] (λ h. leb-true room (length out) h) (λ h. le-leb room (length out) h)
          (λ q. refl));
      unchanged = refused-entry (entry_test cs out) _ _;
    }

module _ (ws ms ns : List ℕ) (c : Call) (a : Answer) (after bs : List ℕ) (answers : (calls ws ms c).answer ≡ a) (leaves : (calls ws ms c).marks ≡ after) where
  at-pool : (k : ℕ) → AtPool k ws ms ns c (cond (leb k (length ns)) (entered after (written bs ns) (answer_number a)) (no_room ms ns))
  at-pool k = go (leb k (length ns)) refl
    where
      kept : Keeps ws ms c
      kept = all-calls ws ms c

      go : (b : Bool) → leb k (length ns) ≡ b → AtPool k ws ms ns c (cond b (entered after (written bs ns) (answer_number a)) (no_room ms ns))
      go true h =
          record {
            tests = inl (leb-true k (length ns) h, numbered (row ws ms c) a (rw (← answers) kept.tests));
            no-room = λ l. absurd (let m = leb-true k (length ns) h in omega arith);
            marks = λ z.
                let x = refusal a z in
                sym leaves ∙ ap (λ (l : Left). l.marks) (kept.unchanged x.0 (answers ∙ x.1))
                ∙ ap (λ (t : Answer). marks_after (follows_chain c) (answer_number t) ms) (sym x.1);
          }
      go false h =
          record {
            tests = inr (λ m. not-both (sym (le-leb k (length ns) m) ∙ h), refl);
            no-room = λ l. refl;
            marks = λ z. kept-marks (follows_chain c) 12 ms refl;
          }

at-walk : (ws ms ns : List ℕ) (e : Ends) → AtPool 1 ws ms ns (walk e) (walk_entry ws e ms ns)
unfolding walk_entry
at-walk ws ms ns e = let w = walk_all ws ms e in at-pool ws ms ns (walk e) w.result.answer w.marks (w.result.count ∷ []) refl refl 1

at-audit : (ws ms ns : List ℕ) (es : List Ends) → AtPool 4 ws ms ns (audit es) (audit_entry ws es ms ns)
unfolding audit_entry
at-audit ws ms ns es =
    let a = audit_all ws es ms in
    at-pool ws ms ns (audit es) a.result.answer a.marks (a.result.list ∷ a.result.on_lists ∷ a.result.stranded ∷ 0 ∷ []) refl refl 4

pub demand-1 : Demand1
demand-1 =
    record {
      calls = all-calls;
      names = audit-names;
      lines = on-desk;
      work = at-work;
      clear = at_clear;
      lent-desk = on-lent;
      batch-desk = on-batch;
      entry = at_entry;
      walk-entry = at-walk;
      audit-entry = at-audit;
    }
