-- Each command of a desk keeps to the row of the call that it stands for. Assumes nothing.
use mathlib.Core.Path.{◌≡◌, refl, sym, ap, subst, ◌∙◌}
use mathlib.Core.Logic.{◌≢◌, inl, inr}
use mathlib.Core.Bool.{Bool, true, false, ◌&&◌, not, cond}
use mathlib.Core.List.{List, [], ◌∷◌}
use Prim.Native.Nat.{ℕ}
use lib.Dec.{eqb}
use lib.ListN.{length}
use borrow.Author.Tests.{eqb-true, eqb-false, eq-eqb, ne_eqb, not-true}
use Rattle.std.specs.Prelude.{Ok, Err, is_err}
use Rattle.words.specs.declared.names.Node.{Node}
use Rattle.words.specs.Names.{pool_fits}
use Rattle.words.specs.Pool.{Outcome, outcome}
use Rattle.words.proofs.Laws.Cases.{both}
use Rattle.answers.specs.declared.Refusal.{Refusal}
use Rattle.answers.specs.declared.Refusal.TheVariants.{Size, SameList, Malformed}
use Rattle.answers.specs.Answer.{number, Answer, done, Tested, if_refused}
use Rattle.answers.proofs.Laws.Ladder.{not-both}
use Rattle.ends.specs.declared.Ends.{Ends}
use Rattle.ends.specs.Ends.{empty_ends}
use Rattle.ends.specs.Tests.{ends_test}
use Rattle.walk.specs.Marks.{Marking, marking}
use Rattle.table.specs.Calls.{move-next, move-prev, remove, insert-after, insert-before, replace}
use Rattle.table.specs.Calls.{splice-after, splice-before, split-after, split-before}
use Rattle.table.specs.Calls.{push-front, push-back, pop-front, pop-back, fast-clear, reversal}
use Rattle.table.specs.Calls.{AtCursor, AtBoth, OnList, Call, at-cursor, at-both, on-list, take, clear}
use Rattle.table.specs.Calls.{Back, cursor-back, both-back, list_back, lists_back, iter-back, nothing-back, Left, calls}
use Rattle.table.specs.Table.{FirstFailing, pool, ends}
use Rattle.table.specs.Refused.{follows_chain, marks_after, refused}
use Rattle.table.proofs.Laws.Ladder.{made}
use Rattle.table.proofs.Laws.Tests.{ends-first}
use Rattle.table.proofs.Laws.All.{all-calls}
use Rattle.lines.specs.declared.line.Order.{Order}
use Rattle.lines.specs.Lines.{uses_other, same_list, right_fields}
use Rattle.desk.specs.declared.Row.{Row}
use Rattle.desk.specs.declared.Worked.{Worked}
use Rattle.desk.specs.Work.{row, worked, nulled, at_cursor, on_list, on_both, taking, to_null, by_code, on_rows, is_work, work_of, clearing}
use Rattle.desk.specs.Step.{fresh_row, command}
use Rattle.promises.specs.Commands.{Command, call, to-null, unknown, command_on, command_row, command_follows, different, work_row}
use Rattle.promises.specs.Demand1.{AtWork, AtClear}

-- ---- a command that follows no chain, and what it stands for

record Good (ws ms : List ℕ) (r q : Row) (w : Outcome Worked) (c : Command) : Type 0 where
  tests : FirstFailing (command_row ws ms c) w.result.answer
  unchanged : (x : Refusal) → w.result.answer ≡ Err x → w ≡ outcome ws (worked (Err x) r q)
  quiet : command_follows c ≡ false

-- what a call hands back, as the lists of a desk
abbrev row_back : Back → Row
row_back (cursor-back e c) = row e c
row_back (both-back e c o) = row e c
row_back (list_back e) = fresh_row
row_back (lists_back e o) = fresh_row
row_back (iter-back it) = fresh_row
row_back nothing-back = fresh_row

abbrev ends_back : Back → Ends
ends_back (cursor-back e c) = e
ends_back (both-back e c o) = e
ends_back (list_back e) = e
ends_back (lists_back e o) = e
ends_back (iter-back it) = empty_ends
ends_back nothing-back = empty_ends

abbrev other_back : Back → Ends
other_back (cursor-back e c) = empty_ends
other_back (both-back e c o) = o
other_back (list_back e) = empty_ends
other_back (lists_back e o) = o
other_back (iter-back it) = empty_ends
other_back nothing-back = empty_ends

abbrev cursor_left : Row → Left → Outcome Worked
cursor_left q l = outcome l.words (worked l.answer (row_back l.back) q)

abbrev both_left : Row → Left → Outcome Worked
both_left q l = outcome l.words (worked l.answer (row_back l.back) (nulled l.answer q (other_back l.back)))

abbrev list_left : Row → Row → Left → Outcome Worked
list_left r q l = outcome l.words (worked l.answer (nulled l.answer r (ends_back l.back)) q)

abbrev take_left : Row → Row → Left → Outcome Worked
take_left r q l =
    outcome l.words (worked l.answer (nulled l.answer r (ends_back l.back)) (nulled l.answer q (other_back l.back)))

-- a call, as the outcome of its command
by_call : (ws ms : List ℕ) (r q : Row) (c : Call) (f : Left → Outcome Worked) → ((l : Left) → (f l).result.answer ≡ l.answer)
    → ((x : Refusal) → f (refused ws ms c x) ≡ outcome ws (worked (Err x) r q)) → follows_chain c ≡ false
    → Good ws ms r q (f (calls ws ms c)) (call c)
by_call ws ms r q c f a g k =
    let t = all-calls ws ms c in
    let e = a (calls ws ms c) in
    record {
      tests = subst (λ (x : Answer). FirstFailing (command_row ws ms (call c)) x) (sym e) t.tests;
      unchanged = λ x h. ap f (t.unchanged x (sym e ∙ h)) ∙ g x;
      quiet = k;
    }

-- one of two commands
pick : {ws ms : List ℕ} {r q : Row} {x y : Outcome Worked} {c d : Command} (b : Bool) → Good ws ms r q x c → Good ws ms r q y d
    → Good ws ms r q (cond b x y) (cond b c d)
pick true g h = g
pick false g h = h

skip : {ws ms : List ℕ} {r q : Row} {x : Outcome Worked} {d : Command} (b : Bool) (c : Command) → b ≡ false → Good ws ms r q x d
    → Good ws ms r q x (cond b c d)
skip true c e g = absurd (not-both e)
skip false c e g = g

module _ (ws ms : List ℕ) (r q : Row) (i : Node) where
  at : (k : AtCursor) → Good ws ms r q (cursor_left q (calls ws ms (at-cursor k r.ends r.cursor))) (call (at-cursor k r.ends r.cursor))
  at k = by_call ws ms r q (at-cursor k r.ends r.cursor) (cursor_left q) (λ l. refl) (λ x. refl) refl

  two : (k : AtBoth)
      → Good ws ms r q (both_left q (calls ws ms (at-both k r.ends r.cursor q.ends))) (call (at-both k r.ends r.cursor q.ends))
  two k = by_call ws ms r q (at-both k r.ends r.cursor q.ends) (both_left q) (λ l. refl) (λ x. refl) refl

  on : (k : OnList) → Good ws ms r q (list_left r q (calls ws ms (on-list k r.ends))) (call (on-list k r.ends))
  on k = by_call ws ms r q (on-list k r.ends) (list_left r q) (λ l. refl) (λ x. refl) refl

  takes : Good ws ms r q (take_left r q (calls ws ms (take r.ends q.ends))) (call (take r.ends q.ends))
  takes = by_call ws ms r q (take r.ends q.ends) (take_left r q) (λ l. refl) (λ x. refl) refl

  nulls : Good ws ms r q (outcome ws (to_null ws r q)) (to-null r.ends)
  unfolding to_null
  nulls =
      record {
        tests =
            made {A = Worked} (λ w. w.answer) (pool ws ∷ ends ws r.ends ∷ []) (ends_test ws r.ends) (λ x. worked (Err x) r q)
            (worked done (nulled done r r.ends) q) (λ x. refl) refl (ends-first ws r.ends);
        unchanged = go (ends_test ws r.ends);
        quiet = refl;
      }
    where
      go : (t : Tested) (x : Refusal) → (if_refused t (λ y. worked (Err y) r q) (worked done (nulled done r r.ends) q)).answer ≡ Err x
          → outcome ws (if_refused t (λ y. worked (Err y) r q) (worked done (nulled done r r.ends) q)) ≡ outcome ws (worked (Err x) r q)
      go (Err y) x h = ap (λ (a : Answer). outcome ws (worked a r q)) h
      go (Ok u) x h = absurd (not-both (sym (ap is_err h)))

  none : Good ws ms r q (outcome ws (worked (Err Malformed) r q)) unknown
  none = record { tests = inr (λ x. x, refl); unchanged = λ x h. ap (λ (a : Answer). outcome ws (worked a r q)) h; quiet = refl }

  by-code : (code : ℕ) → eqb code 13 ≡ false → Good ws ms r q (by_code code ws r q i) (command_on code r q i)
  unfolding by_code at_cursor on_list on_both taking
  by-code code h =
      pick (eqb code 1) (at (insert-after i))
      (pick (eqb code 2) (at (insert-before i))
      (pick (eqb code 3) (at remove)
      (pick (eqb code 4) (at (replace i))
      (pick (eqb code 5) (two splice-after)
      (pick (eqb code 6) (two splice-before)
      (pick (eqb code 7) (two split-after)
      (pick (eqb code 8) (two split-before)
      (pick (eqb code 9) (at move-next)
      (pick (eqb code 10) (at move-prev)
      (pick (eqb code 11) (on reversal)
      (pick (eqb code 12) takes
      (skip (eqb code 13) (call (clear r.ends)) h
      (pick (eqb code 14) (on fast-clear)
      (pick (eqb code 15) nulls
      (pick (eqb code 16) (on (push-front i))
      (pick (eqb code 17) (on (push-back i))
      (pick (eqb code 18) (on pop-front)
      (pick (eqb code 19) (on pop-back)
      none))))))))))))))))))

-- ---- 3, and then the command

-- two lists that are the same, and that are not
same-fails : (o : Order) → same_list o ≡ true → (uses_other o.code ≡ true → o.list ≢ o.other) → ⊥
same-fails o h k = let p = both (uses_other o.code) (eqb o.list o.other) h in k p.0 (eqb-true o.list o.other p.1)

differ : (o : Order) → same_list o ≡ false → uses_other o.code ≡ true → o.list ≢ o.other
differ o h u e = not-both (sym (rw (u, eq-eqb o.list o.other e)) ∙ h)

module _ (ws ms : List ℕ) (r q : Row) (o : Order) (h : eqb o.code 13 ≡ false) where
  abbrev it : Command
  it = command_on o.code r q (record { 0 = o.node })

  rows-first : FirstFailing (different o ∷ command_row ws ms it) (on_rows ws r q o).result.answer
  unfolding on_rows
  rows-first = go (same_list o) refl
    where
      go : (b : Bool) → same_list o ≡ b
          → FirstFailing (different o ∷ command_row ws ms it)
          (cond b (outcome ws (worked (Err SameList) r q)) (by_code o.code ws r q (record { 0 = o.node }))).result.answer
      go true s = inr (same-fails o s, refl)
      go false s = inl (differ o s, (by-code ws ms r q (record { 0 = o.node }) o.code h).tests)

  rows-unchanged : (x : Refusal) → (on_rows ws r q o).result.answer ≡ Err x → on_rows ws r q o ≡ outcome ws (worked (Err x) r q)
  unfolding on_rows
  rows-unchanged = go (same_list o)
    where
      go : (b : Bool) (x : Refusal)
          → (cond b (outcome ws (worked (Err SameList) r q)) (by_code o.code ws r q (record { 0 = o.node }))).result.answer ≡ Err x
          → cond b (outcome ws (worked (Err SameList) r q)) (by_code o.code ws r q (record { 0 = o.node })) ≡ outcome ws (worked (Err x) r q)
      go true x e = ap (λ (a : Answer). outcome ws (worked a r q)) e
      go false x e = (by-code ws ms r q (record { 0 = o.node }) o.code h).unchanged x e

  rows-quiet : command_follows it ≡ false
  rows-quiet = (by-code ws ms r q (record { 0 = o.node }) o.code h).quiet

-- ---- work

module _ (ws : List ℕ) (r q : Row) (o : Order) where
  abbrev Fields : Type 0
  Fields = (right_fields o ≡ true) × (o.code ≢ 13) × (o.code ≢ 20)

  fields : is_work o ≡ true → Fields
  unfolding is_work
  fields h =
      let a = both (right_fields o && not (eqb o.code 13)) (not (eqb o.code 20)) h in
      let b = both (right_fields o) (not (eqb o.code 13)) a.0 in
      (b.0, eqb-false o.code 13 (not-true (eqb o.code 13) b.1), eqb-false o.code 20 (not-true (eqb o.code 20) a.1))

  is-work : Fields → is_work o ≡ true
  unfolding is_work
  is-work h = rw (h.0, ne_eqb o.code 13 h.1, ne_eqb o.code 20 h.2)

  abbrev worked-by : Bool → Bool → Outcome Worked
  worked-by a b = cond a (cond b (on_rows ws r q o) (outcome ws (worked (Err Size) r q))) (outcome ws (worked (Err Malformed) r q))

  work-first : (a : Bool) → is_work o ≡ a → (b : Bool) → pool_fits (length ws) ≡ b → FirstFailing (work_row ws r q o) (worked-by a b).result.answer
  work-first false p b f = inr (λ k. not-both (sym (is-work k) ∙ p), refl)
  work-first true p false f = inl (fields p, inr (λ k. not-both (sym k ∙ f), refl))
  work-first true p true f = inl (fields p, inl (f, rows-first ws [] r q o (ne_eqb o.code 13 (fields p).1)))

  work-unchanged : (a : Bool) → is_work o ≡ a → (b : Bool) (x : Refusal) → (worked-by a b).result.answer ≡ Err x
      → worked-by a b ≡ outcome ws (worked (Err x) r q)
  work-unchanged false p b x e = ap (λ (t : Answer). outcome ws (worked t r q)) e
  work-unchanged true p false x e = ap (λ (t : Answer). outcome ws (worked t r q)) e
  work-unchanged true p true x e = rows-unchanged ws [] r q o (ne_eqb o.code 13 (fields p).1) x e

  pub at-work : AtWork ws r q o
  unfolding work_of
  at-work =
      record {
        tests = work-first (is_work o) refl (pool_fits (length ws)) refl;
        unchanged = work-unchanged (is_work o) refl (pool_fits (length ws));
      }

-- ---- a command on a desk, with its marks

pub record Kept (ws ms : List ℕ) (r q : Row) (o : Order) (w : Outcome (Marking Worked)) (c : Command) : Type 0 where
  pub tests : FirstFailing (different o ∷ command_row ws ms c) w.result.result.answer
  pub unchanged : (x : Refusal) → w.result.result.answer ≡ Err x
      → w ≡ outcome ws (marking (marks_after (command_follows c) (number x) ms) (worked (Err x) r q))

module _ (ws ms : List ℕ) (r q : Row) where
  abbrev clear_left : Left → Outcome (Marking Worked)
  clear_left l = outcome l.words (marking l.marks (worked l.answer (nulled l.answer r (ends_back l.back)) q))

  pub at_clear : AtClear ws ms r q
  unfolding clearing
  at_clear = let t = all-calls ws ms (clear r.ends) in record { tests = t.tests; unchanged = λ x e. ap clear_left (t.unchanged x e) }

module _ (ws ms : List ℕ) (r q : Row) (o : Order) where
  -- clear uses no other list
  clear_kept : o.code ≡ 13 → Kept ws ms r q o (clearing ws ms r q) (call (clear r.ends))
  unfolding uses_other
  clear_kept h =
      let t = at_clear ws ms r q in
      record {
        tests = inl (λ u. absurd (not-both (sym u ∙ ap uses_other h)), t.tests);
        unchanged = t.unchanged;
      }

  rows-kept : eqb o.code 13 ≡ false
      → Kept ws ms r q o (outcome (on_rows ws r q o).words (marking ms (on_rows ws r q o).result)) (command_on o.code r q (record { 0 = o.node }))
  rows-kept h =
      record {
        tests = rows-first ws ms r q o h;
        unchanged = λ x e.
            ap (λ (w : Outcome Worked). outcome w.words (marking ms w.result)) (rows-unchanged ws ms r q o h x e)
            ∙ ap (λ (b : Bool). outcome ws (marking (marks_after b (number x) ms) (worked (Err x) r q))) (sym (rows-quiet ws ms r q o h));
      }

  pub command-kept : Kept ws ms r q o (command ws ms r q o) (command_on o.code r q (record { 0 = o.node }))
  unfolding command
  command-kept = go (eqb o.code 13) refl
    where
      go : (b : Bool) → eqb o.code 13 ≡ b
          → Kept ws ms r q o (cond b (clearing ws ms r q) (outcome (on_rows ws r q o).words (marking ms (on_rows ws r q o).result)))
          (command_on o.code r q (record { 0 = o.node }))
      go true h =
          let e : o.code ≡ 13 = eqb-true o.code 13 h in
          subst (λ (k : ℕ). Kept ws ms r q o (clearing ws ms r q) (command_on k r q (record { 0 = o.node }))) (sym e) (clear_kept e)
      go false h = rows-kept h
