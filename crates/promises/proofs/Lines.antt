-- Each line on a desk keeps to its row. Assumes nothing.
use mathlib.Core.Path.{◌≡◌, refl, sym, ap, subst, ◌∙◌}
use mathlib.Core.Logic.{◌≢◌, inl, inr}
use mathlib.Core.Bool.{Bool, true, false, ◌&&◌, ◌||◌, not, cond}
use mathlib.Core.List.{List, [], ◌∷◌}
use Prim.Native.Nat.{ℕ, ◌<◌, ◌≤◌}
use native.Mathlib.Omega.{arith}
use lib.Dec.{eqb, ltb, leb}
use lib.ListN.{length, set}
use lib.Seq.{set-get_or}
use borrow.Author.Tests.{eqb-true, eqb-false, ltb-true, ltb-false, leb-true, le-leb}
use Rattle.std.specs.Prelude.{Err, Ok, Some, is_err, None, Option}
use Rattle.words.specs.declared.names.Node.{Node}
use Rattle.words.specs.Names.{directory_fits}
use Rattle.words.specs.Pool.{Outcome}
use Rattle.words.proofs.Laws.Cases.{both}
use Rattle.answers.specs.declared.Refusal.{Refusal}
use Rattle.answers.specs.declared.Refusal.TheVariants.{Size, NoSuchList}
use Rattle.answers.specs.Answer.{number, answer_number, Answer}
use Rattle.answers.proofs.Laws.Ladder.{not-both}
use Rattle.walk.specs.Marks.{Marking}
use Rattle.audit.specs.declared.Audited.{Audited}
use Rattle.audit.specs.Audit.{audit_all}
use Rattle.table.specs.Calls.{audit, Left}
use Rattle.table.specs.Table.{Test, FirstFailing, row}
use Rattle.table.specs.Refused.{marks_after}
use Rattle.table.proofs.Laws.All.{all-calls}
use Rattle.lines.specs.declared.line.Order.{Order}
use Rattle.lines.specs.Answers.{reply}
use Rattle.lines.specs.Lines.{uses_list, uses_other, uses_node, right_fields, tested}
use Rattle.desk.specs.declared.Row.{Row}
use Rattle.desk.specs.declared.Worked.{Worked}
use Rattle.desk.specs.Reply.{no_node, reply_to, reply_to_audit, reply_unread}
use Rattle.desk.specs.Step.{Desk, DeskStepped, fresh_row, row_at, ends_of_all, desk_limit, desk_fits, lists_there, command, put_back, audited, unread, step_tested, step}
use Rattle.promises.specs.Commands.{Command, call, command_on, command_of, command_row, command_follows}
use Rattle.promises.specs.Commands.{different, list_there, other_there, sizes_then, line_follows}
use Rattle.promises.specs.Demand1.{FirstNumber, OnDesk}
use Rattle.promises.proofs.Commands.{Kept, command-kept}

-- ---- numbers

none-refused : (a : Answer) → is_err a ≡ false → answer_number a ≡ 0
none-refused (Ok i) h = refl
none-refused (Err r) h = absurd (not-both h)

pub numbered : (ts : List Test) (a : Answer) → FirstFailing ts a → FirstNumber ts (answer_number a)
numbered [] a f = none-refused a f
numbered (t ∷ ts) a (inl w) = inl (w.0, numbered ts a w.1)
numbered (t ∷ ts) a (inr w) = inr (w.0, ap answer_number w.1)

pub refusal : (a : Answer) → answer_number a ≢ 0 → (x : Refusal) × (a ≡ Err x)
refusal (Ok i) h = absurd (h refl)
refusal (Err r) h = (r, refl)

pub kept-marks : (b : Bool) (n : ℕ) (ms : List ℕ) → eqb n 10 ≡ false → ms ≡ marks_after b n ms
kept-marks true n ms h = rw h
kept-marks false n ms h = refl

-- ---- a line that was read, against the command c

record Read (d : Desk) (ms : List ℕ) (o : Order) (c : Command) (s : Marking DeskStepped) : Type 0 where
  tests : FirstNumber (sizes_then d ms (list_there d o ∷ other_there d o ∷ different o ∷ command_row d.words ms c)) s.result.reply.number
  same : s.result.reply.number ≢ 0 → s.result.desk ≡ d
  marks : s.result.reply.number ≢ 0 → s.marks ≡ marks_after (command_follows c) s.result.reply.number ms
  none : s.result.reply.number ≢ 0 → s.result.reply.second ≡ no_node

module _ (d : Desk) (ms : List ℕ) (o : Order) where
  abbrev after : Command → List Test
  after c = different o ∷ command_row d.words ms c

  -- a line that comes to no command
  no-command : (c : Command) (x : Refusal) → eqb (number x) 10 ≡ false
      → FirstNumber (sizes_then d ms (list_there d o ∷ other_there d o ∷ after c)) (number x) → Read d ms o c (unread d ms x)
  unfolding unread reply_unread
  no-command c x h f =
      record { tests = f; same = λ z. refl; marks = λ z. kept-marks (command_follows c) (number x) ms h; none = λ z. refl }

  -- 1
  sizes-fail : (ts : List Test) → desk_fits d ms ≡ false → FirstFailing {A = Option Node} (sizes_then d ms ts) (Err Size)
  unfolding desk_fits
  sizes-fail ts =
      go (leb (length d.words) desk_limit) refl (eqb (length ms) (length d.words)) refl (directory_fits (length d.lists)) refl
    where
      go : (a : Bool) → leb (length d.words) desk_limit ≡ a → (b : Bool) → eqb (length ms) (length d.words) ≡ b
          → (c : Bool) → directory_fits (length d.lists) ≡ c → a && b && c ≡ false → FirstFailing {A = Option Node} (sizes_then d ms ts) (Err Size)
      go false p b q c r h = inr (λ k. not-both (sym (le-leb (length d.words) desk_limit k) ∙ p), refl)
      go true p false q c r h = inl (leb-true (length d.words) desk_limit p, inr (λ k. eqb-false (length ms) (length d.words) q k, refl))
      go true p true q false r h =
          inl (leb-true (length d.words) desk_limit p, inl (eqb-true (length ms) (length d.words) q, inr (λ k. not-both (sym k ∙ r), refl)))
      go true p true q true r h = absurd (not-both h)

  sizes-pass : (ts : List Test) (n : ℕ) → desk_fits d ms ≡ true → FirstNumber ts n → FirstNumber (sizes_then d ms ts) n
  unfolding desk_fits
  sizes-pass ts n h f =
      let a = leb (length d.words) desk_limit in
      let b = eqb (length ms) (length d.words) in
      let p = both (a && b) (directory_fits (length d.lists)) h in
      let q = both a b p.0 in
      inl (leb-true (length d.words) desk_limit q.0, inl (eqb-true (length ms) (length d.words) q.1, inl (p.1, f)))

  -- ---- the audit, which uses no list

  audit-number : (a : Audited) → (reply_to_audit a).number ≡ answer_number a.answer
  unfolding reply_to_audit
  audit-number a = go a.answer
    where
      go : (x : Answer) → (cond (is_err x) (reply (answer_number x) no_node no_node) (reply 0 a.on_lists a.stranded)).number ≡ answer_number x
      go (Ok i) = refl
      go (Err r) = refl

  audit-none : (a : Audited) (x : Refusal) → a.answer ≡ Err x → (reply_to_audit a).second ≡ no_node
  unfolding reply_to_audit
  audit-none a x h = rw h

  audit-read : desk_fits d ms ≡ true → o.code ≡ 20 → Read d ms o (call (audit (ends_of_all d.lists))) (audited d ms)
  unfolding audited uses_list uses_other
  audit-read f e =
      let es = ends_of_all d.lists in
      let a = audit_all d.words es ms in
      let t = all-calls d.words ms (audit es) in
      let n = audit-number a.result in
      let by : (reply_to_audit a.result).number ≢ 0 → (x : Refusal) × (a.result.answer ≡ Err x) =
      λ z. refusal a.result.answer (λ k. z (n ∙ k)) in
      let first = numbered (row d.words ms (audit es)) a.result.answer t.tests in
      record {
        tests =
            sizes-pass (list_there d o ∷ other_there d o ∷ after (call (audit es))) (reply_to_audit a.result).number f
            (inl (
              λ u. absurd (not-both (sym u ∙ ap uses_list e)),
              inl (
                λ u. absurd (not-both (sym u ∙ ap uses_other e)),
                inl (
                  λ u. absurd (not-both (sym u ∙ ap uses_other e)),
                  subst (λ (k : ℕ). FirstNumber (row d.words ms (audit es)) k) (sym n) first,
                ),
              ),
            ));
        same = λ z. refl;
        marks = λ z.
            let x = by z in
            ap (λ (l : Left). l.marks) (t.unchanged x.0 x.1)
            ∙ ap (λ (k : ℕ). marks_after true k ms) (sym (n ∙ ap answer_number x.1));
        none = λ z. let x = by z in audit-none a.result x.0 x.1;
      }

  -- ---- 2

  -- a field that is not used is 0
  unused : right_fields o ≡ true → uses_other o.code ≡ false → o.other ≡ 0
  unfolding right_fields
  unused h u =
      let n = uses_node o.code || eqb o.node 0 in
      let t = uses_other o.code || eqb o.other 0 in
      let p = (both (leb 1 o.code && leb o.code 20 && (uses_list o.code || eqb o.list 0)) t (both _ n h).0).1 in
      eqb-true o.other 0 (rw u at p)

  lists-fail : (ts : List Test) → right_fields o ≡ true → eqb o.code 20 ≡ false → lists_there d o ≡ false
      → FirstFailing {A = Option Node} (list_there d o ∷ other_there d o ∷ ts) (Err NoSuchList)
  unfolding lists_there uses_list
  lists-fail ts rf c = go (ltb o.list (length d.lists)) refl (ltb o.other (length d.lists)) refl
    where
      -- the other list is used, since no list is past the directory that is 0
      past : length d.lists ≤ o.other → o.list < length d.lists → (b : Bool) → uses_other o.code ≡ b
          → (uses_other o.code ≡ true → o.other < length d.lists) → ⊥
      past p q true u k = let z = k u in omega arith
      past p q false u k = let z = unused rf u in omega arith

      go : (a : Bool) → ltb o.list (length d.lists) ≡ a → (b : Bool) → ltb o.other (length d.lists) ≡ b → a && b ≡ false
          → FirstFailing {A = Option Node} (list_there d o ∷ other_there d o ∷ ts) (Err NoSuchList)
      go false p b q h = inr (λ k. let z = k (ap not c) in let y = ltb-false o.list (length d.lists) p in omega arith, refl)
      go true p false q h =
          inl (
            λ u. ltb-true o.list (length d.lists) p,
            inr (
              past (ltb-false o.other (length d.lists) q) (ltb-true o.list (length d.lists) p) (uses_other o.code) refl,
              refl,
            ),
          )
      go true p true q h = absurd (not-both h)

  lists-pass : (ts : List Test) (n : ℕ) → lists_there d o ≡ true → FirstNumber ts n → FirstNumber (list_there d o ∷ other_there d o ∷ ts) n
  unfolding lists_there
  lists-pass ts n h f =
      let p = both (ltb o.list (length d.lists)) (ltb o.other (length d.lists)) h in
      inl (λ u. ltb-true o.list (length d.lists) p.0, inl (λ u. ltb-true o.other (length d.lists) p.1, f))

  -- ---- a command on lists

  -- lists that are put back as they were
  put_same : ◌≡◌ {A = Desk}
      (record { words = d.words; lists = set (set d.lists o.other (row_at d o.other)) o.list (row_at d o.list) }) d
  put_same =
      ap (λ (ls : List Row). record { words = d.words; lists = set ls o.list (row_at d o.list) }) (set-get_or d.lists o.other fresh_row)
      ∙ ap {B = Desk} (λ (ls : List Row). record { words = d.words; lists = ls }) (set-get_or d.lists o.list fresh_row)

  abbrev here : Command
  here = command_on o.code (row_at d o.list) (row_at d o.other) (record { 0 = o.node })

  done-read : desk_fits d ms ≡ true → lists_there d o ≡ true
      → Read d ms o here (put_back d o (command d.words ms (row_at d o.list) (row_at d o.other) o))
  unfolding put_back reply_to
  done-read f l =
      let w = command d.words ms (row_at d o.list) (row_at d o.other) o in
      go w (command-kept d.words ms (row_at d o.list) (row_at d o.other) o)
    where
      go : (w : Outcome (Marking Worked)) → Kept d.words ms (row_at d o.list) (row_at d o.other) o w here → Read d ms o here (put_back d o w)
      go w k =
          let a = w.result.result.answer in
          record {
            tests =
                sizes-pass (list_there d o ∷ other_there d o ∷ after here) (answer_number a) f
                (lists-pass (after here) (answer_number a) l (numbered (after here) a k.tests));
            same = λ z.
                let x = refusal a z in
                ap (λ (v : Outcome (Marking Worked)). (put_back d o v).result.desk) (k.unchanged x.0 x.1) ∙ put_same;
            marks = λ z.
                let x = refusal a z in
                ap (λ (v : Outcome (Marking Worked)). v.result.marks) (k.unchanged x.0 x.1)
                ∙ ap (λ (t : Answer). marks_after (command_follows here) (answer_number t) ms) (sym x.1);
            none = λ z.
                let x = refusal a z in
                ap (λ (v : Outcome (Marking Worked)). (put_back d o v).result.reply.second) (k.unchanged x.0 x.1);
          }

  -- ---- all of it

  fields_read : right_fields o ≡ true → Read d ms o (command_of d o) (step_tested d ms (Some o))
  fields_read rf = go (desk_fits d ms) refl (eqb o.code 20) refl (lists_there d o) refl
    where
      done : Marking DeskStepped
      done = put_back d o (command d.words ms (row_at d o.list) (row_at d o.other) o)

      go : (a : Bool) → desk_fits d ms ≡ a → (b : Bool) → eqb o.code 20 ≡ b → (c : Bool) → lists_there d o ≡ c
          → Read d ms o (cond b (call (audit (ends_of_all d.lists))) here)
          (cond a (cond b (audited d ms) (cond c done (unread d ms NoSuchList))) (unread d ms Size))
      go false f b e c l =
          let it = cond b (call (audit (ends_of_all d.lists))) here in
          let ts = list_there d o ∷ other_there d o ∷ after it in
          no-command it Size refl (numbered (sizes_then d ms ts) (Err Size) (sizes-fail ts f))
      go true f true e c l = audit-read f (eqb-true o.code 20 e)
      go true f false e true l = done-read f l
      go true f false e false l =
          no-command here NoSuchList refl
          (sizes-pass (list_there d o ∷ other_there d o ∷ after here) 2 f
          (numbered (list_there d o ∷ other_there d o ∷ after here) (Err NoSuchList) (lists-fail (after here) rf e l)))

pub on-desk : (d : Desk) (ms : List ℕ) (p : Option Order) → OnDesk d ms p (step d ms p)
unfolding tested unread reply_unread
on-desk d ms None = record { tests = inr (λ x. x, refl); same = λ z. refl; marks = λ z. refl; none = λ z. refl }
on-desk d ms (Some o) = go (right_fields o) refl
  where
    go : (b : Bool) → right_fields o ≡ b → OnDesk d ms (Some o) (step_tested d ms (cond b (Some o) None))
    go true h =
        let k = fields_read d ms o h in
        record { tests = inl (h, k.tests); same = k.same; marks = k.marks; none = k.none }
    go false h =
        record {
          tests = inr (λ k. not-both (sym k ∙ h), refl);
          same = λ z. refl;
          marks = λ z. kept-marks (line_follows d (Some o)) 11 ms refl;
          none = λ z. refl;
        }
