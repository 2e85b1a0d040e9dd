-- One line, on a desk that agrees with its history: the desk follows it. Assumes nothing.
use mathlib.Core.Path.{◌≡◌, refl, sym, ap, ◌∙◌}
use mathlib.Core.Bool.{Bool, true, false, ◌&&◌, cond}
use mathlib.Core.List.{List, [], ◌∷◌}
use Prim.Native.Nat.{ℕ, ◌<◌, ◌≤◌}
use native.Mathlib.Omega.{arith}
use lib.Dec.{eqb, ltb}
use lib.ListN.{length, get_or}
use borrow.Author.Tests.{ltb-true, le-leb, eqb-true, eq-eqb}
use Rattle.std.specs.Prelude.{Err, None, Option, Some}
use Rattle.words.specs.declared.names.Node.{Node}
use Rattle.words.specs.Names.{pool_fits, directory_limit, directory_fits, decoding}
use Rattle.words.specs.Pool.{Outcome, outcome}
use Rattle.words.specs.Changes.{AtMostFour}
use Rattle.words.proofs.Laws.Cases.{both}
use Rattle.words.proofs.Laws.Names.{name-is, node-name, null-is-none}
use Rattle.words.proofs.Laws.Nodes.{all_right}
use Rattle.words.proofs.Laws.Pool.{few-none}
use Rattle.answers.specs.declared.Refusal.TheVariants.{NoSuchList, SameList, Malformed}
use Rattle.answers.specs.Answer.{answer_number, handed, done}
use Rattle.ends.specs.declared.Ends.{Ends}
use Rattle.ends.specs.Ends.{empty_ends}
use Rattle.answers.proofs.Laws.Ladder.{not-both}
use Rattle.cursor.specs.declared.Cursor.{Cursor}
use Rattle.cursor.specs.Cursor.{null_cursor}
use Rattle.cursor.specs.Plain.{Place, at, at_null, Sound}
use Rattle.walk.specs.Marks.{Marking, marking}
use Rattle.lines.specs.declared.line.Order.{Order}
use Rattle.lines.specs.Lines.{right_fields, same_list}
use Rattle.lines.proofs.Laws.Tested.{tested-right, tested-wrong, tested-malformed}
use Rattle.lines.specs.declared.answer.Reply.{Reply}
use Rattle.desk.specs.declared.Row.{Row}
use Rattle.desk.specs.declared.Worked.{Worked}
use Rattle.desk.specs.Work.{row, worked, by_code, on_rows, clearing}
use Rattle.lines.specs.Answers.{reply}
use Rattle.desk.specs.Reply.{shown, reply_to, reply_unread}
use Rattle.desk.specs.Step.{Desk, DeskStepped, desk_stepped, row_at, desk_limit, desk_fits, lists_there, command, put_back, audited, unread, step_tested, step}
use Rattle.desk.proofs.Laws.Limit.{desk-in-pool}
use Rattle.history.specs.History.{History, PlainWorked, PlainStepped, plain_worked, plain_stepped, place_at, times, size, under, plain_reply_to, plain_by_code, plain_command, plain_put_back, plain_step_tested, plain_step}
use Rattle.history.specs.Follows.{Agrees, Follows, is_clear, is_reversal}
use Rattle.history.proofs.Laws.Agrees.{desk', history'}
use Rattle.history.proofs.Laws.Comes.{Comes, stays}
use Rattle.history.proofs.Laws.Commands.{empty-sound}
use Rattle.history.proofs.Laws.Pairs.{by-code}
use Rattle.history.proofs.Laws.Clears.{cleared, clear-is, clear-agrees, clear_kept}
use Rattle.history.proofs.Laws.Audits.{audit-replies, words-afresh}

-- the node of a place is the node under its true cursor
under-is : (ws : List ℕ) (e : Ends) (c : Cursor) (z : Place) → Sound ws e c z → shown (decoding (length ws) c.current) ≡ under z
unfolding decoding
under-is ws e c (at L x R) s =
    let r : x < length ws = (all_right (λ y. y < length ws) L (x ∷ R) s.listing.ranged).0 in
    rw (s.place.0, name-is (length ws) x r, node-name x)
under-is ws e c (at_null xs) s = rw (s.place.0, null-is-none (length ws))

module _ (n : ℕ) (d : Desk) (ms : List ℕ) (h : History) (g : Agrees n d h) (small : n ≤ desk_limit) (few : length h.places ≤ directory_limit) (long : length ms ≡ n) where
  f : pool_fits n ≡ true
  f = desk-in-pool n small

  -- a line that changes nothing
  quiet : (p : Option Order) (r : Reply) → Follows n d p (desk_stepped d r) (plain_stepped h r)
  quiet p r =
      record {
        agrees = g;
        reply = refl;
        afresh = words-afresh n d h g d.words g.long (λ x s. refl);
        few = λ e. few-none d.words;
        none = λ e. refl;
      }

  quiet-as : (p : Option Order) (r r' : Reply) → r ≡ r' → Follows n d p (desk_stepped d r) (plain_stepped h r')
  quiet-as p r r' e = rw e (quiet p r')

  -- ---- a command on lists

  module _ (o : Order) (a : o.list < length h.places) (b : o.other < length h.places) where
    -- what a command comes to goes back to the desk
    back : (w : Outcome Worked) (t : PlainWorked)
        → w.result.answer ≡ t.answer
        → Sound w.words w.result.named.ends w.result.named.cursor t.named
        → Agrees n (desk' n d h g o.list o.other a b w.words w.result.named w.result.other)
        (history' n d h g o.list o.other a b t.named t.other t.stranded)
        → ((x : ℕ) → 0 < times x t.stranded → get_or w.words x 0 ≡ get_or d.words x 0)
        → (is_clear (Some o) ≡ false → AtMostFour d.words w.words)
        → (is_reversal (Some o) ≡ true → w.words ≡ d.words)
        → (marks : List ℕ) → Follows n d (Some o) (put_back d o (outcome w.words (marking marks w.result))).result (plain_put_back h o t)
    unfolding put_back plain_put_back reply_to plain_reply_to
    back w t ans s k kept fw turned marks =
        record {
          agrees = k;
          reply = rw ans (ap (λ (v : ℕ). reply (answer_number t.answer) v (shown (handed t.answer))) seen);
          afresh = words-afresh n _ _ k d.words g.long kept;
          few = fw;
          none = turned;
        }
      where
        seen : shown (decoding (length d.words) w.result.named.cursor.current) ≡ under t.named
        seen = rw (g.long ∙ sym k.long) (under-is w.words w.result.named.ends w.result.named.cursor t.named s)

    comes : (w : Outcome Worked) (t : PlainWorked) → Comes n d h g o.list o.other a b w t → (is_reversal (Some o) ≡ true → w.words ≡ d.words)
        → Follows n d (Some o) (put_back d o (outcome w.words (marking ms w.result))).result (plain_put_back h o t)
    comes w t k turned = back w t k.answer k.sound k.agrees k.kept (λ e. k.few) turned ms

    -- clear
    clears : eqb o.code 13 ≡ true
        → Follows n d (Some o) (put_back d o (clearing d.words ms (row_at d o.list) (row_at d o.other))).result
        (plain_put_back h o (plain_worked done (at_null []) (place_at h o.other) h.stranded))
    clears e =
        rw (clear-is n d h g f o.list o.other a b ms long)
        (back (outcome (cleared n d h g f o.list o.other a b) (worked done (row empty_ends (null_cursor empty_ends)) (row_at d o.other)))
        (plain_worked done (at_null []) (place_at h o.other) h.stranded)
        refl (empty-sound (cleared n d h g f o.list o.other a b)) (clear-agrees n d h g f o.list o.other a b) (clear_kept n d h g f o.list o.other a b)
        (λ c. absurd (not-both (sym e ∙ c)))
        (λ c. absurd (two-codes (eqb-true o.code 13 e) (eqb-true o.code 11 c)))
        _)
      where
        two-codes : o.code ≡ 13 → o.code ≡ 11 → ⊥
        two-codes p q = omega arith

    -- the others: a reversal changes no word
    turned-words : (r q : Row) (i : Node) → eqb o.code 11 ≡ true → (by_code o.code d.words r q i).words ≡ d.words
    unfolding by_code
    turned-words r q i e = rw (eqb-true o.code 11 e)

    works : Follows n d (Some o)
        (put_back d o (let w = on_rows d.words (row_at d o.list) (row_at d o.other) o in outcome w.words (marking ms w.result))).result
        (plain_put_back h o (cond (same_list o) (plain_worked (Err SameList) (place_at h o.list) (place_at h o.other) h.stranded)
        (plain_by_code o.code n h (place_at h o.list) (place_at h o.other) o.node)))
    unfolding on_rows
    works = go (same_list o) refl
      where
        i : Node
        i = record { 0 = o.node }

        go : (v : Bool) → same_list o ≡ v → Follows n d (Some o)
            (put_back d o (let w = on_rows d.words (row_at d o.list) (row_at d o.other) o in outcome w.words (marking ms w.result))).result
            (plain_put_back h o (cond (same_list o) (plain_worked (Err SameList) (place_at h o.list) (place_at h o.other) h.stranded)
            (plain_by_code o.code n h (place_at h o.list) (place_at h o.other) o.node)))
        go true e =
            rw e
            (comes (outcome d.words (worked (Err SameList) (row_at d o.list) (row_at d o.other))) _ (stays n d h g o.list o.other a b (Err SameList)) (λ c. refl))
        go false e =
            rw e
            (comes (by_code o.code d.words (row_at d o.list) (row_at d o.other) i) _
            (by-code n d h g f o.list o.other a b o.code i
            (λ u q. not-both (sym (rw (u, eq-eqb o.list o.other q)) ∙ e)))
            (turned-words (row_at d o.list) (row_at d o.other) i))

    commands : Follows n d (Some o) (put_back d o (command d.words ms (row_at d o.list) (row_at d o.other) o)).result
        (plain_put_back h o (plain_command n h o (place_at h o.list) (place_at h o.other)))
    unfolding command plain_command
    commands = go (eqb o.code 13) refl
      where
        go : (v : Bool) → eqb o.code 13 ≡ v
            → Follows n d (Some o) (put_back d o (command d.words ms (row_at d o.list) (row_at d o.other) o)).result
            (plain_put_back h o (plain_command n h o (place_at h o.list) (place_at h o.other)))
        go true e = rw e (clears e)
        go false e = rw e works

  -- ---- the line

  fits : desk_fits d ms ≡ true
  unfolding desk_fits directory_fits
  fits =
      rw (
        le-leb (length d.words) desk_limit (rw g.long small),
        eq-eqb (length ms) (length d.words) (long ∙ sym g.long),
        le-leb (length d.lists) directory_limit (rw g.lists few),
      )

  audits : (p : Option Order) → Follows n d p (audited d ms).result (plain_stepped h (reply 0 (size h.places) (length h.stranded)))
  unfolding audited
  audits p = quiet-as p _ _ (audit-replies n d h g ms f few long)

  there : (o : Order) → lists_there d o ≡ (ltb o.list (length h.places) && ltb o.other (length h.places))
  unfolding lists_there
  there o = rw g.lists

  pick : (p : Option Order) (c : Bool) (x x' : Marking DeskStepped) (t t' : PlainStepped) → (c ≡ true → Follows n d p x.result t) → (c ≡ false → Follows n d p x'.result t')
      → Follows n d p (cond c x x').result (cond c t t')
  pick p true x x' t t' u v = u refl
  pick p false x x' t t' u v = v refl

  -- once it was tested for 11
  right-follows : (p : Option Order) → Follows n d p (step_tested d ms p).result (plain_step_tested n h p)
  unfolding unread
  right-follows None = quiet None (reply_unread Malformed)
  right-follows (Some o) =
      rw (fits, there o)
      (pick (Some o) (eqb o.code 20) _ _ _ _ (λ e. audits (Some o))
      (λ e1. pick (Some o) (ltb o.list (length h.places) && ltb o.other (length h.places)) _ _ _ _
      (λ e. let k = both (ltb o.list (length h.places)) (ltb o.other (length h.places)) e in
      commands o (ltb-true o.list (length h.places) k.0) (ltb-true o.other (length h.places) k.1))
      (λ e. quiet (Some o) (reply_unread NoSuchList))))

  pub step_follows : (p : Option Order) → Follows n d p (step d ms p).result (plain_step n h p)
  unfolding unread
  step_follows None = rw tested-malformed (quiet None (reply_unread Malformed))
  step_follows (Some o) = go (right_fields o) refl
    where
      go : (t : Bool) → right_fields o ≡ t → Follows n d (Some o) (step d ms (Some o)).result (plain_step n h (Some o))
      go true e = rw (tested-right o e) (right-follows (Some o))
      go false e = rw (tested-wrong o e) (quiet (Some o) (reply_unread Malformed))
