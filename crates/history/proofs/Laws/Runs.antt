-- From a fresh desk, after any lines, the desk follows its history (demand 3). Assumes nothing.
use mathlib.Core.Path.{◌≡◌, refl, sym, ap, ◌∙◌}
use mathlib.Core.Bool.{Bool, true, false, ◌&&◌, cond}
use mathlib.Core.List.{List, [], ◌∷◌}
use Prim.Native.Nat.{ℕ, zero, suc, ◌+◌, ◌≤◌}
use native.Mathlib.Omega.{arith}
use lib.Dec.{eqb, ltb}
use lib.ListN.{length, set, replicate, length-set, length-replicate, get_or-replicate}
use Rattle.std.specs.Prelude.{None, Option, Some}
use Rattle.words.specs.Names.{is_linked}
use Rattle.cursor.specs.Plain.{Place, at_null}
use Rattle.words.specs.Names.{directory_limit}
use Rattle.lines.specs.declared.line.Order.{Order}
use Rattle.lines.specs.Lines.{line_of, tested}
use Rattle.lines.specs.declared.answer.Reply.{Reply}
use Rattle.desk.specs.declared.Row.{Row}
use Rattle.desk.specs.Step.{Desk, fresh_row, fresh_desk, desk_limit, step}
use Rattle.history.specs.History.{History, PlainStepped, times, on_lists, held, is_held, start, plain_put_back, plain_step_tested, plain_step}
use Rattle.history.specs.Follows.{Agrees, Follows}
use Rattle.history.specs.Runs.{MarkedLine, AllMarked, desk_after, history_after, plain_answers, answer_all}
use Rattle.history.proofs.Laws.Commands.{empty-sound}
use Rattle.history.proofs.Laws.Steps.{step_follows}

-- ---- a fresh desk

none-held : (x k : ℕ) → on_lists x (replicate k (at_null [])) ≡ 0
unfolding on_lists times
none-held x zero = refl
none-held x (suc k) = let e : on_lists x (replicate k (at_null [])) ≡ 0 = none-held x k in omega arith

pub fresh-agrees : (n k : ℕ) → Agrees n (fresh_desk n k) (start k)
unfolding fresh_desk start held is_held times is_linked
fresh-agrees n k =
    record {
      long = length-replicate {A = ℕ} n 1;
      lists = length-replicate {A = Row} k fresh_row ∙ sym many;
      sound = λ l r.
          rw (
            get_or-replicate k l fresh_row fresh_row (rw many at r),
            get_or-replicate k l (at_null []) (at_null []) (rw many at r),
          )
          (empty-sound (replicate n 1));
      once = λ x. low (on_lists x (replicate k (at_null []))) (none-held x k);
      ranged = λ x r. nil (on_lists x (replicate k (at_null []))) (none-held x k);
      linked = λ x r. rw (get_or-replicate {A = ℕ} n x 1 0 r, none-held x k);
    }
  where
    many : length (replicate k (at_null [])) ≡ k
    many = length-replicate {A = Place} k (at_null [])

    low : (v : ℕ) → v ≡ 0 → v + 0 ≤ 1
    low v e = omega arith

    nil : (v : ℕ) → v ≡ 0 → v + 0 ≡ 0
    nil v e = omega arith

-- ---- as many lists as before

either : (c : Bool) (t t' : PlainStepped) (v : ℕ) → length t.history.places ≡ v → length t'.history.places ≡ v → length (cond c t t').history.places ≡ v
either true t t' v p q = p
either false t t' v p q = q

tested-lists : (n : ℕ) (h : History) (p : Option Order) → length (plain_step_tested n h p).history.places ≡ length h.places
unfolding plain_put_back
tested-lists n h None = refl
tested-lists n h (Some o) =
    either (eqb o.code 20) _ _ (length h.places) refl
    (either (ltb o.list (length h.places) && ltb o.other (length h.places)) _ _ (length h.places)
    (length-set (set h.places o.other _) o.list _ ∙ length-set h.places o.other _) refl)

pub step-lists : (n : ℕ) (h : History) (p : Option Order) → length (plain_step n h p).history.places ≡ length h.places
step-lists n h p = tested-lists n h (tested p)

-- ---- after any lines

module _ (n : ℕ) (small : n ≤ desk_limit) where
  pub after-agrees : (gs : List MarkedLine) (d : Desk) (h : History) → length h.places ≤ directory_limit → AllMarked n gs → Agrees n d h
      → Agrees n (desk_after d gs) (history_after n h gs) × (length (history_after n h gs).places ≡ length h.places)
  unfolding desk_after history_after
  after-agrees [] d h few m g = (g, refl)
  after-agrees (v ∷ gs) d h few m g =
      let s = step_follows n d v.marks h g small few m.0 (line_of v.line) in
      let e = step-lists n h (line_of v.line) in
      let k = after-agrees gs _ (plain_step n h (line_of v.line)).history (rw e few) m.1 s.agrees in
      (k.0, k.1 ∙ e)

  -- demand 3: from a fresh desk, after any lines, each line is followed
  pub each_line : (k : ℕ) → k ≤ directory_limit → (gs : List MarkedLine) → AllMarked n gs → (v : MarkedLine) → length v.marks ≡ n
      → Follows n (desk_after (fresh_desk n k) gs) (line_of v.line) (step (desk_after (fresh_desk n k) gs) v.marks (line_of v.line)).result
      (plain_step n (history_after n (start k) gs) (line_of v.line))
  unfolding start
  each_line k few gs m v mv =
      let s = after-agrees gs (fresh_desk n k) (start k) (rw (length-replicate {A = Place} k (at_null [])) few) m (fresh-agrees n k) in
      step_follows n _ v.marks _ s.0 small (rw (s.1, length-replicate {A = Place} k (at_null [])) few) mv (line_of v.line)

  -- the answers are the history's
  answers-from : (ms : List ℕ) → length ms ≡ n → (ps : List (Option Order)) (d : Desk) (h : History) → length h.places ≤ directory_limit → Agrees n d h
      → answer_all d ms ps ≡ plain_answers n h ps
  unfolding answer_all plain_answers
  answers-from ms long [] d h few g = refl
  answers-from ms long (p ∷ ps) d h few g =
      let s = step_follows n d ms h g small few long p in
      let e = step-lists n h p in
      ap (λ (r : Reply). r ∷ answer_all (step d ms p).result.desk ms ps) s.reply
      ∙ ap (λ (rs : List Reply). (plain_step n h p).reply ∷ rs) (answers-from ms long ps _ (plain_step n h p).history (rw e few) s.agrees)

  pub answers-are : (k : ℕ) → k ≤ directory_limit → (ms : List ℕ) → length ms ≡ n → (ps : List (Option Order)) → answer_all (fresh_desk n k) ms ps ≡ plain_answers n (start k) ps
  unfolding start
  answers-are k few ms long ps =
      answers-from ms long ps (fresh_desk n k) (start k) (rw (length-replicate {A = Place} k (at_null [])) few) (fresh-agrees n k)
