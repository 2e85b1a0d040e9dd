-- What one command comes to, on a desk that agrees with its history: for commands that leave the words, that edit at a
-- cursor, that edit a list, and that edit two. Assumes nothing.
use mathlib.Core.Path.{◌≡◌, refl, sym, ap, ◌∙◌}
use mathlib.Core.Logic.{◌≢◌}
use mathlib.Core.Bool.{Bool, true, false}
use mathlib.Core.List.{List, [], ◌++◌}
use Prim.Native.Nat.{ℕ, ◌+◌, ◌<◌, ◌≤◌}
use native.Mathlib.Omega.{arith}
use lib.ListN.{length, get_or}
use Rattle.std.specs.Prelude.{is_err}
use Rattle.words.specs.Pool.{Outcome, outcome}
use Rattle.words.specs.Changes.{AtMostFour}
use Rattle.words.proofs.Laws.Pool.{few-none}
use Rattle.answers.specs.Answer.{Answer}
use Rattle.cursor.specs.declared.Edited.{Edited}
use Rattle.cursor.specs.declared.EditedTwo.{EditedTwo}
use Rattle.cursor.specs.Cursor.{null_cursor}
use Rattle.cursor.specs.Plain.{Place, at_null, nodes, Sound}
use Rattle.cursor.proofs.Laws.Alone.{same-alone}
use Rattle.cursor.specs.Does.{Plain, Does, linked_in}
use Rattle.splice.specs.Plain.{PlainTwo, DoesTwo}
use Rattle.splice.proofs.Laws.Refused.{UnchangedTwo}
use Rattle.ends.specs.declared.ListEdited.{ListEdited}
use Rattle.list.specs.Plain.{PlainList, DoesList}
use Rattle.list.proofs.Laws.Pushes.{sound-null}
use Rattle.list.proofs.Laws.Refused.{UnchangedList}
use Rattle.desk.specs.declared.Row.{Row}
use Rattle.desk.specs.declared.Worked.{Worked}
use Rattle.desk.specs.Work.{row, worked, with, at_cursor, on_list, on_both}
use Rattle.desk.specs.Step.{Desk, row_at}
use Rattle.history.specs.History.{History, PlainWorked, plain_worked, place_at, times, on_lists, held, at_place, on_sequence, on_two}
use Rattle.history.specs.Follows.{Agrees}
use Rattle.history.proofs.Laws.Counts.{times-append, times-off, on_one}
use Rattle.history.proofs.Laws.Counted.{Counted, same-counted}
use Rattle.history.proofs.Laws.Agrees.{counted, desk', history', held_one, held_two, one-agrees, two-agree}

-- linked marks that are the same
pub marks-counted : (n : ℕ) (H : ℕ → ℕ) (f f' : ℕ → Bool) → ((x : ℕ) → f' x ≡ f x) → Counted n H f → Counted n H f'
marks-counted n H f f' e k = record { once = k.once; ranged = k.ranged; linked = λ x r. e x ∙ k.linked x r }

module _ (n : ℕ) (d : Desk) (h : History) (g : Agrees n d h) (l m : ℕ) (a : l < length h.places) (b : m < length h.places) where
  abbrev pub named : Row
  named = row_at d l

  abbrev pub other : Row
  other = row_at d m

  abbrev pub here : Place
  here = place_at h l

  abbrev pub there : Place
  there = place_at h m

  -- the same answer, a desk that agrees, stranded words as they were, and few words changed
  pub record Comes (w : Outcome Worked) (t : PlainWorked) : Type 0 where
    pub answer : w.result.answer ≡ t.answer
    pub sound : Sound w.words w.result.named.ends w.result.named.cursor t.named
    pub agrees : Agrees n (desk' n d h g l m a b w.words w.result.named w.result.other) (history' n d h g l m a b t.named t.other t.stranded)
    pub kept : (x : ℕ) → 0 < times x t.stranded → get_or w.words x 0 ≡ get_or d.words x 0
    pub few : AtMostFour d.words w.words

  -- the history after a change of one list
  abbrev pub after_one : Place → List ℕ → ℕ → ℕ
  after_one z st = held (history' n d h g l m a b z there st)

  abbrev pub after_two : Place → Place → ℕ → ℕ
  after_two z y = held (history' n d h g l m a b z y h.stranded)

  -- what is held on the list is held
  pub list_held : (x : ℕ) → times x (nodes here) ≤ held h x
  unfolding held
  list_held x = let p : times x (nodes here) ≤ on_lists x h.places = on_one x h.places l (at_null []) a in omega arith

  pub other-held : (x : ℕ) → times x (nodes there) ≤ held h x
  unfolding held
  other-held x = let p : times x (nodes there) ≤ on_lists x h.places = on_one x h.places m (at_null []) b in omega arith

  -- a stranded node is on neither list
  pub off-here : (x : ℕ) → 0 < times x h.stranded → times x (nodes here) ≡ 0
  unfolding held
  off-here x p =
      let q : times x (nodes here) ≤ on_lists x h.places = on_one x h.places l (at_null []) a in
      let o : on_lists x h.places + times x h.stranded ≤ 1 = g.once x in
      omega arith

  off-there : (x : ℕ) → 0 < times x h.stranded → times x (nodes there) ≡ 0
  unfolding held
  off-there x p =
      let q : times x (nodes there) ≤ on_lists x h.places = on_one x h.places m (at_null []) b in
      let o : on_lists x h.places + times x h.stranded ≤ 1 = g.once x in
      omega arith

  -- the counts after a change of one list that strands nothing
  pub one-count : (z : Place) (x : ℕ) → after_one z h.stranded x + times x (nodes here) ≡ held h x + times x (nodes z)
  one-count z x =
      let k : (after_one z h.stranded x + times x (nodes here)) + times x h.stranded ≡ (held h x + times x (nodes z)) + times x h.stranded =
      held_one n d h g l m a b z h.stranded x in
      omega arith

  off-new : (z : Place) (x : ℕ) → after_one z h.stranded x ≤ 1 → 0 < times x h.stranded → times x (nodes z) ≡ 0
  unfolding held
  off-new z x o p =
      let c : after_one z h.stranded x + times x (nodes here) ≡ held h x + times x (nodes z) = one-count z x in
      let q : times x (nodes here) ≡ 0 = off-here x p in
      omega arith

  -- ---- the words stay

  pub still : (t : Answer) (r : Row) (z : Place) (st : List ℕ) → Sound d.words r.ends r.cursor z
      → ((x : ℕ) → times x (nodes z) + times x st ≡ times x (nodes here) + times x h.stranded)
      → Comes (outcome d.words (worked t r other)) (plain_worked t z there st)
  still t r z st s c =
      record {
        answer = refl;
        sound = s;
        agrees = one-agrees n d h g l m a b d.words r z st (nodes z) (same-alone d.words (nodes here) (nodes z)) s
            (same-counted n (held h) (after_one z st) (linked_in d.words) (λ x. even x (c x) (held_one n d h g l m a b z st x)) (counted n d h g));
        kept = λ x p. refl;
        few = few-none d.words;
      }
    where
      even : (x : ℕ) → times x (nodes z) + times x st ≡ times x (nodes here) + times x h.stranded
          → (after_one z st x + times x (nodes here)) + times x h.stranded ≡ (held h x + times x (nodes z)) + times x st → after_one z st x ≡ held h x
      even x p q = omega arith

  -- refused, or done with nothing to do
  pub stays : (t : Answer) → Comes (outcome d.words (worked t named other)) (plain_worked t here there h.stranded)
  stays t = still t named here h.stranded (g.sound l a) (λ x. refl)

  -- ---- an edit at the cursor

  pub at-cursor : (o : Outcome Edited) (p q : Plain) → Does d.words here o p → (p.answer ≡ q.answer) × (p.place ≡ q.place)
      → Counted n (after_one p.place h.stranded) p.linked → AtMostFour d.words o.words
      → Comes (with (λ r. at_cursor r other) o) (at_place q there h.stranded)
  unfolding at_cursor at_place
  at-cursor o p q k e c f =
      rw (← e.0, ← e.1)
      (record {
        answer = k.answer;
        sound = k.sound;
        agrees = one-agrees n d h g l m a b o.words (row o.result.ends o.result.cursor) p.place h.stranded (nodes p.place) k.alone k.sound
            (marks-counted n (after_one p.place h.stranded) p.linked (linked_in o.words) k.marks c);
        kept = λ x s. k.alone.kept x (times-off x (nodes here) (off-here x s)) (times-off x (nodes p.place) (off-new p.place x (c.once x) s));
        few = f;
      })

  -- ---- an edit of the list

  pub on-list : (o : Outcome ListEdited) (p q : PlainList) → DoesList d.words (nodes here) o p → UnchangedList d.words named.ends o
      → (p.answer ≡ q.answer) × (p.nodes ≡ q.nodes) → Counted n (after_one (at_null p.nodes) h.stranded) p.linked
      → AtMostFour d.words o.words → Comes (with (λ r. on_list r named other) o) (on_sequence q here there h.stranded)
  unfolding on_list on_sequence
  on-list o p q k u e c f = go (is_err o.result.answer) refl
    where
      same : is_err o.result.answer ≡ is_err q.answer
      same = ap is_err (k.answer ∙ e.0)

      go : (v : Bool) → is_err o.result.answer ≡ v → Comes (with (λ r. on_list r named other) o) (on_sequence q here there h.stranded)
      go true v =
          rw (u v, sym same ∙ v, v, ← e.0, ← k.answer) (stays o.result.answer)
      go false v =
          rw (v, sym same ∙ v, ← e.0, ← e.1)
          (record {
            answer = k.answer;
            sound = sound-null o.words o.result.ends p.nodes k.listing;
            agrees = one-agrees n d h g l m a b o.words (row o.result.ends (null_cursor o.result.ends)) (at_null p.nodes) h.stranded p.nodes k.alone
                (sound-null o.words o.result.ends p.nodes k.listing)
                (marks-counted n (after_one (at_null p.nodes) h.stranded) p.linked (linked_in o.words) k.marks c);
            kept = λ x s. k.alone.kept x (times-off x (nodes here) (off-here x s)) (times-off x p.nodes (off-new (at_null p.nodes) x (c.once x) s));
            few = f;
          })

  -- ---- an edit of two lists

  module _ (ne : l ≢ m) where
    two-count : (z y : Place) (x : ℕ) → times x (nodes z) + times x (nodes y) ≡ times x (nodes here) + times x (nodes there) → after_two z y x ≡ held h x
    two-count z y x c =
        let k : ((after_two z y x + times x (nodes here)) + times x (nodes there)) + times x h.stranded
        ≡ ((held h x + times x (nodes z)) + times x (nodes y)) + times x h.stranded = held_two n d h g l m a b ne z y h.stranded x in
        omega arith

    pub on-both : (o : Outcome EditedTwo) (p : PlainTwo) → DoesTwo d.words here (nodes there) o p
        → UnchangedTwo d.words named.ends named.cursor other.ends o
        → ((x : ℕ) → is_err p.answer ≡ false → times x (nodes p.place) + times x p.other ≡ times x (nodes here) + times x (nodes there))
        → (is_err p.answer ≡ true → p.place ≡ here)
        → AtMostFour d.words o.words → Comes (with (λ r. on_both r other) o) (on_two p there h.stranded)
    unfolding on_both on_two
    on-both o p k u c z f = go (is_err o.result.answer) refl
      where
        same : is_err o.result.answer ≡ is_err p.answer
        same = ap is_err k.answer

        off-two : (x : ℕ) → 0 < times x h.stranded → times x (nodes here ++ nodes there) ≡ 0
        off-two x s = rw (times-append x (nodes here) (nodes there), off-here x s, off-there x s)

        off-moved : (x : ℕ) → 0 < times x h.stranded → times x (nodes p.place) + times x p.other ≡ times x (nodes here) + times x (nodes there)
            → times x (nodes p.place ++ p.other) ≡ 0
        off-moved x s e = times-append x (nodes p.place) p.other ∙ e ∙ rw (off-here x s, off-there x s)

        go : (v : Bool) → is_err o.result.answer ≡ v → Comes (with (λ r. on_both r other) o) (on_two p there h.stranded)
        go true v =
            rw (u v, sym same ∙ v, v, z (sym same ∙ v), ← k.answer) (stays o.result.answer)
        go false v =
            let counts : (x : ℕ) → after_two p.place (at_null p.other) x ≡ held h x =
            λ x. two-count p.place (at_null p.other) x (c x (sym same ∙ v)) in
            rw (v, sym same ∙ v)
            (record {
              answer = k.answer;
              sound = k.sound;
              agrees = two-agree n d h g l m a b ne o.words (row o.result.ends o.result.cursor) (row o.result.other (null_cursor o.result.other))
                  p.place (at_null p.other) h.stranded (nodes p.place ++ p.other) k.alone k.sound
                  (sound-null o.words o.result.other p.other k.other)
                  (marks-counted n (after_two p.place (at_null p.other)) (linked_in d.words) (linked_in o.words) k.marks
                  (same-counted n (held h) (after_two p.place (at_null p.other)) (linked_in d.words) counts (counted n d h g)));
              kept = λ x s. k.alone.kept x (times-off x (nodes here ++ nodes there) (off-two x s)) (times-off x (nodes p.place ++ p.other) (off-moved x s (c x (sym same ∙ v))));
              few = f;
            })

    pub still-two : (t : Answer) (r q : Row) (z y : Place) → Sound d.words r.ends r.cursor z → Sound d.words q.ends q.cursor y
        → ((x : ℕ) → times x (nodes z) + times x (nodes y) ≡ times x (nodes here) + times x (nodes there))
        → Comes (outcome d.words (worked t r q)) (plain_worked t z y h.stranded)
    still-two t r q z y s u c =
        record {
          answer = refl;
          sound = s;
          agrees = two-agree n d h g l m a b ne d.words r q z y h.stranded (nodes z ++ nodes y)
              (same-alone d.words (nodes here ++ nodes there) (nodes z ++ nodes y)) s u
              (same-counted n (held h) (after_two z y) (linked_in d.words) (λ x. two-count z y x (c x)) (counted n d h g));
          kept = λ x p. refl;
          few = few-none d.words;
        }
