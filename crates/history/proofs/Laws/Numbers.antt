-- No line is answered 1, 4, 5, 10 or 12 by the history. Assumes nothing.
use mathlib.Core.Path.{◌≡◌, refl}
use mathlib.Core.Bool.{Bool, true, false, ◌&&◌, cond}
use mathlib.Core.List.{List, [], ◌∷◌}
use Prim.Native.Nat.{ℕ}
use lib.Dec.{eqb, ltb}
use lib.ListN.{length}
use Rattle.std.specs.Prelude.{Err, None, Option, Some}
use Rattle.answers.specs.declared.Refusal.TheVariants.{NoSuchNode, AtNull}
use Rattle.answers.specs.Answer.{answer_number, need, Answer}
use Rattle.cursor.specs.Plain.{Place, at, at_null, nodes, next_place, prev_place}
use Rattle.insert.specs.Plain.{plain_insert_after, plain_insert_before}
use Rattle.remove.specs.Plain.{plain_remove, plain_replace}
use Rattle.splice.specs.Plain.{plain_splice_after, plain_splice_before}
use Rattle.split.specs.Plain.{plain_split_after, plain_split_before}
use Rattle.lines.specs.declared.line.Order.{Order}
use Rattle.lines.specs.Lines.{same_list, tested}
use Rattle.desk.specs.Reply.{reply_unread}
use Rattle.history.specs.History.{History, PlainWorked, PlainStepped, is_none, is_held, place_at, at_place, on_sequence, on_two, plain_take, plain_by_code, plain_command, plain_reply_to, plain_put_back, plain_step_tested, plain_step}
use Rattle.history.specs.Runs.{never_answered}

-- an answer with another number
abbrev Own : Answer → Type 0
Own a = never_answered (answer_number a) ≡ false

own-insert-after : (n : ℕ) (f : ℕ → Bool) (i : ℕ) (z : Place) → Own (plain_insert_after n f i z).answer
unfolding never_answered plain_insert_after
own-insert-after n f i z = go (ltb i n) refl (f i) refl
  where
    go : (a : Bool) → ltb i n ≡ a → (b : Bool) → f i ≡ b → Own (plain_insert_after n f i z).answer
    go true p true q = rw (p, q)
    go true p false q = rw (p, q)
    go false p b q = rw p

own-insert-before : (n : ℕ) (f : ℕ → Bool) (i : ℕ) (z : Place) → Own (plain_insert_before n f i z).answer
unfolding never_answered plain_insert_before
own-insert-before n f i z = go (ltb i n) refl (f i) refl
  where
    go : (a : Bool) → ltb i n ≡ a → (b : Bool) → f i ≡ b → Own (plain_insert_before n f i z).answer
    go true p true q = rw (p, q)
    go true p false q = rw (p, q)
    go false p b q = rw p

own-remove : (f : ℕ → Bool) (z : Place) → Own (plain_remove f z).answer
unfolding never_answered
own-remove f (at L x R) = refl
own-remove f (at_null xs) = refl

own-replace : (n : ℕ) (f : ℕ → Bool) (i : ℕ) (z : Place) → Own (plain_replace n f i z).answer
unfolding never_answered
own-replace n f i (at L x R) = go (ltb i n) refl (f i) refl
  where
    go : (a : Bool) → ltb i n ≡ a → (b : Bool) → f i ≡ b → Own (plain_replace n f i (at L x R)).answer
    go true p true q = rw (p, q)
    go true p false q = rw (p, q)
    go false p b q = rw p
own-replace n f i (at_null xs) = go (ltb i n)
  where
    go : (a : Bool) → Own (need a NoSuchNode (Err AtNull))
    go true = refl
    go false = refl

own-splice-after : (ys : List ℕ) (z : Place) → Own (plain_splice_after ys z).answer
unfolding never_answered
own-splice-after ys (at L x R) = refl
own-splice-after ys (at_null xs) = refl

own-splice-before : (ys : List ℕ) (z : Place) → Own (plain_splice_before ys z).answer
unfolding never_answered
own-splice-before ys (at L x R) = refl
own-splice-before ys (at_null xs) = refl

own-split-after : (ys : List ℕ) (z : Place) → Own (plain_split_after ys z).answer
unfolding never_answered
own-split-after [] (at L x R) = refl
own-split-after [] (at_null xs) = refl
own-split-after (y ∷ ys) (at L x R) = refl
own-split-after (y ∷ ys) (at_null xs) = refl

own-split-before : (ys : List ℕ) (z : Place) → Own (plain_split_before ys z).answer
unfolding never_answered
own-split-before [] (at L x R) = refl
own-split-before [] (at_null xs) = refl
own-split-before (y ∷ ys) (at L x R) = refl
own-split-before (y ∷ ys) (at_null xs) = refl

own-take : (z y : Place) (st : List ℕ) → Own (plain_take z y st).answer
unfolding never_answered plain_take
own-take z y st = go (is_none (nodes y)) refl
  where
    go : (b : Bool) → is_none (nodes y) ≡ b → Own (plain_take z y st).answer
    go true e = rw e
    go false e = rw e

pick : (c : Bool) (t t' : PlainWorked) → Own t.answer → Own t'.answer → Own (cond c t t').answer
pick true t t' p q = p
pick false t t' p q = q

own-by-code : (code n : ℕ) (h : History) (z y : Place) (i : ℕ) → Own (plain_by_code code n h z y i).answer
unfolding plain_by_code never_answered at_place on_sequence on_two
own-by-code code n h z y i =
    pick (eqb code 1) _ _ (own-insert-after n (is_held h) i z)
    (pick (eqb code 2) _ _ (own-insert-before n (is_held h) i z)
    (pick (eqb code 3) _ _ (own-remove (is_held h) z)
    (pick (eqb code 4) _ _ (own-replace n (is_held h) i z)
    (pick (eqb code 5) _ _ (own-splice-after (nodes y) z)
    (pick (eqb code 6) _ _ (own-splice-before (nodes y) z)
    (pick (eqb code 7) _ _ (own-split-after (nodes y) z)
    (pick (eqb code 8) _ _ (own-split-before (nodes y) z)
    (pick (eqb code 9) _ _ refl
    (pick (eqb code 10) _ _ refl
    (pick (eqb code 11) _ _ refl
    (pick (eqb code 12) _ _ (own-take z y h.stranded)
    (pick (eqb code 14) _ _ refl
    (pick (eqb code 15) _ _ refl
    (pick (eqb code 16) _ _ (own-insert-after n (is_held h) i (at_null (nodes z)))
    (pick (eqb code 17) _ _ (own-insert-before n (is_held h) i (at_null (nodes z)))
    (pick (eqb code 18) _ _ (own-remove (is_held h) (next_place (at_null (nodes z))))
    (pick (eqb code 19) _ _ (own-remove (is_held h) (prev_place (at_null (nodes z)))) refl)))))))))))))))))

own-command : (n : ℕ) (h : History) (o : Order) (z y : Place) → Own (plain_command n h o z y).answer
unfolding plain_command never_answered
own-command n h o z y =
    pick (eqb o.code 13) _ _ refl (pick (same_list o) _ _ refl (own-by-code o.code n h z y o.node))

choose : (c : Bool) (t t' : PlainStepped) → never_answered t.reply.number ≡ false → never_answered t'.reply.number ≡ false → never_answered (cond c t t').reply.number ≡ false
choose true t t' p q = p
choose false t t' p q = q

tested-answered : (n : ℕ) (h : History) (p : Option Order) → never_answered (plain_step_tested n h p).reply.number ≡ false
unfolding never_answered reply_unread plain_put_back plain_reply_to
tested-answered n h None = refl
tested-answered n h (Some o) =
    choose (eqb o.code 20) _ _ refl
    (choose (ltb o.list (length h.places) && ltb o.other (length h.places)) _ _ (own-command n h o (place_at h o.list) (place_at h o.other)) refl)

pub never-answered : (n : ℕ) (h : History) (p : Option Order) → never_answered (plain_step n h p).reply.number ≡ false
never-answered n h p = tested-answered n h (tested p)
