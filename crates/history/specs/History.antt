-- The history of a desk, on plain sequences, with no word in it (document 01, 'Command lines'; demand 3): a place on the
-- sequence of each list, and the nodes that fast clears have stranded. n is how many nodes there are.
use Rattle.std.specs.Prelude.{ℕ, ◌+◌, Bool, true, false, ◌&&◌, cond, List, [], ◌∷◌, ◌++◌, reverse, ltb, eqb, length, get_or, set, replicate, Err, is_err, None, Option, Some}
use Rattle.answers.specs.declared.Refusal.TheVariants.{NoSuchList, SameList, NotEmpty, Malformed}
use Rattle.answers.specs.Answer.{answer_number, handed, Answer, done}
use Rattle.cursor.specs.Plain.{Place, at, at_null, nodes, next_place, prev_place}
use Rattle.cursor.specs.Does.{Plain}
use Rattle.insert.specs.Plain.{plain_insert_after, plain_insert_before}
use Rattle.remove.specs.Plain.{plain_remove, plain_replace}
use Rattle.splice.specs.Plain.{PlainTwo, plain_splice_after, plain_splice_before}
use Rattle.split.specs.Plain.{plain_split_after, plain_split_before}
use Rattle.list.specs.Plain.{PlainList, plain_push_front, plain_push_back, plain_pop_front, plain_pop_back}
use Rattle.audit.specs.Audit.{bit}
use Rattle.lines.specs.declared.line.Order.{Order}
use Rattle.lines.specs.Lines.{same_list, tested}
use Rattle.lines.specs.declared.answer.Reply.{Reply}
use Rattle.lines.specs.Answers.{reply}
use Rattle.desk.specs.Reply.{no_node, shown, reply_unread}

pub record History : Type 0 where
  pub places : List Place
  pub stranded : List ℕ

-- It starts with k empty sequences, at null, and nothing stranded.
unfoldable pub start : ℕ → History
start k = record { places = replicate k (at_null []); stranded = [] }

abbrev pub place_at : History → ℕ → Place
place_at h l = get_or h.places l (at_null [])

-- ---- which nodes are taken

-- How often a node stands in a sequence.
unfoldable pub times : ℕ → List ℕ → ℕ
times x [] = 0
times x (y ∷ ys) = bit (eqb x y) + times x ys

-- How often it stands in the sequences of all lists.
unfoldable pub on_lists : ℕ → List Place → ℕ
on_lists x [] = 0
on_lists x (z ∷ zs) = times x (nodes z) + on_lists x zs

-- How often it is on a list or stranded: from an empty start, never more than once.
unfoldable pub held : History → ℕ → ℕ
held h x = on_lists x h.places + times x h.stranded

-- So it is linked if it is on a list or stranded.
unfoldable pub is_held : History → ℕ → Bool
is_held h x = ltb 0 (held h x)

-- How many nodes are on lists.
unfoldable pub size : List Place → ℕ
size [] = 0
size (z ∷ zs) = length (nodes z) + size zs

-- ---- one command

-- What a command gives: the answer, the place on the named list, the place on the other, and what is stranded.
pub record PlainWorked : Type 0 where
  pub answer : Answer
  pub named : Place
  pub other : Place
  pub stranded : List ℕ

abbrev pub plain_worked : Answer → Place → Place → List ℕ → PlainWorked
plain_worked a z y st = record { answer = a; named = z; other = y; stranded = st }

-- At null of the new sequence; refused, the place as it was.
abbrev pub settled : Answer → Place → List ℕ → Place
settled a z xs = cond (is_err a) z (at_null xs)

-- An edit at the place; an edit of the list, whose cursor becomes null; and one of two lists, where the other's does.
unfoldable pub at_place : Plain → Place → List ℕ → PlainWorked
at_place d y st = plain_worked d.answer d.place y st

unfoldable pub on_sequence : PlainList → Place → Place → List ℕ → PlainWorked
on_sequence d z y st = plain_worked d.answer (settled d.answer z d.nodes) y st

unfoldable pub on_two : PlainTwo → Place → List ℕ → PlainWorked
on_two d y st = plain_worked d.answer d.place (settled d.answer y d.other) st

-- Take: everything moves to the other list, 6 unless it is empty.
abbrev pub is_none : List ℕ → Bool
is_none [] = true
is_none (x ∷ xs) = false

unfoldable pub plain_take : Place → Place → List ℕ → PlainWorked
plain_take z y st = cond (is_none (nodes y)) (plain_worked done (at_null []) (at_null (nodes z)) st) (plain_worked (Err NotEmpty) z y st)

-- The command with this code, at z, with y on the other list and the node i.
unfoldable pub plain_by_code : ℕ → ℕ → History → Place → Place → ℕ → PlainWorked
plain_by_code code n h z y i =
    let st = h.stranded in
    cond (eqb code 1) (at_place (plain_insert_after n (is_held h) i z) y st)
    (cond (eqb code 2) (at_place (plain_insert_before n (is_held h) i z) y st)
    (cond (eqb code 3) (at_place (plain_remove (is_held h) z) y st)
    (cond (eqb code 4) (at_place (plain_replace n (is_held h) i z) y st)
    (cond (eqb code 5) (on_two (plain_splice_after (nodes y) z) y st)
    (cond (eqb code 6) (on_two (plain_splice_before (nodes y) z) y st)
    (cond (eqb code 7) (on_two (plain_split_after (nodes y) z) y st)
    (cond (eqb code 8) (on_two (plain_split_before (nodes y) z) y st)
    (cond (eqb code 9) (plain_worked done (next_place z) y st)
    (cond (eqb code 10) (plain_worked done (prev_place z) y st)
    (cond (eqb code 11) (plain_worked done (at_null (reverse (nodes z))) y st)
    (cond (eqb code 12) (plain_take z y st)
    (cond (eqb code 14) (plain_worked done (at_null []) y (nodes z ++ st))
    (cond (eqb code 15) (plain_worked done (at_null (nodes z)) y st)
    (cond (eqb code 16) (on_sequence (plain_push_front n (is_held h) i (nodes z)) z y st)
    (cond (eqb code 17) (on_sequence (plain_push_back n (is_held h) i (nodes z)) z y st)
    (cond (eqb code 18) (on_sequence (plain_pop_front (is_held h) (nodes z)) z y st)
    (cond (eqb code 19) (on_sequence (plain_pop_back (is_held h) (nodes z)) z y st)
    (plain_worked (Err Malformed) z y st))))))))))))))))))

-- 3 where both lists are used and are the same; else the command, clear being 0d.
unfoldable pub plain_command : ℕ → History → Order → Place → Place → PlainWorked
plain_command n h o z y =
    cond (eqb o.code 13) (plain_worked done (at_null []) y h.stranded)
    (cond (same_list o) (plain_worked (Err SameList) z y h.stranded)
    (plain_by_code o.code n h z y o.node))

-- ---- one line

-- What a line leaves: the history, and the answer.
pub record PlainStepped : Type 0 where
  pub history : History
  pub reply : Reply

abbrev pub plain_stepped : History → Reply → PlainStepped
plain_stepped h a = record { history = h; reply = a }

-- The field for the node of a place.
abbrev pub under : Place → ℕ
under (at L x R) = x
under (at_null xs) = no_node

unfoldable pub plain_reply_to : PlainWorked → Reply
plain_reply_to t = reply (answer_number t.answer) (under t.named) (shown (handed t.answer))

-- The other list's place goes back first, and then the named one's.
unfoldable pub plain_put_back : History → Order → PlainWorked → PlainStepped
plain_put_back h o t = plain_stepped (record { places = set (set h.places o.other t.other) o.list t.named; stranded = t.stranded }) (plain_reply_to t)

-- A line that was tested for 11: the audit, 2, and then the command.
abbrev pub plain_step_tested : ℕ → History → Option Order → PlainStepped
plain_step_tested n h None = plain_stepped h (reply_unread Malformed)
plain_step_tested n h (Some o) =
    let k = length h.places in
    cond (eqb o.code 20) (plain_stepped h (reply 0 (size h.places) (length h.stranded)))
    (cond (ltb o.list k && ltb o.other k) (plain_put_back h o (plain_command n h o (place_at h o.list) (place_at h o.other)))
    (plain_stepped h (reply_unread NoSuchList)))

-- One line, whoever hands it in: 11 is tested first.
abbrev pub plain_step : ℕ → History → Option Order → PlainStepped
plain_step n h p = plain_step_tested n h (tested p)
