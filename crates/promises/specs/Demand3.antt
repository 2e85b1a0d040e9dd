-- Demand 3: let a desk start fresh and let only the desk write. After each line of any lines, refused and malformed ones
-- included, all is as the plain history says: for the desk of the definitions, the desk in lent slices and the batch desk.
use Rattle.std.specs.Prelude.{ℕ, ◌<◌, ◌≤◌, ◌≡◌, true, false, List, map, reverse, length, get_or, Option}
use Rattle.std.specs.Int.Bits.{bit_xor}
use Rattle.words.specs.Names.{is_linked}
use Rattle.words.specs.Listing.{Listing}
use Rattle.words.specs.Afresh.{afresh_all}
use Rattle.cursor.specs.Plain.{nodes, TrueAt}
use Rattle.words.specs.Names.{directory_limit}
use Rattle.lines.specs.declared.line.Order.{Order}
use Rattle.lines.specs.Lines.{line_of}
use Rattle.desk.specs.Step.{Desk, DeskStepped, fresh_desk, desk_limit, row_at, step}
use Rattle.history.specs.History.{History, PlainStepped, place_at, times, on_lists, start, plain_step}
use Rattle.history.specs.Follows.{unlinked_but, is_clear, is_reversal}
use Rattle.history.specs.Runs.{MarkedLine, AllMarked, desk_after, history_after, never_answered}
use Rattle.lent_desk.specs.Lent.{Lent, desk_of}
use Rattle.batch_desk.specs.Step.{batch_step}
use Rattle.words.specs.Changes.{AtMost}
use Rattle.promises.specs.Desks.{FreshSlices, slices_after, held_after, own_marks, batch_after}
use Rattle.promises.specs.Pieces.{InPieces}

-- Where node x is: unlinked and nowhere, on exactly one list and there once, or stranded.
pub data Whereabouts (ws : List ℕ) (h : History) (x : ℕ) : Type 0 where
  unlinked : is_linked (get_or ws x 0) ≡ false → on_lists x h.places ≡ 0 → times x h.stranded ≡ 0 → Whereabouts ws h x
  listed : is_linked (get_or ws x 0) ≡ true → on_lists x h.places ≡ 1 → times x h.stranded ≡ 0 → Whereabouts ws h x
  stranded : is_linked (get_or ws x 0) ≡ true → on_lists x h.places ≡ 0 → times x h.stranded ≡ 1 → Whereabouts ws h x

-- The line took the desk of n nodes from `before` to what s says, and its history to what t says.
pub record AfterLine (n : ℕ) (before : Desk) (line : Option Order) (s : DeskStepped) (t : PlainStepped) : Type 0 where
  -- there are as many lists as sequences, and each reads forward as its sequence, backward as the reverse
  pub lists : length s.desk.lists ≡ length t.history.places
  pub forward : (l : ℕ) → l < length t.history.places
      → Listing bit_xor s.desk.words (row_at s.desk l).ends.head.0 (row_at s.desk l).ends.tail.0 (nodes (place_at t.history l))
  pub backward : (l : ℕ) → l < length t.history.places
      → Listing bit_xor s.desk.words (row_at s.desk l).ends.tail.0 (row_at s.desk l).ends.head.0 (reverse (nodes (place_at t.history l)))
  -- each cursor is true at its place
  pub cursors : (l : ℕ) → l < length t.history.places → TrueAt (row_at s.desk l).cursor (place_at t.history l)
  -- each node is somewhere, once
  pub whereabouts : (x : ℕ) → x < n → Whereabouts s.desk.words t.history x
  -- the words are those written afresh from the sequences, stranded words being as they were before the line
  pub words : s.desk.words ≡ afresh_all bit_xor (unlinked_but before.words t.history.stranded) (map nodes t.history.places)
  -- at most four words change, but by a clear; none by a reversal
  pub few : is_clear line ≡ false → AtMost 4 before.words s.desk.words
  pub none : is_reversal line ≡ true → s.desk.words ≡ before.words
  -- the answer is the history's, and never 1, 4, 5, 10 or 12
  pub answer : s.reply ≡ t.reply
  pub table : never_answered s.reply.number ≡ false

-- For every desk within the limits, after any lines gs, whatever marks are lent, at the next line v.
abbrev pub EveryDesk : Type 0
EveryDesk =
    (n k : ℕ) → n ≤ desk_limit → k ≤ directory_limit → (gs : List MarkedLine) → AllMarked n gs → (v : MarkedLine) → length v.marks ≡ n
    → AfterLine n (desk_after (fresh_desk n k) gs) (line_of v.line) (step (desk_after (fresh_desk n k) gs) v.marks (line_of v.line)).result
    (plain_step n (history_after n (start k) gs) (line_of v.line))

-- The same for slices that are lent fresh, and that hold the desk from call to call, whatever marks are lent for each.
abbrev pub EveryLentDesk : Type 0
EveryLentDesk =
    (n k : ℕ) → n ≤ desk_limit → k ≤ directory_limit → (s : Lent) → FreshSlices n k s
    → (gs : List MarkedLine) → AllMarked n gs → (v : MarkedLine) → length v.marks ≡ n
    → AfterLine n (desk_of (slices_after s gs)) (line_of v.line) (held_after (slices_after s gs) v) (plain_step n (history_after n (start k) gs) (line_of v.line))

-- The same for the batch desk, whose marks are its own.
abbrev pub TheBatchDesk : Type 0
TheBatchDesk =
    (gs : List (List ℕ)) (v : List ℕ)
    → AfterLine 1024 (batch_after (fresh_desk 1024 8) gs) (line_of v) (batch_step (batch_after (fresh_desk 1024 8) gs) (line_of v))
    (plain_step 1024 (history_after 1024 (start 8) (map own_marks gs)) (line_of v))

-- All of it.
pub record Demand3 : Type 0 where
  pub desk : EveryDesk
  pub lent-desk : EveryLentDesk
  pub batch-desk : TheBatchDesk
  pub in_pieces : InPieces
