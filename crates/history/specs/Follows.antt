-- What it is for a desk to follow a history (demand 3).
use Rattle.std.specs.Prelude.{ℕ, ◌<◌, ◌≤◌, ◌≡◌, Bool, true, false, List, [], ◌∷◌, map, eqb, length, get_or, set, replicate, None, Option, Some}
use Rattle.std.specs.Int.Bits.{bit_xor}
use Rattle.words.specs.Names.{unlinked_marker, is_linked}
use Rattle.words.specs.Afresh.{afresh_all}
use Rattle.words.specs.Changes.{AtMostFour}
use Rattle.cursor.specs.Plain.{nodes, Sound}
use Rattle.lines.specs.declared.line.Order.{Order}
use Rattle.desk.specs.Step.{Desk, DeskStepped, row_at}
use Rattle.history.specs.History.{History, PlainStepped, place_at, held, is_held}

-- A desk of n nodes is as its history says.
pub record Agrees (n : ℕ) (d : Desk) (h : History) : Type 0 where
  pub long : length d.words ≡ n
  pub lists : length d.lists ≡ length h.places
  -- each list has its sequence for a listing, and its cursor is true at its place
  pub sound : (l : ℕ) → l < length h.places → Sound d.words (row_at d l).ends (row_at d l).cursor (place_at h l)
  -- a node is on one list and once, or stranded, or neither; and it is a node of the pool
  pub once : (x : ℕ) → held h x ≤ 1
  pub ranged : (x : ℕ) → n ≤ x → held h x ≡ 0
  -- neither is to be unlinked
  pub linked : (x : ℕ) → x < n → is_linked (get_or d.words x 0) ≡ is_held h x

-- A pool of as many nodes as ws has, all unlinked but the stranded ones, which have their words from ws.
unfoldable pub unlinked_but : List ℕ → List ℕ → List ℕ
unlinked_but ws [] = replicate (length ws) unlinked_marker
unlinked_but ws (x ∷ st) = set (unlinked_but ws st) x (get_or ws x 0)

-- The line is a clear, a reversal.
abbrev pub is_clear : Option Order → Bool
is_clear None = false
is_clear (Some o) = eqb o.code 13

abbrev pub is_reversal : Option Order → Bool
is_reversal None = false
is_reversal (Some o) = eqb o.code 11

-- The line p took the desk d to what s says, and the history to what t says.
pub record Follows (n : ℕ) (d : Desk) (p : Option Order) (s : DeskStepped) (t : PlainStepped) : Type 0 where
  pub agrees : Agrees n s.desk t.history
  pub reply : s.reply ≡ t.reply
  -- the words are those written afresh from the sequences, stranded words being as they were before the line
  pub afresh : s.desk.words ≡ afresh_all bit_xor (unlinked_but d.words t.history.stranded) (map nodes t.history.places)
  pub few : is_clear p ≡ false → AtMostFour d.words s.desk.words
  pub none : is_reversal p ≡ true → s.desk.words ≡ d.words
