-- The nine chains of document 01, 'Chains to try', that are marked P: what is tried, and what must come of it, as one statement.
use Rattle.std.specs.Prelude.{ℕ, zero, suc, ◌≡◌, Bool, true, false, cond, List, [], ◌∷◌, map, reverse, eqb, length, replicate}
use Rattle.std.specs.Int.Bits.{bit_xor}
use Rattle.words.specs.declared.names.Name.{Name}
use Rattle.words.specs.Names.{is_name, node_of}
use Rattle.words.specs.Listing.{Listing}
use Rattle.links.specs.XorOps.{next_of}
use Rattle.ends.specs.declared.Ends.{Ends}
use Rattle.answers.specs.Answer.{answer_number}
use Rattle.ends.specs.Ends.{ends_of}
use Rattle.cursor.specs.declared.Cursor.{Cursor}
use Rattle.cursor.specs.Cursor.{cursor_of, null_cursor, cursor_stands}
use Rattle.cursor.specs.Plain.{Place, Sound}
use Rattle.remove.specs.Removes.{replace}
use Rattle.walk.specs.Walk.{walk_of}
use Rattle.walk.specs.Calls.{walk_all}

-- A name, ends and a cursor, from the document's numbers.
abbrev pub word : ℕ → Name
word w = record { 0 = w }

abbrev pub ends : ℕ → ℕ → Ends
ends h t = ends_of (word h) (word t)

abbrev pub cursor : ℕ → ℕ → ℕ → Cursor
cursor c p q = cursor_of (word c) (word p) (word q)

-- What is tried: a walk of words and ends; whether a cursor stands; a replace at null by a node.
pub data Try : Type 0 where
  walks : List ℕ → Ends → Try
  stands : List ℕ → Ends → Cursor → Try
  replaces : List ℕ → Ends → ℕ → Try

-- What comes of it: the number of the answer, how many nodes were stood on, and which, in order.
pub record Comes : Type 0 where
  pub number : ℕ
  pub count : ℕ
  pub nodes : List ℕ

abbrev pub comes : ℕ → ℕ → List ℕ → Comes
comes a n xs = record { number = a; count = n; nodes = xs }

-- A walk with marks of which none is set; of a list whose ends do not hold it stands on nothing. A cursor that does not
-- stand is refused 5.
abbrev pub tried : Try → Comes
tried (walks ws e) =
    let r = (walk_all ws (replicate (length ws) 0) e).result in
    let met = reverse (walk_of ws (replicate (length ws) 0) e).met in
    cond (eqb (answer_number r.answer) 4) (comes 4 r.count []) (comes (answer_number r.answer) r.count met)
tried (stands ws e c) = cond (cursor_stands ws e c) (comes 0 0 []) (comes 5 0 [])
tried (replaces ws e i) = comes (answer_number (replace ws e (null_cursor e) (record { 0 = i })).result.answer) 0 []

-- The words of a list of three; the seven of the chain that comes to one node twice; those of the cursor that stands and is false.
abbrev pub three_words : List ℕ
three_words = 4 ∷ 4 ∷ 4 ∷ 1 ∷ []

abbrev pub seven_words : List ℕ
seven_words = 10 ∷ 2 ∷ 1 ∷ 14 ∷ 6 ∷ 1 ∷ 10 ∷ []

abbrev pub false_words : List ℕ
false_words = 10 ∷ 10 ∷ 14 ∷ 2 ∷ 6 ∷ 12 ∷ 14 ∷ []

-- The nine.
abbrev pub nine : List Try
nine =
    walks [] (ends 0 0)
    ∷ walks (1 ∷ []) (ends 2 2)
    ∷ walks (0 ∷ []) (ends 2 2)
    ∷ walks three_words (ends 2 6)
    ∷ walks three_words (ends 6 2)
    ∷ walks (4 ∷ 0 ∷ 1 ∷ []) (ends 2 2)
    ∷ walks seven_words (ends 2 14)
    ∷ stands false_words (ends 2 4) (cursor 10 8 14)
    ∷ replaces three_words (ends 2 6) 1
    ∷ []

-- What must come of them.
abbrev pub expected : List Comes
expected =
    comes 0 0 []
    ∷ comes 4 0 []
    ∷ comes 0 1 (0 ∷ [])
    ∷ comes 0 3 (0 ∷ 1 ∷ 2 ∷ [])
    ∷ comes 0 3 (2 ∷ 1 ∷ 0 ∷ [])
    ∷ comes 4 0 []
    ∷ comes 10 4 (0 ∷ 4 ∷ 1 ∷ 3 ∷ [])
    ∷ comes 0 0 []
    ∷ comes 8 0 []
    ∷ []

-- ---- the way of a chain, for the one that comes to a node twice

-- A way: the nodes in order, and whether it ends at the tail with null after it.
pub record Way : Type 0 where
  pub nodes : List ℕ
  pub ended : Bool

abbrev pub way : List ℕ → Bool → Way
way xs b = record { nodes = xs; ended = b }

-- From w, with p named before it, to the tail t, in k steps at the most: the name after a node is its word xor the name before it.
-- Whether a node was met before is not looked at.
unfoldable pub way_from : ℕ → List ℕ → ℕ → ℕ → ℕ → Way
way_from zero ws t p w = way [] false
way_from (suc k) ws t p w =
    let q = next_of ws w p in
    let on = way_from k ws t w q in
    cond (is_name (length ws) w)
    (cond (eqb w t) (way (node_of w ∷ []) (eqb q 0)) (way (node_of w ∷ on.nodes) on.ended))
    (way [] false)

-- From the head, in as many steps as there are nodes.
abbrev pub way_of : List ℕ → Ends → Way
way_of ws e = way_from (length ws) ws e.tail.0 0 e.head.0

-- ---- all of it

pub record AllNine : Type 0 where
  pub table : map {A = Try} {B = Comes} tried nine ≡ expected
  -- what the walks of the three meet is their listing, and its reverse from the other end
  pub three-list : Listing bit_xor three_words 2 6 (0 ∷ 1 ∷ 2 ∷ [])
  pub three_back : Listing bit_xor three_words 6 2 (2 ∷ 1 ∷ 0 ∷ [])
  -- the way of the seven words comes to node 4 twice and ends at the tail, though the walk is refused
  pub seven-way : way_of seven_words (ends 2 14) ≡ way (0 ∷ 4 ∷ 1 ∷ 3 ∷ 4 ∷ 6 ∷ []) true
  -- the cursor that stands is true at no place, though its list has a listing
  pub false-list : Listing bit_xor false_words 2 4 (0 ∷ 4 ∷ 1 ∷ [])
  pub false-cursor : (z : Place) → Sound false_words (ends 2 4) (cursor 10 8 14) z → ⊥
