-- The refusals and their numbers (document 01, 'Refusal numbers'), and what a call answers.
use Rattle.std.specs.Prelude.{ℕ, Bool, cond, Option, Some, None, Result, Ok, Err}
use Rattle.words.specs.declared.names.Node.{Node}
use Rattle.answers.specs.declared.Refusal.{Refusal}
use Rattle.answers.specs.declared.Refusal.TheVariants.{Size, NoSuchList, SameList, EndsDoNotHold, CursorDoesNotStand, NotEmpty, NoSuchNode, AtNull, AlreadyLinked, NoListing, Malformed, NoRoom}

-- The table's number of each refusal.
abbrev pub number : Refusal → ℕ
number Size = 1
number NoSuchList = 2
number SameList = 3
number EndsDoNotHold = 4
number CursorDoesNotStand = 5
number NotEmpty = 6
number NoSuchNode = 7
number AtNull = 8
number AlreadyLinked = 9
number NoListing = 10
number Malformed = 11
number NoRoom = 12

-- What a call answers: done, with the node that it hands out if it does; or refused.
abbrev pub Answer : Type 0
Answer = Result (Option Node) Refusal

-- Done, with no node handed out.
abbrev pub done : Answer
done = Ok None

-- The number of an answer: 0 for what is done.
abbrev pub answer_number : Answer → ℕ
answer_number (Ok i) = 0
answer_number (Err r) = number r

-- The node that an answer hands out.
abbrev pub handed : Answer → Option Node
handed (Ok i) = i
handed (Err r) = None

-- What a test answers: it is passed, or it refuses.
abbrev pub Tested : Type 0
Tested = Result Unit Refusal

abbrev pub passed : Tested
passed = Ok tt

-- What a call comes to after its tests: what is left by their refusal, or else what is made.
abbrev pub if_refused : {A B : Type 0} → Result A Refusal → (Refusal → B) → B → B
if_refused (Ok x) left made = made
if_refused (Err r) left made = left r

-- The answer of a call that does no more than its tests.
abbrev pub answered : Tested → Answer
answered t = if_refused t (λ r. Err r) done

-- A ladder of tests: refused unless the test holds, and then by what is left of the ladder.
abbrev pub need : {A : Type 0} → Bool → Refusal → Result A Refusal → Result A Refusal
need holds r rest = cond holds rest (Err r)

-- One ladder after another.
abbrev pub and_then : {A B : Type 0} → Result A Refusal → Result B Refusal → Result B Refusal
and_then (Ok x) b = b
and_then (Err r) b = Err r
