-- The tests of fixed size (document 01, 'Words': ends hold, a cursor stands).
use Rattle.std.specs.Prelude.{ℕ, Bool, ◌&&◌, ◌||◌, not, List, eqb, length}
use Rattle.std.specs.Bool.{beq}
use Rattle.std.specs.Int.Bits.{bit_xor}
use Rattle.words.specs.Names.{is_name, pool_fits}
use Rattle.words.specs.Pool.{word_at}
use Rattle.links.specs.XorOps.{next_of}
use Rattle.answers.specs.declared.Refusal.TheVariants.{Size, EndsDoNotHold}
use Rattle.ends.specs.declared.Ends.{Ends}
use Rattle.answers.specs.Answer.{Tested, passed, need}
use Rattle.ends.specs.Ends.{is_empty}

-- w is null or a name in range, and null exactly if `alone`.
unfoldable pub link_with : ℕ → ℕ → Bool → Bool
link_with n w alone = (eqb w 0 || is_name n w) && beq (eqb w 0) alone

-- Both ends are null; or both name nodes in range, and the word of each is null or a name in range, null exactly if head = tail.
unfoldable pub ends_hold : List ℕ → Ends → Bool
ends_hold ws e =
    let h = e.head.0 in
    let t = e.tail.0 in
    eqb h 0 && eqb t 0
    || is_name (length ws) h && is_name (length ws) t
    && link_with (length ws) (word_at ws h) (eqb h t)
    && link_with (length ws) (word_at ws t) (eqb h t)

-- The neighbour s of c, if it is not null: its word xor c is null or a name in range, null exactly if s is the end on its side.
unfoldable pub side_holds : List ℕ → ℕ → ℕ → ℕ → Bool
side_holds ws c s end = eqb s 0 || link_with (length ws) (next_of ws s c) (eqb s end)

-- A cursor at c, with p before it and q after it, stands. At null p is the tail and q the head. At a node the list is not
-- empty; c is a name in range; p is null or a name in range, null exactly if c is the head, and q so at the tail; those
-- that are not null differ; the word of c is p xor q; and each neighbour holds.
unfoldable pub stands : List ℕ → Ends → ℕ → ℕ → ℕ → Bool
stands ws e c p q =
    eqb c 0 && eqb p e.tail.0 && eqb q e.head.0
    || not (is_empty e)
    && is_name (length ws) c
    && link_with (length ws) p (eqb c e.head.0)
    && link_with (length ws) q (eqb c e.tail.0)
    && not (eqb c p)
    && not (eqb c q)
    && (eqb p 0 || not (eqb p q))
    && eqb (word_at ws c) (bit_xor p q)
    && side_holds ws c p e.head.0
    && side_holds ws c q e.tail.0

-- The tests of a call that takes ends, in order.
unfoldable pub ends_test : List ℕ → Ends → Tested
ends_test ws e = need (pool_fits (length ws)) Size (need (ends_hold ws e) EndsDoNotHold passed)
