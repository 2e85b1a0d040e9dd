-- What the entries write, number by number, is what their definitions say. Assumes nothing.
use Prim.Native.Nat.{ℕ, ◌<◌, ◌≤◌}
use mathlib.Core.Path.{◌≡◌, refl}
use mathlib.Core.List.{List, [], ◌∷◌}
use native.Mathlib.Omega.{arith}
use lib.ListN.{length, set}
use borrow.Author.Tests.{le-leb, lt-leb}
use Rattle.answers.specs.Answer.{answer_number}
use Rattle.ends.specs.declared.Ends.{Ends}
use Rattle.walk.specs.declared.walk.Walked.{Walked}
use Rattle.walk.specs.Marks.{marking}
use Rattle.walk.specs.Calls.{walk_all}
use Rattle.audit.specs.declared.Audited.{Audited}
use Rattle.audit.specs.Audit.{audit_all}
use Rattle.rewzhanok_pools.specs.Entries.{entered, written, no_room, walk_entry, audit_entry}

-- ---- stores from the front

one-stored : (ns : List ℕ) (a : ℕ) → 1 ≤ length ns → set ns 0 a ≡ written (a ∷ []) ns
one-stored [] a h = absurd (omega (arith, h))
one-stored (n ∷ ns) a h = refl

four-stored : (ns : List ℕ) (a b c d : ℕ) → 4 ≤ length ns → set (set (set (set ns 0 a) 1 b) 2 c) 3 d ≡ written (a ∷ b ∷ c ∷ d ∷ []) ns
four-stored [] a b c d h = absurd (omega (arith, h))
four-stored (n ∷ []) a b c d h = absurd (omega (arith, h))
four-stored (n ∷ m ∷ []) a b c d h = absurd (omega (arith, h))
four-stored (n ∷ m ∷ l ∷ []) a b c d h = absurd (omega (arith, h))
four-stored (n ∷ m ∷ l ∷ k ∷ ns) a b c d h = refl

-- ---- the calls, by what they come to

module _ (ws : List ℕ) (e : Ends) (ms ns : List ℕ) where
  pub walk-no-room : length ns < 1 → no_room ms ns ≡ walk_entry ws e ms ns
  unfolding walk_entry
  walk-no-room h = rw (lt-leb 1 (length ns) h)

  pub walk-made : (ms' : List ℕ) (r : Walked) → 1 ≤ length ns → marking ms' r ≡ walk_all ws ms e
      → entered ms' (set ns 0 r.count) (answer_number r.answer) ≡ walk_entry ws e ms ns
  unfolding walk_entry
  walk-made ms' r h w = rw (le-leb 1 (length ns) h, one-stored ns r.count h, ← w)

module _ (ws : List ℕ) (es : List Ends) (ms ns : List ℕ) where
  pub audit-no-room : length ns < 4 → no_room ms ns ≡ audit_entry ws es ms ns
  unfolding audit_entry
  audit-no-room h = rw (lt-leb 4 (length ns) h)

  pub audit-made : (ms' : List ℕ) (r : Audited) → 4 ≤ length ns → marking ms' r ≡ audit_all ws es ms
      → entered ms' (set (set (set (set ns 0 r.list) 1 r.on_lists) 2 r.stranded) 3 0) (answer_number r.answer) ≡ audit_entry ws es ms ns
  unfolding audit_entry
  audit-made ms' r h w = rw (le-leb 4 (length ns) h, four-stored ns r.list r.on_lists r.stranded 0 h, ← w)
