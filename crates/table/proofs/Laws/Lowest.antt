-- A refused audit names the lowest list at fault. Assumes nothing.
use mathlib.Core.Path.{refl, ap}
use mathlib.Core.List.{List, [], ◌∷◌}
use Prim.Native.Nat.{ℕ}
use lib.ListN.{length}
use Rattle.ends.specs.declared.Ends.{Ends}
use Rattle.walk.specs.Marks.{Marking}
use Rattle.audit.specs.declared.Audited.{Audited}
use Rattle.audit.proofs.Laws.Audit.{audit-lowest-4, audit-lowest-10}
use Rattle.table.specs.Lowest.{Names}

abbrev numbers : Marking Audited → List ℕ
numbers a = a.result.list ∷ a.result.on_lists ∷ a.result.stranded ∷ []

pub audit-names : (ws ms : List ℕ) (es : List Ends) → Names ws ms es
audit-names ws ms es =
    record {
      under-4 = λ h.
          let l = audit-lowest-4 ws es ms h in (
            length l.before,
            ap numbers l.comes,
            record { lower = l.before; this = l.ends_of; beyond = l.after; parts = l.parts; number = refl; hold = l.lower; fails = l.fails },
          );
      under-10 = λ h.
          let l = audit-lowest-10 ws es ms h in (
            length l.before,
            ap numbers l.comes,
            record {
              lower = l.before;
              this = l.ends_of;
              beyond = l.after;
              parts = l.parts;
              number = refl;
              nodes = l.nodes;
              listed = l.listed;
              apart = l.apart;
              fails = l.fails;
            },
          );
    }
