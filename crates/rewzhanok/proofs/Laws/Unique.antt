-- A contract that gives the entry by one equation leaves one end of the answer bytes and one result. Assumes nothing.
use mathlib.Core.Path.{◌≡◌, sym, ap, ◌∙◌}
use mathlib.Core.List.{List}
use Prim.Native.Nat.{ℕ}
use Rattle.rewzhanok.specs.Entry.{Entered, entered}

pub one-entered : (s : Entered) (out out' : List ℕ) (n n' : ℕ) → entered out n ≡ s → entered out' n' ≡ s → (out ≡ out') × (n ≡ n')
one-entered s out out' n n' p q =
    let e : entered out n ≡ entered out' n' = p ∙ sym q in
    (ap (λ (x : Entered). x.out) e, ap (λ (x : Entered). x.count) e)
