-- A contract that gives an entry by one equation leaves one end of the marks, one of the numbers and one result. Assumes nothing.
use mathlib.Core.Path.{◌≡◌, sym, ap, ◌∙◌}
use mathlib.Core.List.{List}
use Prim.Native.Nat.{ℕ}
use Rattle.rewzhanok_pools.specs.Entries.{Entered, entered}

pub one-entered : (s : Entered) (ms ms' ns ns' : List ℕ) (n n' : ℕ) → entered ms ns n ≡ s → entered ms' ns' n' ≡ s
    → (ms ≡ ms') × (ns ≡ ns') × (n ≡ n')
one-entered s ms ms' ns ns' n n' p q =
    let e : entered ms ns n ≡ entered ms' ns' n' = p ∙ sym q in
    (ap (λ (x : Entered). x.marks) e, ap (λ (x : Entered). x.numbers) e, ap (λ (x : Entered). x.answer) e)
