-- A contract that gives a place by one equation leaves one end of the lent bytes and one result. Assumes nothing.
use mathlib.Core.Path.{◌≡◌, sym, ap, ◌∙◌}
use mathlib.Core.List.{List}
use Prim.Native.Nat.{ℕ}
use Rattle.stream.specs.Stream.{Placing, placing}

pub one-placing : (s : Placing) (out out' : List ℕ) (n n' : ℕ) → placing out n ≡ s → placing out' n' ≡ s → (out ≡ out') × (n ≡ n')
one-placing s out out' n n' p q =
    let e : placing out n ≡ placing out' n' = p ∙ sym q in
    (ap (λ (x : Placing). x.out) e, ap (λ (x : Placing). x.next) e)
