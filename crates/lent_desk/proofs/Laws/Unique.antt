-- Where a contract gives what a line leaves as one equation, no second answer fits it, and no second end of a lent slice.
-- Assumes nothing.
use mathlib.Core.Path.{◌≡◌, sym, ap, ◌∙◌}
use Rattle.lines.specs.declared.answer.Reply.{Reply}
use Rattle.lent_desk.specs.Lent.{Lent, LentStepped, lent_stepped}

pub one_left : (o : LentStepped) (s s' : Lent) (a a' : Reply) → lent_stepped s a ≡ o → lent_stepped s' a' ≡ o → (s ≡ s') × (a ≡ a')
one_left o s s' a a' p q =
    let e : lent_stepped s a ≡ lent_stepped s' a' = p ∙ sym q in
    (ap (λ (x : LentStepped). x.lent) e, ap (λ (x : LentStepped). x.reply) e)
