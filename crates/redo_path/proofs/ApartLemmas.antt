-- What follows from an equation of two different constructors, as `apart cc`.
use Rattle.std.proofs.Common.{◌≡◌, subst}

pub apart : {A : Type 0} → Unit {0} ≡ ⊥ → A
apart same = absurd (subst (λ (T : Type 0). T) same tt)
