use Rattle.std.proofs.Common.{◌≡◌, ◌-◌, ◌∷◌, drop, length, sym, subst, take, arith}
use Rattle.std.proofs.lemmas.Grind.{common_steps}
use Rattle.redo_which.specs.Candidates.{suffixes}
use Rattle.redo_which.specs.inside.Slots.{shorter}
use Rattle.redo_which.proofs.SlotLemmas.{first-suffix}
use Rattle.redo_which.proofs.candidates.first_suffix.Goals as goal

pub returns-clause-first : goal.returns-clause-first
returns-clause-first c =
    let text = c.args.text.now in
    let dot = c.first_dot.result in
    let whole : take (length text - dot) (drop dot text) ≡ drop dot text = grind (arith, common_steps) in
    subst (λ s. suffixes text ≡ s ∷ shorter s) (sym whole) (first-suffix text dot c.first_dot.ensures)
