use Rattle.std.proofs.Common.{◌∙◌, subst, sym}
use Rattle.redo_bundle.specs.Bundle.{Writes}
use Rattle.redo_past.proofs.NotedLemmas.{change-below}
use Rattle.redo_past.proofs.records.write_changed.Goals as goal

pub returns-clause-writes : goal.returns-clause-writes
returns-clause-writes g c =
    let below = sym c.is_top.ensures.top ∙ c.if-is_top.false in
    subst (Writes _ _ c.write_change.result) (sym (change-below c.args.states.now c.args.path.now c.state_at-state.result below c.state_at-state.ensures.value)) c.write_change.ensures.writes
