use Rattle.std.proofs.Common.{subst}
use Rattle.std.specs.Arc.{arc_value}
use Rattle.redo_core.specs.Views.{WorkView}
use Rattle.redo_core.specs.inside.Works.{HoldsOutcomes}
use Rattle.redo_core.proofs.HoldingLemmas.{script-holds}
use Rattle.redo_core.proofs.work.Work.numbered.Goals as goal

pub returns-clause-holds : goal.returns-clause-holds
returns-clause-holds c =
    let P : WorkView → Type 0 = HoldsOutcomes in
    subst P c.self.view_is (script-holds (arc_value c.self.inside.given) c.self.inside.script c.self.invariant)
