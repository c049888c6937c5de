use Rattle.std.proofs.Common.{subst}
use Rattle.redo_build.specs.Outcomes.{IsTooMany}
use Rattle.redo_core.specs.Views.{BoardView, limit_on, request_on, rules_on}
use Rattle.redo_core.proofs.board.Board.stopped.Goals as goal

pub returns-clause-too_many : goal.returns-clause-too_many
returns-clause-too_many c = λ is.
    let P : BoardView → Type 0 = λ v. IsTooMany (rules_on v) (request_on v) (limit_on v) in
    subst P c.self.view_is (c.self.invariant.too_many is)
