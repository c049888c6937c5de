use Rattle.std.proofs.Common.{◌↔◌, IsTrue, ap, subst, ◌∙◌}
use Rattle.redo_rules.specs.Build.{GivenView}
use Rattle.redo_rules.specs.Results.{IsGiven}
use Rattle.redo_core.specs.Views.{BoardView}
use Rattle.redo_core.proofs.board.Board.is_for.Goals as goal

pub returns : goal.returns
returns c =
    let P : GivenView → Type 0 = λ g. IsTrue c.is.result ↔ IsGiven c.args.tree.now c.args.request.now c.args.limits g in
    subst P (c.given.ensures ∙ ap (λ (v : BoardView). v.given) c.self.view_is) c.is.ensures
