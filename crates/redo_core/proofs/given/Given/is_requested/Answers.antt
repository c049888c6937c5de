use Rattle.std.proofs.Common.{◌∙◌, ap}
use Rattle.redo_names.specs.Paths.{is_among}
use Rattle.redo_core.proofs.given.Given.is_requested.Goals as goal

pub returns : goal.returns
returns c =
    let p = c.args.path.now in
    c.contains.ensures ∙ c.self.invariant.1 p ∙ ap (λ g. is_among g.request p) c.self.view_is
