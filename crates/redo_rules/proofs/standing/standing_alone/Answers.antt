use Rattle.std.proofs.Common.{◌∙◌, ap, sym}
use Rattle.redo_build.specs.Schedule.{nothing_known}
use Rattle.redo_skip.specs.Checks.{standing}
use Rattle.redo_rules.specs.Build.{sources_by}
use Rattle.redo_rules.proofs.standing.standing_alone.Goals as goal

pub returns-in-Change : goal.returns-in-Change
returns-in-Change c = λ n.
    c.change_alone.ensures n ∙ ap (standing (sources_by c.args.sources.now n) nothing_known) (sym c.in-Change.is)
