use Rattle.std.proofs.Common.{◌∙◌, rules}
use Rattle.redo_names.specs.Paths.{is_among}
use Rattle.redo_report.specs.Reports.{row_paths}
use Rattle.redo_dead.proofs.DeadLemmas.{by-set, dead-of-each}
use Rattle.redo_dead.proofs.dead.dead_plan.Goals as goal

pub returns-clause-generated : goal.returns-clause-generated
returns-clause-generated c =
    by-set _ c.in_ok-told.told (row_paths c.args.report.now) _ _
    (c.in_ok-generated.ensures ∙ dead-of-each (is_among c.in_ok-told.told) c.args.past.now.tree c.args.past.now.book)
    (search rules) (search rules)
