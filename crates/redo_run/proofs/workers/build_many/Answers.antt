use Rattle.std.proofs.Common.{sym, subst}
use Rattle.redo_report.specs.declared.report.Report.{Report}
use Rattle.redo_run.specs.Skipping.{IsSoundOn}
use Rattle.redo_tree.specs.Tree.{Tree}
use Rattle.redo_run.proofs.workers.build_many.Goals as goal

-- a build that comes to a report refuses no book
pub returns-clause-book : goal.returns-clause-book
returns-clause-book g c = λ n is. absurd cc

-- the tree of the past is the one that was given, and the report with the book's text is the run's
pub returns-clause-sound : goal.returns-clause-sound
returns-clause-sound g c =
    let P : Tree → Type 0 = λ t. IsSoundOn t c.args.request.now c.args.limits c.in_ok-report.report in
    let Q : Report → Type 0 = λ r. IsSoundOn c.args.tree c.args.request.now c.args.limits r in
    subst Q (sym c.in_ok-into_report.ensures) (subst P c.in_ok-past.ensures.past.of_tree c.in_ok-report.ensures.built.sound)
