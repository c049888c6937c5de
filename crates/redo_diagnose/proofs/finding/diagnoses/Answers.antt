use Rattle.std.proofs.Common.{◌≡◌, ◌∙◌, ap, map, rules, take}
use Rattle.redo_diagnose.specs.Diagnoses.{failures as failures_in}
use Rattle.redo_diagnose.specs.inside.Failures.{failure_of}
use Rattle.redo_diagnose.proofs.FailureLemmas.{are-first}
use Rattle.redo_diagnose.proofs.finding.diagnoses.Goals as goal

pub returns-clause-first : goal.returns-clause-first
returns-clause-first c =
    let fs = c.in_ok-failures.failures.items in
    let found = c.in_ok-failures.ensures ∙ ap failures_in c.deref.ensures.value in
    let first : c.first-first.result.now ≡ take c.args.most fs =
    c.first-first.ensures ∙ ap (take c.args.most) c.deref-2.ensures.value in
    are-first c.args.report.now.rows.items c.args.most fs _ found
    (c.in_ok-diagnoses.ensures.told ∙ ap (map failure_of) first) (search (rules, first))
