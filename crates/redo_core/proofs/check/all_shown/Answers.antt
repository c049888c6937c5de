use Rattle.std.proofs.Common.{◌∙◌, ap, arith}
use Rattle.redo_record.specs.Entries.{with_entry}
use Rattle.redo_core.proofs.CheckSteps.{shown-more}
use Rattle.redo_core.proofs.check.all_shown.Goals as goal

pub loop-entry-preserved : goal.loop-entry-preserved
loop-entry-preserved c =
    let es = c.args.entries.now in
    let i = c.loop-entry.entry-index in
    let x = c.entry-item.result in
    c.in_ok-insert.ensures.ok ∙ ap (λ d. with_entry c.loop-entry.deps d.kind d.path) c.in_ok-shown.ensures ∙
    shown-more es c.loop-entry.deps i x (omega (arith, c.loop-entry-test.true)) c.entry-item.is c.loop-entry.invariant
