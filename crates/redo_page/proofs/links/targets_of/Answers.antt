use Rattle.std.proofs.Common.{◌∙◌, ap, arith}
use Rattle.redo_names.specs.Paths.{is_among}
use Rattle.redo_page.proofs.LinkLemmas.{target-more}
use Rattle.redo_page.proofs.links.targets_of.Goals as goal

pub loop-diagnosis-preserved : goal.loop-diagnosis-preserved
loop-diagnosis-preserved c = λ p.
    ap (λ s. is_among s p) c.in_ok-insert.ensures.paths
    ∙ target-more c.args.diagnoses.now c.loop-diagnosis.set c.loop-diagnosis.diagnosis-index c.diagnosis-item.result
    c.in_ok-clone.field-0 p (omega (arith, c.loop-diagnosis-test.true)) c.diagnosis-item.is
    c.in_ok-clone.ensures.cases (c.loop-diagnosis.invariant p)
