use Rattle.std.proofs.Common.{arith, refl}
use Rattle.redo_json.proofs.KnownLemmas.{one-more}
use Rattle.redo_json.proofs.known.diagnoses_of.Goals as goal

pub loop-diagnosis-preserved : goal.loop-diagnosis-preserved
loop-diagnosis-preserved c = λ path.
    let x = c.diagnosis-item.result in
    one-more (λ d. (d.target, d)) (λ d. d.now) c.args.diagnoses.now c.loop-diagnosis.diagnosis-index x
    c.loop-diagnosis.found c.put_first.new.values x.target path _
    (omega (arith, c.loop-diagnosis-test.true)) c.diagnosis-item.is refl (c.loop-diagnosis.invariant path)
    (c.in_ok-put_first.ensures path)
