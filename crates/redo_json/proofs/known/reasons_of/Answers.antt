use Rattle.std.proofs.Common.{arith, refl}
use Rattle.redo_explain.specs.Views.{begun_view, reason_view}
use Rattle.redo_json.proofs.KnownLemmas.{one-more}
use Rattle.redo_json.proofs.known.reasons_of.Goals as goal

pub loop-script-preserved : goal.loop-script-preserved
loop-script-preserved c = λ path.
    let x = c.script-item.result in
    one-more begun_view reason_view c.args.begun.now c.loop-script.script-index x
    c.loop-script.reasons c.put_first.new.values x.target.now path x.reason
    (omega (arith, c.loop-script-test.true)) c.script-item.is refl (c.loop-script.invariant path)
    (c.in_ok-put_first.ensures path)
