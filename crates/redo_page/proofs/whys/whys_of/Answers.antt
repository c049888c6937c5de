use Rattle.std.proofs.Common.{arith}
use Rattle.redo_page.proofs.WhyLemmas.{why-more}
use Rattle.redo_page.proofs.whys.whys_of.Goals as goal

pub loop-script-preserved : goal.loop-script-preserved
loop-script-preserved c = λ path.
    why-more c.args.sources.now c.args.begun.now c.loop-script.script-index c.script-item.result c.loop-script.whys
    c.put_first.new.whys c.in_ok-words.words path (omega (arith, c.loop-script-test.true)) c.script-item.is
    c.in_ok-words.ensures (c.loop-script.invariant path) (c.in_ok-put_first.ensures path)
