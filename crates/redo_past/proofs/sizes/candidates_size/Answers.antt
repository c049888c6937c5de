use Rattle.redo_past.proofs.LoopLemmas.{if-so}
use Rattle.redo_past.proofs.NotedLemmas.{creates-sized}
use Rattle.redo_past.proofs.sizes.candidates_size.Goals as goal

pub returns-clause-size : goal.returns-clause-size
returns-clause-size c =
    if-so _ _ c.size.result (λ n is states. creates-sized states c.args.lines.now.0 c.args.missing.now n c.requires.front c.each_below.ensures is) c.size.ensures.size
