use Rattle.std.proofs.Common.{◌∙◌, sym}
use Rattle.redo_past.proofs.NotedLemmas.{always-sized, always-top-sized}
use Rattle.redo_past.proofs.sizes.made_again_size.Goals as goal

pub returns-then-is_top : goal.returns-then-is_top
returns-then-is_top c = λ states. always-top-sized states c.args.path.now c.always_size.result (sym c.is_top.ensures.top ∙ c.if-is_top.true) c.always_size.ensures

pub returns : goal.returns
returns c = λ states. always-sized states c.args.path.now (sym c.is_top.ensures.top ∙ c.if-is_top.false)
