use Rattle.std.proofs.Common.{◌∙◌, sym}
use Rattle.redo_past.proofs.NotedLemmas.{create-sized, create-top-sized}
use Rattle.redo_past.proofs.sizes.created_size.Goals as goal

pub returns-then-is_top : goal.returns-then-is_top
returns-then-is_top c = λ states. create-top-sized states c.args.path.now (sym c.is_top.ensures.top ∙ c.if-is_top.true)

pub returns : goal.returns
returns c = λ states. create-sized states c.args.path.now c.create_size.result (sym c.is_top.ensures.top ∙ c.if-is_top.false) c.is_top.ensures.path c.create_size.ensures
