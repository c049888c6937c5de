use Rattle.std.proofs.Common.{◌-◌, ◌∙◌}
use Rattle.redo_sync.proofs.RelayLemmas.{taken_in}
use Rattle.redo_sync.proofs.ledger.gather.Goals as goal

pub takers-preserved : goal.takers-preserved
takers-preserved g c = (
  c.take_in.ensures.flavor ∙ c.takers.invariant.0,
  c.take_in.ensures.relay ∙ c.takers.invariant.1,
  taken_in (66 - c.args.source.takers) c.args.source.given c.takers.yielded c.in-Some.taker _ _ c.takers.invariant.2 c.take_in.ensures.view,
)
