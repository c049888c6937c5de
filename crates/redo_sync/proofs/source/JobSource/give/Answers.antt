use Rattle.std.proofs.Common.{ap, arith, [], ◌∷◌}
use Rattle.redo_sync.proofs.RelayLemmas.{gives}
use Rattle.redo_sync.proofs.source.JobSource.give.Goals as goal

pub push_as-requires-clause-pushes : goal.push_as-requires-clause-pushes
push_as-requires-clause-pushes g c =
    gives g.T.Numbered.number _ _ (c.args.job ∷ []) (let parts = ap (λ v. v.parts) c.self.invariant.4 in let most = c.self.invariant.1 in omega arith)
