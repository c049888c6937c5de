use Rattle.std.proofs.Common.{subst}
use Rattle.redo_bundle.specs.Bundle.{Writes}
use Rattle.redo_past.proofs.NotedLemmas.{front-text}
use Rattle.redo_past.proofs.records.write_candidates.Goals as goal

pub returns-clause-writes : goal.returns-clause-writes
returns-clause-writes g c = λ states.
    subst (Writes _ _ c.write_missing.result) (front-text states c.args.lines.now.0 c.args.missing.now c.requires.front c.each_below.ensures) c.write_missing.ensures.writes
