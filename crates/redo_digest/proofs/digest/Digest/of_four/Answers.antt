use Rattle.std.proofs.Common.{arith}
use Rattle.redo_digest.proofs.LaneLemmas.{below_four}
use Rattle.redo_digest.proofs.digest.Digest.of_four.Goals as goal

pub returns : goal.returns
returns c =
    let each = c.four_digests.ensures in
    below_four _ (each 0 (omega arith)) (each 1 (omega arith)) (each 2 (omega arith)) (each 3 (omega arith))
