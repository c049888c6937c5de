use Rattle.redo_rings.proofs.WalkLemmas.{index-in}
use Rattle.std.proofs.Common.{slice_index_or}
use Rattle.redo_rings.proofs.finding.named.Goals as goal

pub at-requires : goal.at-requires
at-requires c =
    let ns = c.args.numbers.now in
    let i = c.loop-number.number-index in
    c.requires (slice_index_or ns i 0) (index-in ns i c.loop-number-test.true)
