use Rattle.redo_alike.proofs.known.all_known.Goals as goal

pub unreachable-requires : goal.unreachable-requires
unreachable-requires c =
    let found = c.requires c.loop-one.one-index c.loop-one-test.true in
    c.in_default.not-Some found.0 found.1
