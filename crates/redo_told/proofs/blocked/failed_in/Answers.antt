use Rattle.std.proofs.Common.{◌≡◌, ◌∙◌, flat_map, rules}
use Rattle.redo_names.specs.Paths.{is_among}
use Rattle.redo_told.proofs.BlockedLemmas.{by-entry}
use Rattle.redo_told.specs.inside.Steps.{blocker}
use Rattle.redo_told.proofs.blocked.failed_in.Goals as goal

pub returns : goal.returns
returns c =
    let failed = is_among c.args.failed.now in
    let deps = c.args.deps.now in
    let made : c.in_ok-paths.paths.items ≡ flat_map (blocker failed) deps = search rules in
    made ∙ by-entry failed deps
