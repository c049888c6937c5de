use Rattle.std.proofs.Common.{◌≡◌, rules, length, ◌∙◌}
use Rattle.std.proofs.lemmas.List.{take_at}
use Rattle.redo_dir.proofs.FailLemmas.{stopped_names}
use Rattle.redo_dir.proofs.LevelLemmas.{kept_length}
use Rattle.redo_dir.proofs.listing.Walk.enter_level.Goals as goal

pub returns-clause-refused : goal.returns-clause-refused
returns-clause-refused g c =
    let names = c.deref_mut.result.now in
    let looked = c.look_by.new.names in
    let len : length names ≡ c.replace-names.result.len = search rules in
    let written = take_at looked _ c.replace-names.result.len (kept_length names looked c.look_by.ensures.paths ∙ len) in
    stopped_names (g.D.DirView.looks c.args.work.now) (g.D.DirView.refuses c.args.work.now) _ looked c.receive_names.result
    written c.look_by.ensures.looked c.receive_names.ensures.stops
