use Rattle.std.proofs.Common.{◌≡◌, ◌++◌, ◌∷◌, [], rules}
use Rattle.redo_tree.proofs.PartingLemmas.{put-nodes}
use Rattle.redo_tree.proofs.parting.keep.Goals as goal

pub returns : goal.returns
returns c =
    let old = c.args.kept.now in
    let path = c.args.path.now in
    let entry = c.args.entry.now in
    let put : c.insert.new.self ≡ old ++ (path, entry) ∷ [] = search rules in
    put-nodes old c.insert.new.self path entry put
