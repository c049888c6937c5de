use Rattle.std.proofs.Common.{rules, ◌≡◌, true}
use Rattle.redo_dir.specs.Loaded.{is_one_name}
use Rattle.redo_dir.proofs.EntryNameLemmas.{named_at, named_stands}
use Rattle.redo_dir.proofs.places.place_of.Goals as goal

pub returns-in-Ok : goal.returns-in-Ok
returns-in-Ok c =
    let one : is_one_name c.args.name.now ≡ true = search rules in
    (named_stands c.args.dir.now c.args.name.now c.in-Ok.path one c.in-Ok.ensures, named_at c.args.dir.now c.args.name.now c.in-Ok.path one c.in-Ok.ensures)
