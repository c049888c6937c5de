use Rattle.std.proofs.Common.{◌≡◌, ◌<◌, ℕ, length, get_or, of_calls, rules}
use Rattle.redo_dir.specs.declared.contents.Place.{Place}
use Rattle.redo_dir.specs.Loaded.{found_at, wants}
use Rattle.redo_dir.specs.inside.Contents.{IsFilled}
use Rattle.redo_dir.proofs.ListingLemmas.{all_each, map_each}
use Rattle.redo_dir.proofs.contents.fill_by.Goals as goal

pub returns-clause-found : goal.returns-clause-found
returns-clause-found g c =
    let each : (k : ℕ) (d : Place) → k < length c.args.places.now → found_at (get_or c.for_each_mut.new.s k d) ≡ found_at (get_or c.args.places.now k d) = search (rules, of_calls) in
    map_each found_at c.args.places.now c.for_each_mut.new.s (search rules) each

pub returns-clause-filled : goal.returns-clause-filled
returns-clause-filled g c =
    let filled = IsFilled (wants c.args.reading.wanted.now) (g.D.DirView.reads c.args.dir.now) (g.D.DirView.refuses c.args.dir.now) in
    let each : (k : ℕ) (d : Place) → k < length c.for_each_mut.new.s → filled (get_or c.for_each_mut.new.s k d) = search (rules, of_calls) in
    all_each filled c.for_each_mut.new.s each
