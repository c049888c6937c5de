use Rattle.std.proofs.Common.{◌≡◌, ◌<◌, ℕ, length, get_or, of_calls, rules}
use Rattle.redo_dir.specs.declared.looking.Name.{Name}
use Rattle.redo_dir.specs.inside.Levels.{IsLooked}
use Rattle.redo_dir.proofs.ListingLemmas.{all_each, map_each}
use Rattle.redo_dir.proofs.looking.look_by.Goals as goal

pub returns-clause-paths : goal.returns-clause-paths
returns-clause-paths g c =
    let each : (k : ℕ) (d : Name) → k < length c.args.names.now → (get_or c.for_each_mut.new.s k d).path ≡ (get_or c.args.names.now k d).path = search (rules, of_calls) in
    map_each (λ name. name.path) c.args.names.now c.for_each_mut.new.s (search rules) each

pub returns-clause-looked : goal.returns-clause-looked
returns-clause-looked g c =
    let looked = IsLooked (g.D.DirView.looks c.args.dir.now) (g.D.DirView.refuses c.args.dir.now) in
    let each : (k : ℕ) (d : Name) → k < length c.for_each_mut.new.s → looked (get_or c.for_each_mut.new.s k d) = search (rules, of_calls) in
    all_each looked c.for_each_mut.new.s each
