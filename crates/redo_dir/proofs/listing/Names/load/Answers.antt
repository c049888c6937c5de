use Rattle.std.proofs.Common.{◌≡◌, List, rules, subst, sym}
use Rattle.redo_dir.specs.declared.contents.Place.{Place}
use Rattle.redo_dir.specs.Loaded.{IsListed, found_in}
use Rattle.redo_dir.proofs.listing.Names.load.Goals as goal

pub returns-clause-fault : goal.returns-clause-fault
returns-clause-fault g c =
    let names = c.args.self.now in let dir = c.args.dir.now in
    let same : c.deref_mut.result.now ≡ names.found.items = search rules in
    c.tree_with.ensures.fault names.passed
    (subst (λ (ps : List Place). IsListed (g.D.DirView.lists dir) (g.D.DirView.looks dir) (found_in ps) names.passed)
    (sym same) c.requires.names.0)
