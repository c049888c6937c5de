use Rattle.std.proofs.Common.{◌≡◌, Err, rules, subst}
use Rattle.std.specs.Prelude.{IfErr}
use Rattle.redo_dir.specs.Loaded.{IsUnloaded, Leads, ReadIf, found_in, wants}
use Rattle.redo_dir.proofs.FailLemmas.{refused_load}
use Rattle.redo_dir.proofs.LoadLemmas.{loads, loads_not, loads_text, unread}
use Rattle.redo_dir.proofs.loading.tree_with.Goals as goal

-- the files that are wanted were read, and what was found makes a tree
pub returns-clause-loaded : goal.returns-clause-loaded
returns-clause-loaded g c passed l =
    let dir = c.args.dir.now in
    loads (g.D.DirView.lists dir) (g.D.DirView.looks dir) (g.D.DirView.reads dir) (g.D.DirView.refuses dir)
    (wants c.args.reading.wanted.now) (found_in c.args.places.now) passed l c.fill_by.new.places c.fill_by.ensures.found
    c.fill_by.ensures.filled c.tree_of.result c.in_ok-check_read.ensures.all c.tree_of.ensures.made

pub returns-clause-text : goal.returns-clause-text
returns-clause-text g c h =
    loads_text c.fill_by.new.places (found_in c.args.places.now) c.tree_of.result c.fill_by.ensures.found h c.tree_of.ensures.made

-- or it makes none
pub returns-clause-fault : goal.returns-clause-fault
returns-clause-fault g c passed l =
    let dir = c.args.dir.now in
    loads_not (g.D.DirView.lists dir) (g.D.DirView.looks dir) (g.D.DirView.reads dir) (g.D.DirView.refuses dir)
    (wants c.args.reading.wanted.now) (found_in c.args.places.now) passed l c.fill_by.new.places c.fill_by.ensures.found
    c.fill_by.ensures.filled c.tree_of.result c.in_ok-check_read.ensures.all c.tree_of.ensures.none

-- or a file was refused
pub returns-in_err-check_read-clause-fault : goal.returns-in_err-check_read-clause-fault
returns-in_err-check_read-clause-fault g c passed l =
    let dir = c.args.dir.now in
    let leads = Leads (g.D.DirView.looks dir) (ReadIf (wants c.args.reading.wanted.now) (g.D.DirView.reads dir)) in
    let fault = c.in_err-check_read.field-0.0 in
    let told : Err fault ≡ c.from_residual.result = search rules in
    subst (λ r. IfErr r (IsUnloaded (g.D.DirView.lists dir) leads (g.D.DirView.refuses dir))) told
    (refused_load (g.D.DirView.lists dir) leads (g.D.DirView.refuses dir) fault
    (unread (wants c.args.reading.wanted.now) (g.D.DirView.reads dir) (g.D.DirView.refuses dir) c.fill_by.new.places fault
    c.fill_by.ensures.filled c.in_err-check_read.ensures.refused))
