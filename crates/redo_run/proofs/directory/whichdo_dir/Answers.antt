use Rattle.std.proofs.Common.{◌∙◌}
use Rattle.redo_which.specs.Views.{place_of}
use Rattle.redo_run.proofs.CandidateLemmas.{lists_names}
use Rattle.redo_run.proofs.ToldLemmas.{listed}
use Rattle.redo_run.proofs.directory.whichdo_dir.Goals as goal

pub returns-clause-list : goal.returns-clause-list
returns-clause-list g c =
    let names = c.in_ok-names.names in
    let made = c.deref.ensures.value ∙ c.in_ok-text.ensures ∙ listed names c.args.target.now c.in_ok-found.found c.in_ok-found.ensures.missing c.in_ok-found.ensures.chosen in
    lists_names names c.args.target.now place_of c.in_ok-found.found.chosen (g.D.DirView.lists c.args.dir.now) (g.D.DirView.looks c.args.dir.now)
    _ _ _ _ _ c.in_ok-names.ensures.named made c.in_ok-write_all.ensures.writes c.in_ok-found.ensures.chosen c.is_some.ensures
