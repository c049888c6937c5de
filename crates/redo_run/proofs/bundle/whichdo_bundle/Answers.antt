use Rattle.std.proofs.Common.{◌∙◌, Bool}
use Rattle.std.proofs.lemmas.Result.{err_from_is_err_and}
use Rattle.redo_which.specs.Views.{place_of}
use Rattle.redo_run.proofs.ToldLemmas.{explains_list, listed, lists}
use Rattle.redo_run.proofs.bundle.whichdo_bundle.Goals as goal

pub returns-in_err-write_all-clause-fault : goal.returns-in_err-write_all-clause-fault
returns-in_err-write_all-clause-fault g c =
    let p = err_from_is_err_and c.from_residual-in_err-write_all.result c.from_residual-in_err-write_all.ensures.1 in
    let made = c.deref.ensures.value ∙ c.in_ok-text.ensures ∙ listed c.in_ok-tree.tree c.args.target.now c.in_ok-found.found c.in_ok-found.ensures.missing c.in_ok-found.ensures.chosen in
    rw (p.1, p.2) (explains_list c.in_ok-tree.tree c.args.target.now Bool c.in_err-write_all.field-0.0 _ _ _ _ c.in_ok-tree.ensures.reads made c.in_err-write_all.ensures.writes)

pub returns-clause-list : goal.returns-clause-list
returns-clause-list g c =
    let made = c.deref.ensures.value ∙ c.in_ok-text.ensures ∙ listed c.in_ok-tree.tree c.args.target.now c.in_ok-found.found c.in_ok-found.ensures.missing c.in_ok-found.ensures.chosen in
    lists c.in_ok-tree.tree c.args.target.now place_of c.in_ok-found.found.chosen _ _ _ _ _ c.in_ok-tree.ensures.reads made c.in_ok-write_all.ensures.writes
    c.in_ok-found.ensures.chosen c.is_some.ensures
