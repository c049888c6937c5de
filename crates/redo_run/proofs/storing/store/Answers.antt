use Rattle.std.proofs.Common.{◌≡◌, ℕ, List, [], ap, subst, sym}
use Rattle.std.specs.Option.{option_map_or}
use Rattle.std.specs.declared.io.ErrorKind.{ErrorKind}
use Rattle.redo_dir.specs.Stored.{Step}
use Rattle.redo_dir.specs.Storing.{steps_to_store}
use Rattle.redo_run.specs.DirFaults.{of_journal_fault}
use Rattle.redo_run.specs.inside.Storing.{StoresPart, steps_new}
use Rattle.redo_run.proofs.StoringLemmas.{stores_part}
use Rattle.redo_run.proofs.storing.store.Goals as goal

pub returns-in-Err-clause-part : goal.returns-in-Err-clause-part
returns-in-Err-clause-part g c =
    let told : List ℕ → ErrorKind → Type 0 = λ path kind. (d : g.row.D.Denot) × g.D.DirView.refuses d path kind in
    let before = g.D.WorkDir.done c.args.dir.now in let after = g.D.WorkDir.done c.store_by_journal.new.dir in
    let tree = c.args.tree.now in let plan = c.args.plan.now in let new = c.in-Some.new in
    let steps : List Step = steps_to_store tree new.book new.files.items in
    let same : steps ≡ steps_new tree plan = ap (λ n. option_map_or (λ new. steps_to_store tree new.book new.files.items) n []) (sym c.in-Some.is) in
    let part = stores_part told tree new.book new.files.items before after c.in-Err.fault c.in-Err.ensures.text c.in-Err.ensures.done c.in-Err.ensures.refused in
    subst (StoresPart told (steps_new tree plan) before after) (sym c.from.ensures) (subst (λ ss. StoresPart told ss before after (of_journal_fault c.in-Err.fault)) same part)
