use Rattle.std.proofs.Common.{◌≡◌, ℕ, List, [], ap, subst, sym}
use Rattle.std.specs.Option.{option_map_or}
use Rattle.std.specs.declared.io.ErrorKind.{ErrorKind}
use Rattle.redo_dir.specs.Stored.{Step}
use Rattle.redo_dir.specs.Storing.{steps_to_clear}
use Rattle.redo_run.specs.DirFaults.{of_left}
use Rattle.redo_run.specs.inside.Storing.{LeavesPart, steps_left}
use Rattle.redo_run.proofs.StoringLemmas.{left_part}
use Rattle.redo_run.proofs.storing.clear_left.Goals as goal

pub returns-in-Err-clause-part : goal.returns-in-Err-clause-part
returns-in-Err-clause-part g c =
    let told : List ℕ → ErrorKind → Type 0 = λ path kind. (d : g.row.D.Denot) × g.D.DirView.refuses d path kind in
    let before = g.D.WorkDir.done c.args.dir.now in let after = g.D.WorkDir.done c.clear.new.dir in
    let plan = c.args.plan.now in let left = c.in-Some.left in
    let steps : List Step = steps_to_clear plan.over left.book left.own.items in
    let same : steps ≡ steps_left plan = ap (λ l. option_map_or (λ left. steps_to_clear plan.over left.book left.own.items) l []) (sym c.in-Some.is) in
    let part = left_part told plan.over left.book left.own.items before after c.in-Err.fault c.in-Err.ensures.done c.in-Err.ensures.refused in
    subst (LeavesPart told (steps_left plan) before after) (sym c.of_left.ensures) (subst (λ ss. LeavesPart told ss before after (of_left c.in-Err.fault)) same part)
