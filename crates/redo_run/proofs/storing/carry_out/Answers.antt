use Rattle.std.proofs.Common.{◌≡◌, ◌++◌, ℕ, List, rules, subst, Err, Ok, Result}
use Rattle.std.specs.Prelude.{IfErr}
use Rattle.std.specs.declared.io.ErrorKind.{ErrorKind}
use Rattle.redo_dir.specs.Stored.{Step}
use Rattle.redo_run.specs.declared.dir_fault.RunDirFault.{RunDirFault}
use Rattle.redo_run.specs.inside.Storing.{IsPart, StoresPart, steps_left, steps_new}
use Rattle.redo_run.proofs.StoringLemmas.{left_is_part, new_is_part}
use Rattle.redo_run.proofs.storing.carry_out.Goals as goal

pub returns-in_err-clear_left-clause-part : goal.returns-in_err-clear_left-clause-part
returns-in_err-clear_left-clause-part g c =
    let told : List ℕ → ErrorKind → Type 0 = λ path kind. (d : g.row.D.Denot) × g.D.DirView.refuses d path kind in
    let before = g.D.WorkDir.done c.args.dir.now in let after = g.D.WorkDir.done c.clear_left.new.dir in
    let left : List Step = steps_left c.args.plan.now in let new : List Step = steps_new c.args.tree.now c.args.plan.now in
    let fault = c.in_err-clear_left.field-0.0 in
    let result : Err fault ≡ c.from_residual.result = search rules in
    subst (λ r. IfErr r (IsPart told left new before after)) result (left_is_part told left new before after fault c.in_err-clear_left.ensures.part)

part_of : (told : List ℕ → ErrorKind → Type 0) (left new before mid after : List Step) (result : Result (Unit {0}) RunDirFault) → mid ≡ before ++ left → IfErr result (StoresPart told new mid after) → IfErr result (IsPart told left new before after)
part_of told left new before mid after (Ok x) m h = tt
part_of told left new before mid after (Err fault) m h = new_is_part told left new before mid after fault m h

pub returns-clause-part : goal.returns-clause-part
returns-clause-part g c =
    let told : List ℕ → ErrorKind → Type 0 = λ path kind. (d : g.row.D.Denot) × g.D.DirView.refuses d path kind in
    let done = g.D.WorkDir.done in
    part_of told (steps_left c.args.plan.now) (steps_new c.args.tree.now c.args.plan.now) (done c.args.dir.now) (done c.clear_left.new.dir) (done c.store.new.dir) c.store.result
    c.in_ok-clear_left.ensures.all c.store.ensures.part
