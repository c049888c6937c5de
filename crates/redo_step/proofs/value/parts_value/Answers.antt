use Rattle.std.proofs.Common.{◌≡◌, length, sym, subst, arith}
use Rattle.std.specs.Prelude.{IfOk}
use Rattle.redo_which.specs.Views.{arguments_view}
use Rattle.redo_step.specs.Setting.{value_in}
use Rattle.redo_step.specs.Value.{value_bound}
use Rattle.redo_step.proofs.ValueLemmas.{value_of_one}
use Rattle.redo_step.proofs.value.parts_value.Goals as goal

pub returns-in-len1 : goal.returns-in-len1
returns-in-len1 c =
    let one : length c.args.parts.now ≡ 1 = omega arith in
    let value = value_of_one (value_in (arguments_view c.args.args.now)) (value_bound c.args.bound.now) c.args.parts.now c.part-item.result one c.part-item.is in
    subst (λ v. IfOk c.part_value.result (λ value. value ≡ v)) (sym value) c.part_value.ensures
