use Rattle.std.proofs.Common.{◌≡◌, ◌-◌, subst, arith, take, length, ◌<◌}
use Rattle.std.proofs.lemmas.Grind.{common_steps}
use Rattle.redo_path.specs.inside.Walking.{IsNameStart}
use Rattle.redo_path.proofs.PartLemmas.{up_from-start}
use Rattle.redo_path.proofs.words.leave.Goals as goal

pub returns : goal.returns
returns c =
    let text = c.args.text.now.items in
    let start = subst (λ t. IsNameStart t c.name_start.result) c.deref.ensures.value c.name_start.ensures in
    let some : 0 < length text = grind (arith, common_steps) in
    let cut : c.truncate.new.self.items ≡ take (c.name_start.result - 1) text = grind (arith, common_steps) in
    up_from-start text _ _ start c.requires some cut
