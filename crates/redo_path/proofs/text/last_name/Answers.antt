use Rattle.std.proofs.Common.{arith, ◌≡◌, ◌∙◌, ◌-◌, sym, take, drop, length}
use Rattle.std.proofs.lemmas.Grind.{common_steps}
use Rattle.redo_path.proofs.PartLemmas.{name_of-start}
use Rattle.redo_path.proofs.text.last_name.Goals as goal

pub returns : goal.returns
returns c =
    let text = c.args.text.now in
    let start = c.name_start.result in
    let rest : take (length text - start) (drop start text) ≡ drop start text = grind (arith, common_steps) in
    rest ∙ sym (name_of-start text _ c.name_start.ensures)
