use Rattle.std.proofs.Common.{◌++◌, ◌∙◌, ap, arith, sym}
use Rattle.std.proofs.lemmas.Grind.{common_steps}
use Rattle.redo_which.specs.inside.Slots.{slots_above, slots_by}
use Rattle.redo_which.proofs.SlotLemmas.{shorter-none}
use Rattle.redo_which.proofs.candidates.after_suffix.Goals as goal

pub returns-then-is_empty-clause-left : goal.returns-then-is_empty-clause-left
returns-then-is_empty-clause-left c =
    let name = c.args.name.now in
    let dir = c.args.dir.now in
    c.above.ensures.left ∙ ap (λ ends. slots_by ends dir ++ slots_above name dir) (sym (shorter-none c.args.suffix.now (grind (arith, common_steps))))
