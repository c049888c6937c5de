use Rattle.std.proofs.Common.{◌∙◌, ap, cond, sym, []}
use Rattle.redo_which.specs.inside.Distinct.{distinct_places}
use Rattle.redo_which.proofs.SlotLemmas.{flat-whole}
use Rattle.redo_which.proofs.candidates.first_next.Goals as goal

pub returns-else-is_never_made-clause-left : goal.returns-else-is_never_made-clause-left
returns-else-is_never_made-clause-left c =
    let name = c.args.name.now in
    let dir = c.args.dir.now in
    flat-whole name dir ∙ ap (λ b. cond b [] (distinct_places dir name)) (sym (sym c.is_never_made.ensures ∙ c.if-is_never_made.false))
