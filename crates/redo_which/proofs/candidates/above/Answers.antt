use Rattle.std.proofs.Common.{◌∙◌, Some, sym}
use Rattle.redo_path.specs.Names.{name_of}
use Rattle.redo_which.proofs.SlotLemmas.{above-first, above-next}
use Rattle.redo_which.proofs.candidates.above.Goals as goal

pub returns-in-Some-clause-left : goal.returns-in-Some-clause-left
returns-in-Some-clause-left c =
    let name = c.args.name.now in
    let dir = c.args.dir.now in
    let up = c.in-Some.parent.now in
    sym (above-first name up) ∙ sym (above-next name dir (Some up) (name_of dir) c.in-Some.ensures.text c.in-Some.ensures.names)
