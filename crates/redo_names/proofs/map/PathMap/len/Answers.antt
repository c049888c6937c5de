use Rattle.std.proofs.Common.{◌∙◌, ap, length, sym}
use Rattle.redo_names.proofs.MapLemmas.{length-zip}
use Rattle.redo_names.proofs.map.PathMap.len.Goals as goal

pub returns-clause-count : goal.returns-clause-count
returns-clause-count g c =
    c.len.ensures.count ∙ c.self.invariant.0 ∙ sym (length-zip c.self.inside.paths c.self.inside.values.items c.self.invariant.0) ∙ ap length c.self.view_is
