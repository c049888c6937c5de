use Rattle.std.proofs.Common.{◌∙◌, ap, subst, sym}
use Rattle.std.proofs.lemmas.Map.Made.{keys_of-zip}
use Rattle.std.specs.Map.{keys_of}
use Rattle.redo_names.specs.Paths.{AreDistinct}
use Rattle.redo_names.proofs.map.PathMap.each_once.Goals as goal

pub returns : goal.returns
returns g c =
    subst AreDistinct (sym (keys_of-zip c.self.inside.paths c.self.inside.values.items (sym c.self.invariant.0)) ∙ ap keys_of c.self.view_is)
    c.self.invariant.1
