use Rattle.std.proofs.Common.{◌<◌, ◌∙◌, ap, length, refl, subst, sym}
use Rattle.std.specs.Map.{lookup}
use Rattle.std.specs.Prelude.{bytes_eq}
use Rattle.std.proofs.lemmas.Option.{slice_get_read, slice_get_within}
use Rattle.redo_names.proofs.MapLemmas.{found-at, none-found}
use Rattle.redo_names.proofs.map.PathMap.get_by_text.Goals as goal

pub returns-in-Some : goal.returns-in-Some
returns-in-Some g c =
    let values = c.self.inside.values.items in
    let number = c.in-Some.number in
    let inside = subst (λ n. number < n) c.self.invariant.0 (slice_get_within c.self.inside.paths number c.args.text.now c.in-Some.ensures) in
    let value = slice_get_read values (length values) number c.index.result.now refl inside c.index.ensures in
    sym (found-at c.self.inside.paths values number c.args.text.now c.index.result.now c.self.invariant.1 c.in-Some.ensures value)
    ∙ ap (lookup (bytes_eq c.args.text.now)) c.self.view_is

pub returns-in-None : goal.returns-in-None
returns-in-None g c =
    sym (none-found c.self.inside.paths c.self.inside.values.items c.args.text.now c.in-None.ensures) ∙ ap (lookup (bytes_eq c.args.text.now)) c.self.view_is
