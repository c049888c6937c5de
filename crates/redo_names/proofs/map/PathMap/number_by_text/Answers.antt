use Rattle.std.proofs.Common.{◌≡◌, ◌<◌, ◌∙◌, ap, length, subst, slice_get}
use Rattle.std.specs.Map.{lookup}
use Rattle.std.specs.Prelude.{bytes_eq, is_some, option_map, IfSome}
use Rattle.redo_names.proofs.MapLemmas.{told-found, told-value, told-within}
use Rattle.redo_names.proofs.map.PathMap.number_by_text.Goals as goal

pub returns-clause-found : goal.returns-clause-found
returns-clause-found g c =
    told-found c.self.inside.paths c.self.inside.values.items c.args.text.now c.number_by_text.result c.self.invariant.0 c.self.invariant.1 c.number_by_text.ensures
    ∙ ap (λ es. is_some (lookup (bytes_eq c.args.text.now) es)) c.self.view_is

pub returns-clause-within : goal.returns-clause-within
returns-clause-within g c =
    subst (λ es. IfSome c.number_by_text.result (λ n. n < length es)) c.self.view_is
    (told-within c.self.inside.paths c.self.inside.values.items c.args.text.now c.number_by_text.result c.self.invariant.0 c.number_by_text.ensures)

pub returns-clause-value : goal.returns-clause-value
returns-clause-value g c =
    subst (λ es. IfSome c.number_by_text.result (λ n. option_map (λ e. e.1) (slice_get es n) ≡ lookup (bytes_eq c.args.text.now) es)) c.self.view_is
    (told-value c.self.inside.paths c.self.inside.values.items c.args.text.now c.number_by_text.result c.self.invariant.0 c.self.invariant.1 c.number_by_text.ensures)
