use Rattle.std.proofs.Common.{◌≡◌, ◌++◌, ◌∷◌, map, take}
use Rattle.std.specs.Prelude.{filter_map}
use Rattle.redo_query.specs.Names.{path_in}
use Rattle.redo_query.proofs.users.add_names.Given as goal

-- behind the others stand the target and the paths of the entries so far
abbrev pub invariant-loop-entry : goal.invariant-loop-entry
invariant-loop-entry l =
    map (λ p. p.now) l.known.items ≡ map (λ p. p.now) l.fn.known.items ++ l.made.target ∷ filter_map path_in (take l.entry-index l.entry-items)
