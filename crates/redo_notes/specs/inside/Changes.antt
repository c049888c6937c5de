-- Change entries.
use Rattle.std.specs.Prelude.{Bool, false, ℕ, List}
use Rattle.std.specs.Option.{option_map_or}
use Rattle.std.specs.Str.{bytes_eq}
use Rattle.redo_record.specs.Progress.{changed}
use Rattle.redo_record.specs.declared.deps.Dep.{Dep}

-- it is a change entry with this path
abbrev pub is_change_of : List ℕ → Dep → Bool
is_change_of path d = option_map_or (λ p. bytes_eq p path) (changed d.kind d.path) false
