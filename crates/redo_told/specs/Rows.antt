-- What is told of a row: the rule of its target, and whether its file has changed.
use Rattle.std.specs.Prelude.{Bool, false, ℕ, List, Option, Some, nat_eq, not, slice_get}
use Rattle.std.specs.Cmp.Lexicographic.{pointwise}
use Rattle.std.specs.Option.{option_eq, option_map_or}
use Rattle.redo_tree.specs.Tree.{Tree, file_at}
use Rattle.redo_record.specs.Answers.{file_in}
use Rattle.redo_record.specs.Progress.{changes}
use Rattle.redo_record.specs.declared.deps.Dep.{Dep}
use Rattle.redo_report.specs.declared.report.Row.{Row}

-- the path of the first change entry
abbrev pub first_change : List Dep → Option (List ℕ)
first_change deps = slice_get (changes deps) 0

-- the .do file that made a target or would: a search enters no other change
abbrev pub rule_in : List Dep → Option (List ℕ)
rule_in deps = first_change deps

-- the tree has a file with these bytes at the path
abbrev pub has_bytes : Tree → List ℕ → List ℕ → Bool
has_bytes tree path bytes = option_eq (pointwise nat_eq) (file_at tree path) (Some bytes)

-- the target was built with a file, and the tree that was read doesn't have it so
abbrev pub is_changed : Tree → Row → Bool
is_changed before row = option_map_or (λ bytes. not (has_bytes before row.path bytes)) (file_in row.outcome) false
