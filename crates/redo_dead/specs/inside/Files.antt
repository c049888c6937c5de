-- The files that a build needs no more, record by record.
use Rattle.std.specs.Prelude.{Bool, ℕ, List, Option, None, if◌then◌else◌}
use Rattle.redo_tree.specs.Tree.{Tree}
use Rattle.redo_book.specs.Book.{Record}
use Rattle.redo_clean.specs.Planned.{File, generated_file}

-- the file at a record's target, if it is generated and nothing is told of its path
abbrev pub dead_file : (List ℕ → Bool) → Tree → Record → Option File
dead_file told tree r = if told r.target then None else generated_file tree r
