use Rattle.std.proofs.Common.{◌≡◌, map, take}
use Rattle.std.specs.Prelude.{filter_map}
use Rattle.redo_book.specs.Book.{record_of}
use Rattle.redo_clean.specs.Planned.{generated_file}
use Rattle.redo_clean.proofs.planning.files_of.Given as goal

-- the generated files of the records so far
abbrev pub invariant-loop-made : goal.invariant-loop-made
invariant-loop-made l =
    l.files.items ≡ filter_map (generated_file l.past.tree) (map record_of (take l.made-index l.made-items))
