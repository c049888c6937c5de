use Rattle.std.proofs.Common.{◌≡◌, map, take}
use Rattle.std.specs.Prelude.{filter_map}
use Rattle.redo_names.specs.Paths.{is_among}
use Rattle.redo_book.specs.Book.{record_of}
use Rattle.redo_dead.specs.inside.Files.{dead_file}
use Rattle.redo_dead.proofs.dead.untold.Given as goal

-- the files of the records so far that are generated and aren't told of
abbrev pub invariant-loop-made : goal.invariant-loop-made
invariant-loop-made l =
    l.dead.items ≡ filter_map (dead_file (is_among l.told) l.past.tree) (map record_of (take l.made-index l.made-items))
