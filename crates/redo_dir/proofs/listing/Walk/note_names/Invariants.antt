use Rattle.std.specs.List.{FoldsTo}
use Rattle.redo_dir.specs.Loaded.{names_in}
use Rattle.redo_dir.specs.inside.Levels.{Notes, progress}
use Rattle.redo_dir.proofs.listing.Walk.note_names.Given as goal

-- the names so far were noted
abbrev pub invariant-names : goal.invariant-names
invariant-names l = FoldsTo (Notes l.dir) (progress l.fn.self) (names_in l.yielded) (progress l.self)
