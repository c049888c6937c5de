use Rattle.std.proofs.Common.{◌≡◌, ◌∷◌, filter, map, take}
use Rattle.redo_book.specs.Book.{record_of, targets_of}
use Rattle.redo_past.specs.Past.{is_generated}
use Rattle.redo_which.specs.Candidates.{journal_path}
use Rattle.redo_mend.proofs.recovered.to_settle.Given as goal

-- the journal, and the targets of the first records
abbrev pub invariant-loop-made : goal.invariant-loop-made
invariant-loop-made l = l.paths.items ≡ journal_path ∷ targets_of (filter (is_generated l.tree) (map record_of (take l.made-index l.made-items)))
