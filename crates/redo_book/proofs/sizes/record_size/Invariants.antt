use Rattle.std.proofs.Common.{◌≡◌, ◌∷◌, length, map, take}
use Rattle.redo_book.specs.Book.{entry_line, target_line, text_of}
use Rattle.redo_book.proofs.sizes.record_size.Given as goal

-- the sizes of the target's line and of those of the entries so far
abbrev pub invariant-loop-entry : goal.invariant-loop-entry
invariant-loop-entry l =
    l.size ≡ length (text_of (target_line l.record.state l.record.target ∷ map entry_line (take l.entry-index l.record.entries.items)))
