use Rattle.std.proofs.Common.{◌≡◌, map, take}
use Rattle.redo_book.specs.Book.{record_of}
use Rattle.redo_query.specs.Names.{users}
use Rattle.redo_query.proofs.users.users.Given as goal

-- the targets of those of the records so far that name the path
abbrev pub invariant-loop-made : goal.invariant-loop-made
invariant-loop-made l =
    map (λ p. p.now) l.paths.items ≡ users (map record_of (take l.made-index l.made-items)) l.path
