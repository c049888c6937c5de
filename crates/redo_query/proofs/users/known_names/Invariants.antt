use Rattle.std.proofs.Common.{◌≡◌, map, take}
use Rattle.redo_book.specs.Book.{record_of}
use Rattle.redo_query.specs.Names.{known_names}
use Rattle.redo_query.proofs.users.known_names.Given as goal

-- the names of the records so far
abbrev pub invariant-loop-made : goal.invariant-loop-made
invariant-loop-made l =
    map (λ p. p.now) l.known.items ≡ known_names (map record_of (take l.made-index l.made-items))
