use Rattle.std.proofs.Common.{◌⊎◌, ℕ, List, map}
use Rattle.redo_book.specs.Book.{record_of}
use Rattle.redo_names.specs.Paths.{IsAmong}
use Rattle.redo_query.specs.Names.{users}
use Rattle.redo_query.proofs.needing.note_users.Given as goal

-- what is new names the path
abbrev pub invariant-loop-number : goal.invariant-loop-number
invariant-loop-number l =
    (target : List ℕ) → IsAmong l.found target → IsAmong l.fn.found target ⊎ IsAmong (users (map record_of l.records) l.path) target
