-- Whether what a record tells of its target still stands.
use Rattle.std.specs.Prelude.{ℕ, Bool, List, Option}
use Rattle.std.specs.Option.{option_eq}
use Rattle.std.specs.Str.{bytes_eq}
use Rattle.redo_digest.specs.Digest.{state_of}
use Rattle.redo_book.specs.Book.{Record}

-- of files by their paths, the one at the record's target has the state that the record tells
abbrev pub is_intact : (List ℕ → Option (List ℕ)) → Record → Bool
is_intact file r = option_eq bytes_eq (state_of (file r.target)) r.state
