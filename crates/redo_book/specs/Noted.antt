-- The record that a book has of a target that was built.
use Rattle.std.specs.Prelude.{ℕ, Bool, true, false, List, [], ◌∷◌, Option, map, not}
use Rattle.redo_digest.specs.Digest.{State, state_of}
use Rattle.redo_record.specs.declared.deps.Dep.{Dep}
use Rattle.redo_record.specs.declared.deps.DepKind.{DepKind}
use Rattle.redo_record.specs.declared.deps.DepKind.TheVariants as kinds
use Rattle.redo_book.specs.declared.book.BookEntry.{BookEntry}
use Rattle.redo_book.specs.declared.book.BookEntry.TheVariants.{Change, Create, Always}
use Rattle.redo_book.specs.Book.{Record}

-- the path is that of the top directory
abbrev pub is_top : List ℕ → Bool
is_top [] = true
is_top (byte ∷ bytes) = false

-- a book can have an entry of this kind and path: a `change` and a `create` are of a path below the top directory, and
-- an `always` has none
abbrev pub is_notable : DepKind → List ℕ → Bool
is_notable kinds.Change path = not (is_top path)
is_notable kinds.Create path = not (is_top path)
is_notable kinds.Always path = is_top path

-- the entry of this kind and path, where paths have these states
abbrev pub entry_as : (List ℕ → State) → DepKind → List ℕ → BookEntry
entry_as states kinds.Change path = Change (states path) path
entry_as states kinds.Create path = Create path
entry_as states kinds.Always path = Always

-- entries as a book has them, where paths have these states
abbrev pub noted : (List ℕ → State) → List Dep → List BookEntry
noted states deps = map (λ d. entry_as states d.kind d.path) deps

-- the record of a target that was built with this file, or with none, and with these entries
abbrev pub new_record : (List ℕ → State) → List ℕ → Option (List ℕ) → List Dep → Record
new_record states target file deps =
    record { target = target; state = state_of file; entries = noted states deps }
