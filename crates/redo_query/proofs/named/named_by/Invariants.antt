use Rattle.std.proofs.Common.{◌≡◌, ℕ, List, map, take}
use Rattle.std.specs.List.{list_any}
use Rattle.redo_names.specs.Paths.{is_among}
use Rattle.redo_book.specs.Book.{record_of}
use Rattle.redo_query.specs.Names.{names}
use Rattle.redo_query.proofs.named.named_by.Given as goal

-- the paths that the records so far name
abbrev pub invariant-loop-made : goal.invariant-loop-made
invariant-loop-made l =
    (path : List ℕ) → is_among l.named path ≡ list_any (names path) (map (λ made. record_of made.now) (take l.made-index l.records))
