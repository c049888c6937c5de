-- Records by the paths of their targets.
use Rattle.std.specs.Prelude.{◌≡◌, ℕ, List, Option}
use Rattle.std.specs.BTreeMap.{is_at}
use Rattle.std.specs.Cmp.Lexicographic.{slice_cmp}
use Rattle.std.specs.List.{AllByRecursion}
use Rattle.std.specs.Map.{lookup}
use Rattle.std.specs.Ordering.{nat_cmp}
use Rattle.redo_book.specs.Book.{IsRecord, Record}

-- the record at a path
abbrev pub found_at : List (List ℕ × Record) → List ℕ → Option Record
found_at entries p = lookup (is_at (slice_cmp nat_cmp p)) entries

-- each is the record of a target, at that path
abbrev pub AreFound : List (List ℕ × Record) → Type 0
AreFound entries = AllByRecursion (λ e. (e.1.target ≡ e.0) × IsRecord e.1) entries
