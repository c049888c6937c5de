-- What the program knows of rows, as the definitions see it.
use Rattle.std.specs.Prelude.{ℕ, List, [], Option, Some, None, Vec, bytes_eq, map, slice_get}
use Rattle.std.specs.Map.{lookup}
use Rattle.std.specs.declared.alloc.Global.{Global}
use Rattle.redo_names.specs.Paths.{is_among}
use Rattle.redo_diagnose.specs.declared.diagnosis.Diagnosis.{Diagnosis}
use Rattle.redo_page.specs.Pages.{Known}
use Rattle.redo_page.specs.inside.Whys.{whys_by}
use Rattle.redo_page.specs.declared.links.Links.{Links}

-- the targets of diagnoses
abbrev pub targets_of : List Diagnosis → List (List ℕ)
targets_of ds = map (λ d. d.target) ds

-- the number of a path
abbrev pub number_in : List (List ℕ × ℕ) → List ℕ → Option ℕ
number_in numbers path = lookup (bytes_eq path) numbers

-- the numbers in a list, if there is one
abbrev pub numbers_in : Option (Vec ℕ Global) → List ℕ
numbers_in None = []
numbers_in (Some list) = list.items

-- the numbers in the list at a place
abbrev pub users_at : List (Vec ℕ Global) → ℕ → List ℕ
users_at users n = numbers_in (slice_get users n)

abbrev pub known_by : Links → Known
known_by links = record {
  row_of = number_in links.numbers;
  users = users_at links.users.items;
  is_told = λ path. is_among links.diagnosed path;
  why = whys_by links.whys.now;
  is_changed = λ path. is_among links.changed path;
}
