-- Paths by number, as the definitions see them.
use Rattle.std.specs.Prelude.{◌≡◌, ℕ, List}
use Rattle.redo_page.specs.Data.{HasNumber, Numbers, number_of}
use Rattle.redo_page.specs.inside.Links.{known_by}
use Rattle.redo_page.specs.declared.named.Named.{Named}

-- the numbers of paths, with these heights and groups
abbrev pub numbers_with : Named → (ℕ → ℕ) → (ℕ → ℕ) → Numbers
numbers_with named height group = record { others = named.others; height = height; group = group }

-- the same without
abbrev pub numbers_by : Named → Numbers
numbers_by named = numbers_with named (λ _. 0) (λ _. 0)

-- the number of a path
abbrev pub number_by : Named → List ℕ → ℕ
number_by named path = number_of (known_by named.links.now) (numbers_by named) path

-- a path has a number
abbrev pub IsEntered : Named → List ℕ → Type 0
IsEntered named path = HasNumber (known_by named.links.now) (numbers_by named) path

-- the numbers of the same rows, with none lost
pub record Keeps (old new : Named) : Type 0 where
  pub links : new.links ≡ old.links
  pub count : new.count ≡ old.count
  pub entered : (path : List ℕ) → IsEntered old path → IsEntered new path
