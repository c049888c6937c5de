-- How a word is followed part by part, and where the last name of a text begins.
use Rattle.std.specs.Prelude.{◌≡◌, ◌≢◌, ◌<◌, ◌≤◌, ◌-◌, ℕ, List, length, slice_index, Result, Ok, Err}
use Rattle.redo_path.specs.declared.PathFault.{PathFault}
use Rattle.redo_path.specs.declared.PathFault.TheVariants.{Memory}

-- where the last name of a text begins: behind its last slash, or at the front
pub record IsNameStart (text : List ℕ) (start : ℕ) : Type 0 where
  pub within : start ≤ length text
  pub slash_before : 0 < start → slice_index text (start - 1) ≡ 47
  pub no_slash_after : (k : ℕ) → start ≤ k → k < length text → slice_index text k ≢ 47

-- a step was made, and led to these names, unless memory ran out
abbrev pub Leads : {A : Type 0} → Result A PathFault → List (List ℕ) → Result (List (List ℕ)) PathFault → Type 0
Leads (Ok x) to meant = meant ≡ Ok to
Leads (Err Memory) to meant = Unit {0}
Leads (Err fault) to meant = meant ≡ Err fault
