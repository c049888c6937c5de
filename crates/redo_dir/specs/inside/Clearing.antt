-- Files that are removed, one after another.
use Rattle.std.specs.Prelude.{◌≡◌, ◌-◌, ◌++◌, ℕ, List, Some, length, map, slice_get, take}
use Rattle.redo_dir.specs.declared.faults.StoreFault.{StoreFault}
use Rattle.redo_dir.specs.declared.unwritten.Unwritten.{Unwritten}
use Rattle.redo_dir.specs.Stored.{Removes, Step}
use Rattle.redo_dir.specs.inside.Batches.{BlamesCall, Refusals, fault_at}

-- The first files of a list were removed, and the one behind them wasn't. The fault tells how many steps were done behind
-- the first ones of the directory, so many.
pub record Leaves (told : Refusals) (paths : List (List ℕ)) (first : ℕ) (old new : List Step) (fault : StoreFault) : Type 0 where
  pub count : ℕ
  pub path : List ℕ
  pub there : slice_get paths count ≡ Some path
  pub removed : new ≡ old ++ map Removes (take count paths)
  pub why : Unwritten
  pub blames : BlamesCall told path why
  pub is : fault ≡ fault_at why (length new - first)
