-- A tree that is written as a bundle.
use Rattle.std.specs.Prelude.{◌≡◌, ◌<◌, ◌^◌, ℕ, List, Some, Result, Ok, Err, length}
use Rattle.std.specs.Io.KnownBytes.{Appends}
use Rattle.std.specs.Prelude.{Option}
use Rattle.redo_tree.specs.Tree.{Tree, file_at}
use Rattle.redo_bundle.specs.Bundle.{IsBundle, bundle_of}
use Rattle.redo_pack.specs.declared.faults.PackFault.{PackFault}
use Rattle.redo_pack.specs.declared.faults.PackFault.TheVariants.{TooLarge, Device, Memory}

-- the file at this path has more bytes than a bundle allows
abbrev pub IsTooLarge : Tree → List ℕ → Type 0
IsTooLarge tree path = (bytes : List ℕ) × (file_at tree path ≡ Some bytes) × (2 ^ 30 < length bytes)

-- the writer took the tree's bundle, which reads back as the tree
pub record Packs (tree : Tree) (old new : Option (List ℕ)) : Type 0 where
  pub written : Appends old new (bundle_of tree)
  pub readable : IsBundle (bundle_of tree) tree

-- why a tree has no bundle: the file at this path is too large
abbrev pub IsUnpacked : Tree → PackFault → Type 0
IsUnpacked tree (TooLarge path) = IsTooLarge tree path
IsUnpacked tree Device = Unit {0}
IsUnpacked tree Memory = Unit {0}

-- a file that is too large is told before anything is written
abbrev pub IsUntouched : {W : Type 0} → Result (Unit {0}) PackFault → W → W → Type 0
IsUntouched (Ok x) old new = Unit {0}
IsUntouched (Err (TooLarge path)) old new = new ≡ old
IsUntouched (Err Device) old new = Unit {0}
IsUntouched (Err Memory) old new = Unit {0}
