-- Candidates that were skipped.
use Rattle.std.specs.Prelude.{◌≡◌, ℕ, List, ◌++◌, false, flat_map, length}
use Rattle.std.specs.List.{AllByRecursion}
use Rattle.redo_tree.specs.Tree.{Tree}
use Rattle.redo_which.specs.declared.candidates.Next.{Next}
use Rattle.redo_which.specs.Candidates.{Place}
use Rattle.redo_which.specs.Rule.{is_file}
use Rattle.redo_which.specs.inside.Slots.{slots_left}

-- the first `count` of the old candidates are no files of the tree, and the new ones are the rest
pub record Passes (tree : Tree) (count : ℕ) (old new : List Place) : Type 0 where
  pub passed : List Place
  pub split : old ≡ passed ++ new
  pub count_is : count ≡ length passed
  pub no_files : AllByRecursion (λ p. is_file tree p.do_file ≡ false) passed

-- the candidates that are left for a name
abbrev pub places_left : List ℕ → Next → List Place
places_left name next = flat_map (λ places. places) (slots_left name next)
