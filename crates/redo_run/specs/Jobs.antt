-- Whose job a job is.
use Rattle.std.specs.Prelude.{◌≡◌, ℕ, List}
use Rattle.redo_rules.specs.Build.{GivenView}
use Rattle.redo_rules.specs.Results.{IsGiven}
use Rattle.redo_step.specs.Limits.{LimitsView}
use Rattle.redo_tree.specs.Tree.{Tree}

-- what a build of this tree, this request and these limits is given is this: by the tree's book and sources there is one
-- at most, and none only where its book is refused
abbrev pub IsWhatIsGiven : Tree → List (List ℕ) → LimitsView → GivenView → Type 0
IsWhatIsGiven tree request limits given = (other : GivenView) → IsGiven tree request limits other → given ≡ other
