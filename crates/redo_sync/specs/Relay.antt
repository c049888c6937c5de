-- A relay in contracts: its two ends and its ledger, and how jobs are shared out.
use Rattle.std.specs.Prelude.{◌≡◌, ℕ, ◌+◌, List, [], ◌∷◌, ◌++◌, Bool}
use Rattle.std.specs.List.{count_by}
use Rattle.std.specs.declared.alloc.Global.{Global}
use Rattle.redo_path.specs.declared.Path.{Path}

-- a job's number: its target and its turn
abbrev pub Pair : Type 0
Pair = Path × ℕ

-- each number occurs as often in what was given as in what was taken and what is left together
abbrev pub SharesOut : List Pair → List Pair → List Pair → Type 0
SharesOut given taken left = (p : Pair → Bool) → count_by p given ≡ count_by p taken + count_by p left

-- the name of a relay
abbrev pub RelayId : Type 0
RelayId = (ℕ × ℕ) × Global

-- a source: its relay, how many takers the relay has, and the numbers of the jobs it gave
pub record Source : Type 0 where
  pub relay : RelayId
  pub takers : ℕ
  pub given : List Pair

-- a taker: its relay, and the numbers of the jobs it took
pub record Taker : Type 0 where
  pub relay : RelayId
  pub taken : List Pair

-- a ledger: the numbers of the jobs given, of those taken, and of those left
pub record Shares : Type 0 where
  pub given : List Pair
  pub taken : List Pair
  pub left : List Pair

-- what several takers took, one taker after another
abbrev pub taken_by : List Taker → List Pair
taken_by [] = []
taken_by (t ∷ ts) = t.taken ++ taken_by ts
