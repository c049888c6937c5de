-- When the entries of a run agree with another tree and other answers, for the same script.
use Rattle.std.specs.Prelude.{◌≡◌, ℕ, zero, true, false, List, [], ◌∷◌, Option, Some, None}
use Rattle.redo_record.specs.Answers.{Ask}
use Rattle.redo_record.specs.Entries.{is_entered}
use Rattle.redo_record.specs.Paths.{Path}
use Rattle.redo_record.specs.declared.deps.Dep.{Dep}
use Rattle.redo_record.specs.declared.deps.DepKind.{DepKind}
use Rattle.redo_record.specs.declared.deps.DepKind.TheVariants as kinds
use Rattle.redo_record.specs.declared.outcome.Outcome.{Outcome}
use Rattle.redo_record.specs.declared.outcome.Outcome.TheVariants as outcomes
use Rattle.redo_step.specs.Runs.{Run, exited, faulted, stopped, goes, ends}
use Rattle.redo_step.specs.Setting.{Setting}

-- the same target, rule, limit and turns of loops: only the trees may differ
pub record AreAlike (one two : Setting) : Type 0 where
  pub target : one.target ≡ two.target
  pub directory : one.directory ≡ two.directory
  pub stands_for : one.stands_for ≡ two.stands_for
  pub third : one.third ≡ two.third
  pub limit : one.limit ≡ two.limit
  pub bound : one.bound ≡ two.bound

-- what a path holds, by its source and its answer: a file or no file; unknown if it failed or has no answer
abbrev pub held_in : Option (List ℕ) → Option Outcome → Option (Option (List ℕ))
held_in (Some bytes) answer = Some (Some bytes)
held_in None None = None
held_in None (Some outcomes.Source) = Some None
held_in None (Some (outcomes.Built file)) = Some file
held_in None (Some (outcomes.Failed w)) = None
held_in None (Some outcomes.Cyclic) = None

-- what a path holds in a tree, given these answers
abbrev pub held : Setting → Ask → Path → Option (Option (List ℕ))
held setting ask p = held_in (setting.source p) (ask p)

-- nothing is there, and no rule makes anything there
pub record IsFree (setting : Setting) (p : Path) : Type 0 where
  pub no_source : setting.source p ≡ None
  pub no_directory : setting.is_directory p ≡ false
  pub no_rule : setting.has_rule p ≡ false

-- an entry is met if its path is as declared: it is known what a `change` holds, and a `create` is free
abbrev pub IsMet : Setting → Ask → DepKind → Path → Type 0
IsMet setting ask kinds.Change p = (content : Option (List ℕ)) × (held setting ask p ≡ Some content)
IsMet setting ask kinds.Create p = IsFree setting p
IsMet setting ask kinds.Always p = Unit {0}

-- each of these entries is met
pub record AllMet (setting : Setting) (ask : Ask) (entries : List Dep) : Type 0 where
  pub met : (kind : DepKind) (p : Path) → is_entered entries kind p ≡ true → IsMet setting ask kind p

-- an entry of a run in the first tree agrees with the second: a `change` holds the same in both, and a `create` is free
-- in the second
abbrev pub Agrees : Setting → Ask → Setting → Ask → DepKind → Path → Type 0
Agrees one a two b kinds.Change p =
    (content : Option (List ℕ)) × (held one a p ≡ Some content) × (held two b p ≡ Some content)
Agrees one a two b kinds.Create p = IsFree two p
Agrees one a two b kinds.Always p = Unit {0}

-- each of these entries agrees
pub record AllAgree (one : Setting) (a : Ask) (two : Setting) (b : Ask) (entries : List Dep) : Type 0 where
  pub agree : (kind : DepKind) (p : Path) → is_entered entries kind p ≡ true → Agrees one a two b kind p

-- a `change` is among these entries too
abbrev pub IsDeclared : List Dep → DepKind → Path → Type 0
IsDeclared others kinds.Change p = is_entered others kinds.Change p ≡ true
IsDeclared others kinds.Create p = Unit {0}
IsDeclared others kinds.Always p = Unit {0}

-- Up to the first of these entries that doesn't agree, each operand of redo-ifchange is one among the others too.
abbrev pub IsFollowed : Setting → Ask → Setting → Ask → (others entries : List Dep) → Type 0
IsFollowed one a two b others [] = Unit {0}
IsFollowed one a two b others (e ∷ es) =
    IsDeclared others e.kind e.path × (Agrees one a two b e.kind e.path → IsFollowed one a two b others es)

-- the status that a run ended with, if it ended with one
abbrev pub status_of : Run → Option ℕ
status_of (goes s) = Some zero
status_of (ends (exited n) s) = Some n
status_of (ends (faulted w) s) = None
status_of (ends (stopped ps) s) = None
