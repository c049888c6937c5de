-- What a run takes over from the last one, and the book that it leaves.
use Rattle.std.specs.Prelude.{◌≡◌, ◌⊎◌, ℕ, Bool, true, false, ◌&&◌, not, List, [], Option, Some, None}
use Rattle.std.specs.Prelude.{option_and_then, if◌then◌else◌}
use Rattle.std.specs.List.{AllByRecursion}
use Rattle.redo_digest.specs.Digest.{State, state_of}
use Rattle.redo_record.specs.declared.deps.Dep.{Dep}
use Rattle.redo_record.specs.declared.deps.DepKind.{DepKind}
use Rattle.redo_record.specs.declared.deps.DepKind.TheVariants as kinds
use Rattle.redo_record.specs.declared.outcome.Outcome.{Outcome}
use Rattle.redo_record.specs.declared.outcome.Outcome.TheVariants.{Source, Built, Failed, Cyclic}
use Rattle.redo_record.specs.Paths.{is_among}
use Rattle.redo_book.specs.Book.{Record, record_at}
use Rattle.redo_book.specs.Intact.{is_intact}
use Rattle.redo_book.specs.Noted.{new_record}
use Rattle.redo_build.specs.Rules.{Ask}
use Rattle.redo_build.specs.Outcomes.{outcome_at, needed_at, record_of}
use Rattle.redo_skip.specs.Checks.{Check, Checks, built, known_file, told, with_book}
use Rattle.redo_skip.specs.Sources.{File, Sources}
use Rattle.redo_skip.specs.Truth.{AreApart, IsAlike, IsTrue, IsWitness}

-- what the last run left: its book, and the files of the tree as it was read, generated ones included
pub record LastRun : Type 0 where
  pub book : List Record
  pub file : List ℕ → File

-- the record is valid: its target has a rule, and stands as the last run left it
abbrev pub is_valid : Sources → LastRun → Record → Bool
is_valid s last r = s.has_rule r.target && is_intact last.file r

-- the check that a record gives
abbrev pub check_by : LastRun → Record → Check
check_by last r = record { file = last.file r.target; entries = r.entries }

-- the targets in check: those that have a valid record and aren't requested
abbrev pub checks_of : Sources → LastRun → List (List ℕ) → Checks
checks_of s last request p =
    option_and_then (λ r. if not (is_among request p) && is_valid s last r then Some (check_by last r) else None)
    (record_at last.book p)

-- the state of a path when a run ends: that of the file known there, or none
abbrev pub state_known : Sources → Ask → List ℕ → State
state_known s a q = option_and_then state_of (known_file s a q)

-- the old record of a path, if it is valid and so carried
abbrev pub carried : Sources → LastRun → List ℕ → Option Record
carried s last p = option_and_then (λ r. if is_valid s last r then Some r else None) (record_at last.book p)

-- the file that a target was built with, if it was built
abbrev pub built_with : Outcome → Option File
built_with Source = None
built_with (Built file) = Some file
built_with (Failed why) = None
built_with Cyclic = None

-- the new record of a target that was built with a file, else the carried one
abbrev pub record_with : Sources → LastRun → Checks → ℕ → List ℕ → Option File → Option Record
record_with s last k limit p None = carried s last p
record_with s last k limit p (Some file) =
    Some (new_record (state_known s (outcome_at (with_book s k) limit)) p file (record_of (with_book s k) limit p))

-- the new book's record of a path: that of a needed target that was built, else the carried one
abbrev pub new_book : Sources → LastRun → List (List ℕ) → ℕ → List ℕ → Option Record
new_book s last request limit p =
    let k = checks_of s last request in
    let needed = needed_at (with_book s k) request limit in
    record_with s last k limit p
    (if is_among needed p then option_and_then built_with (outcome_at (with_book s k) limit p) else None)

-- the record of a path comes from this run, as the outcomes of the build with the book witness, or is that of the last
-- book
abbrev pub IsOfRun : Sources → LastRun → List (List ℕ) → ℕ → List ℕ → Record → Type 0
IsOfRun s last request limit p r =
    IsWitness r s (outcome_at (with_book s (checks_of s last request)) limit) ⊎ (record_at last.book p ≡ Some r)

-- all records of a book are true
abbrev pub AreTrue : (List ℕ → Option Record) → Type 0
AreTrue book = (p : List ℕ) (r : Record) → book p ≡ Some r → IsTrue r

-- a book can have the entry: for a `change` the file at its path is known, and an `always` has no path
abbrev pub CanBeNoted : Sources → Ask → DepKind → List ℕ → Type 0
CanBeNoted s a kinds.Change q = (file : File) × (known_file s a q ≡ Some file)
CanBeNoted s a kinds.Create q = Unit {0}
CanBeNoted s a kinds.Always q = q ≡ []

-- what the layers below say of sources
pub record IsGood (s : Sources) : Type 0 where
  -- if no answer tells of a file at a missing .do file, a target is built only with entries that a book can have
  pub notable : (p : List ℕ) (a : Ask) (file : File) (deps : List Dep) →
      ((q : List ℕ) → s.is_script q ≡ true → s.is_source q ≡ false → told (a q) ≡ None) →
      s.progress p a ≡ built file deps → AllByRecursion (λ d. CanBeNoted s a d.kind d.path) deps
  -- a path that is no source is built only by a rule
  pub ruled : (p : List ℕ) (a : Ask) (file : File) → s.is_source p ≡ false →
      told (s.progress p a).outcome ≡ Some file → s.has_rule p ≡ true
  -- no .do file has a rule
  pub scripts : (p : List ℕ) → s.is_script p ≡ true → s.has_rule p ≡ false

-- a record of the last run is honest: it is true of a build in which its target behaves as in this one, and no digest
-- confuses a file of that build with one of this, nor the file that it made with the one that is there
pub record IsHonestRecord (s : Sources) (last : LastRun) (a : Ask) (r : Record) : Type 0 where
  pub truth : IsTrue r
  pub alike : IsAlike truth.sources truth.ask s a r.target
  pub result : state_of truth.witness.file ≡ state_of (last.file r.target) → truth.witness.file ≡ last.file r.target
  pub apart : AreApart truth.sources truth.ask s a

-- every record of the last run is honest
abbrev pub AreHonestRecords : Sources → LastRun → Ask → Type 0
AreHonestRecords s last a = (p : List ℕ) (r : Record) → record_at last.book p ≡ Some r → IsHonestRecord s last a r
