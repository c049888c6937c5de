-- The check of a target, as far as it has come.
use Rattle.std.specs.Prelude.{◌≡◌, ◌+◌, ◌≤◌, ℕ, true, List, [], ◌∷◌, ◌++◌, Option, Some, None, map, take}
use Rattle.std.specs.Prelude.{MatchOption, length, option_and_then, slice_get}
use Rattle.std.specs.List.{IsDistinct}
use Rattle.redo_digest.specs.Digest.{State}
use Rattle.redo_record.specs.declared.deps.Dep.{Dep}
use Rattle.redo_record.specs.Entries.{with_all}
use Rattle.redo_record.specs.Paths.{IsAmong}
use Rattle.redo_book.specs.declared.book.BookEntry.{BookEntry}
use Rattle.redo_book.specs.declared.book.BookEntry.TheVariants.{Change}
use Rattle.redo_book.specs.Book.{Record, same_entry}
use Rattle.redo_build.specs.Rules.{Ask, Rules, operands}
use Rattle.redo_build.specs.Schedule.{nothing_known}
use Rattle.redo_skip.specs.Checks.{asking, falls, is_asked, lacks, shown, standing}
use Rattle.redo_skip.specs.NewBook.{check_by}
use Rattle.redo_skip.specs.Sources.{Sources}
use Rattle.redo_skip.specs.inside.Stood.{HaveStood, StandAlone, asked_by}
use Rattle.redo_rules.specs.Build.{GivenView, rules_for, sources_for, checks_for, last_run_of}
use Rattle.redo_core.specs.declared.check.Check.{Check}

-- the entries from one index up to another stand without any answer; the next one asks for a path, or there is none
pub record IsWalkedTo (s : Sources) (es : List BookEntry) (from to : ℕ) : Type 0 where
  pub on : from ≤ to
  pub within : to ≤ length es
  pub alone : StandAlone s es from to
  pub next : MatchOption (slice_get es to) (Unit {0}) (λ e. standing s nothing_known e ≡ lacks)

-- from an index on, entries stand without any answer, up to one that falls
pub record FallsBehind (s : Sources) (es : List BookEntry) (from : ℕ) : Type 0 where
  pub at : ℕ
  pub on : from ≤ at
  pub entry : BookEntry
  pub there : slice_get es at ≡ Some entry
  pub alone : StandAlone s es from at
  pub fallen : standing s nothing_known entry ≡ falls

-- the check of a target is by the record with this number
pub record IsCheckedBy (given : GivenView) (p : List ℕ) (number : ℕ) : Type 0 where
  pub made : Record
  pub there : slice_get given.past.book number ≡ Some made
  pub check : checks_for given p ≡ Some (check_by (last_run_of given.past) made)

-- the same, for a record that a book can have
pub record IsInCheck (given : GivenView) (p : List ℕ) (number : ℕ) : Type 0 where
  pub made : Record
  pub there : slice_get given.past.book number ≡ Some made
  pub check : checks_for given p ≡ Some (check_by (last_run_of given.past) made)
  -- no kind and path occurs twice
  pub once : IsDistinct same_entry made.entries

abbrev pub entries_of_record : Option Record → List BookEntry
entries_of_record None = []
entries_of_record (Some made) = made.entries

-- the entries of a check's record
abbrev pub entries_in : GivenView → Check → List BookEntry
entries_in given c = entries_of_record (slice_get given.past.book c.number)

-- the path of a `change`
abbrev pub path_of_entry : BookEntry → Option (List ℕ)
path_of_entry (Change state q) = Some q
path_of_entry _ = None

-- the recorded state of a `change`
abbrev pub state_of_entry : BookEntry → Option State
state_of_entry (Change state q) = Some state
state_of_entry _ = None

-- the path that a check asks for next when it is due; none if all its entries stand
abbrev pub asks_next : GivenView → Check → Option (List ℕ)
asks_next given c = option_and_then path_of_entry (slice_get (entries_in given c) c.stood)

-- the entries that a waiting check has looked at
abbrev pub seen_entries : GivenView → Check → List Dep
seen_entries given c = map shown (take (c.stood + 1) (entries_in given c))

-- a check is due: its first entries stand, and the next one asks for a path, or there is none
pub record IsDueCheck (given : GivenView) (p : List ℕ) (a : Ask) (c : Check) : Type 0 where
  pub in_check : IsInCheck given p c.number
  pub stood : HaveStood (sources_for given) a (entries_in given c) c.stood
  pub asked : c.asked ≡ asking (asked_by (sources_for given) (take c.stood (entries_in given c)))
  pub next : MatchOption (slice_get (entries_in given c) c.stood) (Unit {0})
      (λ e. standing (sources_for given) nothing_known e ≡ lacks)

-- a check waits for a path: that of the entry after those that stand
pub record IsWaitingCheck (given : GivenView) (p : List ℕ) (a : Ask) (q : List ℕ) (c : Check) : Type 0 where
  pub in_check : IsInCheck given p c.number
  pub stood : HaveStood (sources_for given) a (entries_in given c) c.stood
  pub state : State
  pub awaited : slice_get (entries_in given c) c.stood ≡ Some (Change state q)
  pub asks : is_asked (sources_for given) q ≡ true
  pub asked : c.asked ≡ asking (asked_by (sources_for given) (take c.stood (entries_in given c)) ++ q ∷ [])

-- a and b give the same answers to what these entries wait for
abbrev pub TellsAlike : Rules → List Dep → Ask → Ask → Type 0
TellsAlike r asked a b = (q : List ℕ) → IsAmong (operands r asked) q → a q ≡ b q

-- a script is begun after a check that asked for these paths, whatever else becomes known. A target that isn't in check
-- asked for none
pub record IsBegunBehind (given : GivenView) (p : List ℕ) (asked : List Dep) (a : Ask) : Type 0 where
  pub begins : (b : Ask) → TellsAlike (rules_for given) asked a b → (rules_for given).begins p b ≡ true
  pub progress : (b : Ask) → TellsAlike (rules_for given) asked a b → (rules_for given).progress p b ≡
      (let own = (sources_for given).progress p b in
      record { outcome = own.outcome; deps = with_all asked own.deps })
  pub recorded : (b : Ask) → TellsAlike (rules_for given) asked a b →
      (rules_for given).recorded p b ≡ ((sources_for given).progress p b).deps
