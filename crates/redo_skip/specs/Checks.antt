-- The check of a target: its recorded entries are looked at before its script is begun.
use Rattle.std.specs.Prelude.{◌≡◌, ℕ, Bool, true, false, not, ◌&&◌, ◌||◌, List, [], ◌∷◌, ◌++◌, Option, Some, None}
use Rattle.std.specs.Prelude.{if◌then◌else◌, is_none, option_and_then}
use Rattle.std.specs.Option.{option_eq}
use Rattle.std.specs.Str.{bytes_eq}
use Rattle.redo_digest.specs.Digest.{State, state_of}
use Rattle.redo_record.specs.declared.deps.Dep.{Dep}
use Rattle.redo_record.specs.declared.deps.DepKind.TheVariants as kinds
use Rattle.redo_record.specs.declared.outcome.Outcome.{Outcome}
use Rattle.redo_record.specs.declared.outcome.Outcome.TheVariants as outcomes
use Rattle.redo_record.specs.Entries.{with_all, with_entries}
use Rattle.redo_record.specs.Progress.{Progress}
use Rattle.redo_book.specs.declared.book.BookEntry.{BookEntry}
use Rattle.redo_book.specs.declared.book.BookEntry.TheVariants.{Change, Create, Always}
use Rattle.redo_build.specs.Rules.{Ask, Rules}
use Rattle.redo_skip.specs.Sources.{File, Sources}

-- a `change` asks for its path if that is neither a source nor named as a .do file
abbrev pub is_asked : Sources → List ℕ → Bool
is_asked s q = not (s.is_source q || s.is_script q)

-- the file that an outcome tells of; unknown if the target failed or is cyclic
abbrev pub file_told : Outcome → Option File
file_told outcomes.Source = Some None
file_told (outcomes.Built file) = Some file
file_told (outcomes.Failed why) = None
file_told outcomes.Cyclic = None

-- the file that an answer tells of, if there is an answer
abbrev pub told : Option Outcome → Option File
told answer = option_and_then file_told answer

-- the file of a source; of any other path it is unknown
abbrev pub source_file : Sources → List ℕ → Option File
source_file s q = if s.is_source q then Some (s.file q) else None

-- the file at a path, where it is known: from the answer if the path is asked for, else from the sources
abbrev pub known_file : Sources → Ask → List ℕ → Option File
known_file s a q = if is_asked s q then told (a q) else source_file s q

-- the path is asked for and has no answer yet
abbrev pub is_awaited : Sources → Ask → List ℕ → Bool
is_awaited s a q = is_asked s q && is_none (a q)

-- whether two states are equal
abbrev pub same_state : State → State → Bool
same_state s t = option_eq bytes_eq s t

-- whether a file is known and has this state
abbrev pub has_state : State → Option File → Bool
has_state state None = false
has_state state (Some file) = same_state (state_of file) state

-- a recorded entry stands (is still so), lacks an answer, or falls (is no longer so)
pub data Standing : Type 0 where
  stands : Standing
  lacks : Standing
  falls : Standing

abbrev pub stands_if : Bool → Standing
stands_if true = stands
stands_if false = falls

-- whether an entry stands, lacks or falls, given these answers
abbrev pub standing : Sources → Ask → BookEntry → Standing
standing s a (Change state q) =
    if is_awaited s a q then lacks else stands_if (has_state state (known_file s a q))
standing s a (Create q) = stands_if (s.is_free q)
standing s a Always = falls

-- the path that an entry asks for, if any
abbrev pub asks : Sources → BookEntry → List (List ℕ)
asks s (Change state q) = if is_asked s q then q ∷ [] else []
asks s (Create q) = []
asks s Always = []

-- an entry as a report shows it
abbrev pub shown : BookEntry → Dep
shown (Change state q) = record { kind = kinds.Change; path = q }
shown (Create q) = record { kind = kinds.Create; path = q }
shown Always = record { kind = kinds.Always; path = [] }

-- what a check finds: how the entries stand, the paths that it asked for, and the entries that it looked at
pub record Finding : Type 0 where
  pub standing : Standing
  pub asked : List (List ℕ)
  pub seen : List Dep

-- what a check finds at an entry; it goes on to the rest only if the entry stands
abbrev pub found_by : Sources → BookEntry → Standing → Finding → Finding
found_by s e stands rest =
    record { standing = rest.standing; asked = asks s e ++ rest.asked; seen = shown e ∷ rest.seen }
found_by s e lacks rest = record { standing = lacks; asked = asks s e; seen = shown e ∷ [] }
found_by s e falls rest = record { standing = falls; asked = asks s e; seen = shown e ∷ [] }

-- what a check finds in these entries, in order up to the first that doesn't stand
abbrev pub finding : Sources → Ask → List BookEntry → Finding
finding s a [] = record { standing = stands; asked = []; seen = [] }
finding s a (e ∷ es) = found_by s e (standing s a e) (finding s a es)

-- the check of a target: the file that it keeps if all of these entries stand
pub record Check : Type 0 where
  pub file : File
  pub entries : List BookEntry

-- the check of each target that is in check
abbrev pub Checks : Type 0
Checks = List ℕ → Option Check

-- built with this file and these entries
abbrev pub built : File → List Dep → Progress
built file deps = record { outcome = Some (outcomes.Built file); deps = deps }

-- a `change` for each of these paths, once
abbrev pub asking : List (List ℕ) → List Dep
asking ps = with_entries [] kinds.Change ps

-- how far a target in check comes, by how its entries stand; if one falls, as far as its script does
abbrev pub progress_by : File → List (List ℕ) → Progress → Standing → Progress
progress_by file asked own stands = built file (asking asked)
progress_by file asked own lacks = record { outcome = None; deps = asking asked }
progress_by file asked own falls = record { outcome = own.outcome; deps = with_all (asking asked) own.deps }

-- the same, by what its check found
abbrev pub progress_found : File → Finding → Progress → Progress
progress_found file found own = progress_by file found.asked own found.standing

-- how far a target comes, in check or not; what its check asked for counts as asked for, too
abbrev pub progress_checked : Sources → List ℕ → Option Check → Ask → Progress
progress_checked s p None a = s.progress p a
progress_checked s p (Some c) a = progress_found c.file (finding s a c.entries) (s.progress p a)

-- the record, by how the entries stand: those that were looked at, or the script's own if one falls
abbrev pub record_by : List Dep → List Dep → Standing → List Dep
record_by seen own stands = seen
record_by seen own lacks = seen
record_by seen own falls = own

-- the record of a target, in check or not
abbrev pub record_checked : Sources → List ℕ → Option Check → Ask → List Dep
record_checked s p None a = (s.progress p a).deps
record_checked s p (Some c) a =
    let found = finding s a c.entries in record_by found.seen (s.progress p a).deps found.standing

-- whether all entries stand
abbrev pub all_stand : Standing → Bool
all_stand stands = true
all_stand lacks = false
all_stand falls = false

-- whether an answer lacks
abbrev pub one_lacks : Standing → Bool
one_lacks stands = false
one_lacks lacks = true
one_lacks falls = false

-- a target is kept: it is in check, and all its entries stand
abbrev pub is_kept : Sources → Option Check → Ask → Bool
is_kept s None a = false
is_kept s (Some c) a = all_stand (finding s a c.entries).standing

-- a target waits in its check: the first of its entries that doesn't stand lacks an answer
abbrev pub waits_in_check : Sources → Option Check → Ask → Bool
waits_in_check s None a = false
waits_in_check s (Some c) a = one_lacks (finding s a c.entries).standing

-- the rules of a build with a book: the script of a target is begun if it is neither kept nor waits in its check
abbrev pub with_book : Sources → Checks → Rules
with_book s k = record {
  is_source = s.is_source;
  has_rule = s.has_rule;
  progress = λ p a. progress_checked s p (k p) a;
  begins = λ p a. not (is_kept s (k p) a) && not (waits_in_check s (k p) a);
  recorded = λ p a. record_checked s p (k p) a;
}

-- only targets with a rule are in check
pub record AreChecks (s : Sources) (k : Checks) : Type 0 where
  pub ruled : (p : List ℕ) (c : Check) → k p ≡ Some c → s.has_rule p ≡ true

-- two builds have the same rules
pub record AreSame (r t : Rules) : Type 0 where
  pub is_source : (p : List ℕ) → r.is_source p ≡ t.is_source p
  pub has_rule : (p : List ℕ) → r.has_rule p ≡ t.has_rule p
  pub progress : (p : List ℕ) (a : Ask) → r.progress p a ≡ t.progress p a
  pub begins : (p : List ℕ) (a : Ask) → r.begins p a ≡ t.begins p a
  pub recorded : (p : List ℕ) (a : Ask) → r.recorded p a ≡ t.recorded p a
