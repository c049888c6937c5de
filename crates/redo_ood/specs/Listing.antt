-- What is listed, and why: of the targets that have a record, and of paths that have none.
use Rattle.std.specs.Prelude.{◌≡◌, ◌↔◌, ℕ, true, List, [], ◌∷◌, ◌++◌, Option, Some, None}
use Rattle.std.specs.Prelude.{codes, flat_map, if◌then◌else◌}
use Rattle.std.specs.Cmp.Lexicographic.{slice_cmp}
use Rattle.std.specs.List.Sorted.{IsStrictlySortedBy}
use Rattle.std.specs.Ordering.{nat_cmp}
use Rattle.redo_names.specs.Paths.{IsAmong, is_among}
use Rattle.redo_tree.specs.Tree.{Tree}
use Rattle.redo_which.specs.Rule.{found_of}
use Rattle.redo_book.specs.declared.book.BookEntry.{BookEntry}
use Rattle.redo_book.specs.declared.book.BookEntry.TheVariants.{Change, Create, Always}
use Rattle.redo_book.specs.Book.{Record, record_at, targets_of}
use Rattle.redo_book.specs.Intact.{is_intact}
use Rattle.redo_skip.specs.Checks.{Checks}
use Rattle.redo_skip.specs.NewBook.{LastRun, checks_of}
use Rattle.redo_skip.specs.Sources.{Sources}
use Rattle.redo_why.specs.Reasons.{Altered, Unrecorded}
use Rattle.redo_explain.specs.Words.{reason_words}
use Rattle.redo_why.specs.Verdicts.{Verdicts, Mark, Holds, Drops, Unsure, Waits, mark, verdict}
use Rattle.redo_why.specs.OutOfDate.{Word, Stale, Maybe, Ring, Lost, entry_path, first_drop, first_unsure, word_by}
use Rattle.redo_why.specs.Runs.{verdict_with}
use Rattle.redo_past.specs.Past.{PastView}
use Rattle.redo_rules.specs.Build.{GivenView, checks_for, last_run_of, sources_for}
use Rattle.redo_step.specs.Limits.{LimitsView}
use Rattle.redo_list.specs.Lists.{ListedView}
use Rattle.redo_list.specs.declared.listed.State.{State}
use Rattle.redo_list.specs.declared.listed.State.TheVariants as states

-- What is listed

-- by recorded entries, under the verdicts on other targets
abbrev pub word_of_entries : Sources → Checks → Verdicts → List BookEntry → Option Word
word_of_entries s k v es = word_by (first_unsure s k v es) (first_drop s k v es) (verdict s k v es)

-- of a target with a rule
abbrev pub word_ruled : Sources → LastRun → Checks → Verdicts → Record → Option Word
word_ruled s last k v r = if is_intact last.file r then word_of_entries s k v r.entries else Some (Stale Altered)

-- of the target of a record, if it is no source
abbrev pub word_of : Sources → LastRun → Checks → Verdicts → Record → Option Word
word_of s last k v r =
    if s.is_source r.target then None else if s.has_rule r.target then word_ruled s last k v r else Some Lost

-- in a run that requests these paths: a requested target, too, by its own record
abbrev pub word_with : Sources → LastRun → List (List ℕ) → Record → Option Word
word_with s last request r = word_of s last (checks_of s last request) (verdict_with s last request) r

-- What is told of a target that is listed

-- its state
abbrev pub state_by : Word → State
state_by (Stale why) = states.Stale
state_by (Maybe on) = states.Maybe
state_by Ring = states.Ring
state_by Lost = states.Lost

-- why it is listed, where its record waits for this path, if it waits
abbrev pub why_words : Tree → List ℕ → Word → List ℕ
why_words tree waited (Stale why) = reason_words (found_of tree) why
why_words tree waited (Maybe on) = on ++ codes " may come out otherwise"
why_words tree waited Ring = codes "it waits for " ++ waited ++ codes ", which waits for itself or a ring"
why_words tree waited Lost = codes "no rule makes it any more"

-- a path, in this state and for this reason
abbrev pub as_listed : List ℕ → State → List ℕ → List ListedView
as_listed path state why = record { target = path; state = state; why = why } ∷ []

-- nothing, or the target
abbrev pub listed_if : Tree → List ℕ → List ℕ → Option Word → List ListedView
listed_if tree target waited None = []
listed_if tree target waited (Some word) = as_listed target (state_by word) (why_words tree waited word)

-- the path of an entry if it waits, else what the further ones have
abbrev pub waits_by : BookEntry → Mark → List ℕ → List ℕ
waits_by e Holds rest = rest
waits_by e Drops rest = rest
waits_by e Unsure rest = rest
waits_by e Waits rest = entry_path e

-- the path of the first entry that waits
abbrev pub first_waiting : Sources → Checks → Verdicts → List BookEntry → List ℕ
first_waiting s k v [] = []
first_waiting s k v (e ∷ es) = waits_by e (mark s k v e) (first_waiting s k v es)

-- the path of a `change`
abbrev pub changed : BookEntry → List (List ℕ)
changed (Change state path) = path ∷ []
changed (Create path) = []
changed Always = []

-- a ring: its record names the path that it is told to wait for, and that path is listed as a ring, too
pub record IsRingOf (s : Sources) (last : LastRun) (request : List (List ℕ)) (r : Record) : Type 0 where
  pub on : Record
  pub there : record_at last.book
      (first_waiting s (checks_of s last request) (verdict_with s last request) r.entries) ≡ Some on
  pub named : IsAmong (flat_map changed r.entries)
      (first_waiting s (checks_of s last request) (verdict_with s last request) r.entries)
  pub ring : word_with s last request on ≡ Some Ring

-- The list of a run that is given a past and a request

-- a run over a past that requests these paths, with these limits; nothing listed goes by the limits
abbrev pub run_over : PastView → List (List ℕ) → LimitsView → GivenView
run_over past request limits = record { past = past; request = request; limits = limits }

-- the verdicts in a run
abbrev pub verdicts_for : GivenView → Verdicts
verdicts_for given = verdict_with (sources_for given) (last_run_of given.past) given.request

-- what is listed of the target of a record, if anything is
abbrev pub listed_for : GivenView → Record → List ListedView
listed_for given r =
    listed_if given.past.sources r.target
    (first_waiting (sources_for given) (checks_for given) (verdicts_for given) r.entries)
    (word_with (sources_for given) (last_run_of given.past) given.request r)

-- a path is requested, or the record of a path with a rule that the request rests on has a `change` of it
pub data RestsOn (given : GivenView) : List ℕ → Type 0 where
  Itself : {path : List ℕ} → IsAmong given.request path → RestsOn given path
  Through : {path on : List ℕ} {r : Record} → RestsOn given path →
      (sources_for given).has_rule path ≡ true → record_at given.past.book path ≡ Some r →
      IsAmong (flat_map changed r.entries) on → RestsOn given on

-- of a path without a record: nothing of a source; what has a rule is new; what has neither is unknown, if it is requested
abbrev pub unrecorded : GivenView → List ℕ → List ListedView
unrecorded given path =
    if (sources_for given).is_source path then []
    else if (sources_for given).has_rule path
    then as_listed path states.New (reason_words (found_of given.past.sources) Unrecorded)
    else if is_among given.request path then as_listed path states.Unknown (codes "it is no file, and no rule makes it")
    else []

-- of a path, by its record, if it has one
abbrev pub listed_by : GivenView → List ℕ → Option Record → List ListedView
listed_by given path None = unrecorded given path
listed_by given path (Some r) = listed_for given r

-- of a path
abbrev pub listed_at : GivenView → List ℕ → List ListedView
listed_at given path = listed_by given path (record_at given.past.book path)

-- the run is asked about a path: a target of the book, where nothing is requested; else what the request rests on
abbrev pub IsAskedAbout : GivenView → List (List ℕ) → List ℕ → Type 0
IsAskedAbout given [] path = IsAmong (targets_of given.past.book) path
IsAskedAbout given (q ∷ qs) path = RestsOn given path

-- these are the paths that the run is asked about, in path order
pub record AreAskedAbout (given : GivenView) (asked : List (List ℕ)) : Type 0 where
  pub each : (path : List ℕ) → IsAmong asked path ↔ IsAskedAbout given given.request path
  pub ordered : IsStrictlySortedBy (slice_cmp nat_cmp) asked

-- the list: what is listed of the paths that the run is asked about, in path order
pub record IsList (given : GivenView) (listed : List ListedView) : Type 0 where
  pub asked : List (List ℕ)
  pub about : AreAskedAbout given asked
  pub targets : listed ≡ flat_map (listed_at given) asked
