-- Why the script of a target is begun.
use Rattle.std.specs.Prelude.{◌≡◌, ℕ, List, [], ◌∷◌, ◌++◌, Option, Some, None, if◌then◌else◌}
use Rattle.std.specs.List.{AllByRecursion}
use Rattle.redo_record.specs.Paths.{is_among}
use Rattle.redo_book.specs.declared.book.BookEntry.{BookEntry}
use Rattle.redo_book.specs.Book.{Record, record_at}
use Rattle.redo_book.specs.Intact.{is_intact}
use Rattle.redo_build.specs.Rules.{Ask}
use Rattle.redo_skip.specs.Sources.{Sources}
use Rattle.redo_skip.specs.Checks.{Standing, stands, lacks, falls, standing}
use Rattle.redo_skip.specs.NewBook.{LastRun}

-- why a script is begun
pub data Reason : Type 0 where
  -- its target is requested
  Requested : Reason
  -- the book of the last run has no record of its target
  Unrecorded : Reason
  -- its target isn't as the last run left it
  Altered : Reason
  -- this is the first of its target's recorded entries that falls
  Fallen : (entry : BookEntry) → Reason

-- an entry if it falls; what the further ones have, if it stands; none, if it lacks an answer
abbrev pub first_by : BookEntry → Standing → Option BookEntry → Option BookEntry
first_by e stands rest = rest
first_by e lacks rest = None
first_by e falls rest = Some e

-- the first entry that falls, if all before it stand
abbrev pub first_fallen : Sources → Ask → List BookEntry → Option BookEntry
first_fallen s a [] = None
first_fallen s a (e ∷ es) = first_by e (standing s a e) (first_fallen s a es)

abbrev pub reason_fallen : Option BookEntry → Option Reason
reason_fallen None = None
reason_fallen (Some e) = Some (Fallen e)

-- the reason by the record of a target that isn't requested
abbrev pub reason_recorded : Sources → LastRun → Ask → Option Record → Option Reason
reason_recorded s last a None = Some Unrecorded
reason_recorded s last a (Some r) =
    if is_intact last.file r then reason_fallen (first_fallen s a r.entries) else Some Altered

-- given these answers, the reason for which the script of a target with a rule is begun, if it is
abbrev pub reason_of : Sources → LastRun → List (List ℕ) → Ask → List ℕ → Option Reason
reason_of s last request a p =
    if is_among request p then Some Requested else reason_recorded s last a (record_at last.book p)

-- the entry is the first that falls, and all before it stand
pub record IsFirstFallen (s : Sources) (a : Ask) (entries : List BookEntry) (e : BookEntry) : Type 0 where
  pub before : List BookEntry
  pub after : List BookEntry
  pub whole : entries ≡ before ++ e ∷ after
  pub stood : AllByRecursion (λ x. standing s a x ≡ stands) before
  pub fell : standing s a e ≡ falls
