-- What is out of date: what a book and a tree tell of the targets that have a record, before any script runs.
use Rattle.std.specs.Prelude.{◌≡◌, ◌⊎◌, ℕ, zero, suc, Bool, true, false, List, [], ◌∷◌, Option, Some, None}
use Rattle.std.specs.Prelude.{if◌then◌else◌, flat_map, length, option_and_then}
use Rattle.redo_record.specs.Paths.{IsAmong, is_among}
use Rattle.redo_book.specs.declared.book.BookEntry.{BookEntry}
use Rattle.redo_book.specs.declared.book.BookEntry.TheVariants.{Change, Create, Always}
use Rattle.redo_book.specs.Book.{Record, record_at}
use Rattle.redo_book.specs.Intact.{is_intact}
use Rattle.redo_skip.specs.Sources.{Sources}
use Rattle.redo_skip.specs.Checks.{Check, Checks, asks}
use Rattle.redo_skip.specs.NewBook.{LastRun, checks_of}
use Rattle.redo_why.specs.Reasons.{Reason, Altered, Fallen}
use Rattle.redo_why.specs.Verdicts.{Verdict, Keeps, Begins, Either, Verdicts, Mark, Holds, Drops, Unsure, Waits}
use Rattle.redo_why.specs.Verdicts.{mark, verdict_at}

-- an entry if it drops, else what the further ones have
abbrev pub drop_by : BookEntry → Mark → Option BookEntry → Option BookEntry
drop_by e Holds rest = rest
drop_by e Drops rest = Some e
drop_by e Unsure rest = rest
drop_by e Waits rest = rest

-- the first entry that drops, also behind one that is unsure
abbrev pub first_drop : Sources → Checks → Verdicts → List BookEntry → Option BookEntry
first_drop s k v [] = None
first_drop s k v (e ∷ es) = drop_by e (mark s k v e) (first_drop s k v es)

-- the path of an entry
abbrev pub entry_path : BookEntry → List ℕ
entry_path (Change state q) = q
entry_path (Create q) = q
entry_path Always = []

-- the path of an entry if it is unsure, else what the further ones have
abbrev pub unsure_by : BookEntry → Mark → List ℕ → List ℕ
unsure_by e Holds rest = rest
unsure_by e Drops rest = rest
unsure_by e Unsure rest = entry_path e
unsure_by e Waits rest = rest

-- the path of the first entry that is unsure
abbrev pub first_unsure : Sources → Checks → Verdicts → List BookEntry → List ℕ
first_unsure s k v [] = []
first_unsure s k v (e ∷ es) = unsure_by e (mark s k v e) (first_unsure s k v es)

-- what is listed of a target that has a record
pub data Word : Type 0 where
  -- a run that needs it begins its script
  Stale : (why : Reason) → Word
  -- a run that needs it may begin its script, as this path may come out otherwise
  Maybe : (on : List ℕ) → Word
  -- its record waits for its own target
  Ring : Word
  -- it has no rule any more
  Lost : Word

-- by the first entry that drops, else by the path of the first that is unsure
abbrev pub word_dropped : List ℕ → Option BookEntry → Word
word_dropped on None = Maybe on
word_dropped on (Some e) = Stale (Fallen e)

-- by the verdict; nothing is listed of what is kept
abbrev pub word_by : List ℕ → Option BookEntry → Option Verdict → Option Word
word_by on drop None = Some Ring
word_by on drop (Some Keeps) = None
word_by on drop (Some Begins) = Some (word_dropped on drop)
word_by on drop (Some Either) = Some (word_dropped on drop)

-- the checks of a run that requests nothing
abbrev pub checks_left : Sources → LastRun → Checks
checks_left s last = checks_of s last []

-- the verdicts in a run that requests nothing; records are no deeper than there are records
abbrev pub verdict_left : Sources → LastRun → Verdicts
verdict_left s last = verdict_at s (checks_left s last) (length last.book)

-- of a target with a rule that is as the last run left it
abbrev pub word_intact : Sources → LastRun → List ℕ → Record → Option Word
word_intact s last p r =
    word_by (first_unsure s (checks_left s last) (verdict_left s last) r.entries)
    (first_drop s (checks_left s last) (verdict_left s last) r.entries) (verdict_left s last p)

-- of a target with a rule
abbrev pub word_ruled : Sources → LastRun → List ℕ → Record → Option Word
word_ruled s last p r = if is_intact last.file r then word_intact s last p r else Some (Stale Altered)

-- of a target with a record
abbrev pub word_recorded : Sources → LastRun → List ℕ → Record → Option Word
word_recorded s last p r = if s.has_rule p then word_ruled s last p r else Some Lost

-- what is listed of a path, if anything: it has a record, and is no source
abbrev pub listed : Sources → LastRun → List ℕ → Option Word
listed s last p = if s.is_source p then None else option_and_then (word_recorded s last p) (record_at last.book p)

-- a run that needs it begins its script, or may
abbrev pub may_begin : Word → Bool
may_begin (Stale why) = true
may_begin (Maybe on) = true
may_begin Ring = false
may_begin Lost = false

-- a run that needs the path may begin its script: it has a rule, and has no record or is listed so
abbrev pub IsOpen : Sources → LastRun → List ℕ → Type 0
IsOpen s last q = (s.has_rule q ≡ true) ×
    ((record_at last.book q ≡ None) ⊎ ((w : Word) × (listed s last q ≡ Some w) × (may_begin w ≡ true)))

-- What a target rests on

-- the paths that the record of a target in check asks for
abbrev pub named : Sources → Option Check → List (List ℕ)
named s None = []
named s (Some c) = flat_map (asks s) c.entries

-- a target, the paths that its record asks for, and so on, at most n deep
abbrev pub rests_on : Sources → Checks → ℕ → List ℕ → List (List ℕ)
rests_on s k zero p = p ∷ []
rests_on s k (suc n) p = p ∷ flat_map (rests_on s k n) (named s (k p))

-- neither a target nor anything that it rests on is requested
abbrev pub IsLeftAlone : Sources → LastRun → List (List ℕ) → List ℕ → Type 0
IsLeftAlone s last request p = (n : ℕ) (q : List ℕ) →
    IsAmong (rests_on s (checks_left s last) n p) q → is_among request q ≡ false
