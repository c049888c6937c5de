-- The rows of a book: what the tree alone tells of its entries.
use Rattle.std.specs.Prelude.{◌≡◌, ℕ, Bool, List, [], ◌∷◌, Option, Some, None, slice_get}
use Rattle.redo_names.specs.Paths.{is_among}
use Rattle.redo_book.specs.declared.book.BookEntry.{BookEntry}
use Rattle.redo_book.specs.Book.{Record, record_at}
use Rattle.redo_skip.specs.Checks.{Check, Checks}
use Rattle.redo_skip.specs.Sources.{Sources}
use Rattle.redo_why.specs.Verdicts.{Verdict, Keeps, Begins, Either, Verdicts, Mark, Holds, Drops, Unsure}
use Rattle.redo_why.specs.Verdicts.{mark, mark_checked}
use Rattle.redo_past.specs.Past.{PastView}
use Rattle.redo_rules.specs.Build.{checks_for, sources_for}
use Rattle.redo_step.specs.Limits.{LimitsView}
use Rattle.redo_ood.specs.Listing.{run_over}
use Rattle.redo_ood.specs.declared.verdicts.RowItem.{RowItem}
use Rattle.redo_ood.specs.declared.verdicts.RowItem.TheVariants as items
use Rattle.redo_ood.specs.declared.verdicts.Verdict.{Verdict as CodeVerdict}
use Rattle.redo_ood.specs.declared.verdicts.Verdict.TheVariants as verdicts
use Rattle.redo_ood.specs.declared.verdicts.Row.{Row}

-- a verdict of the code
abbrev pub told_as : Option CodeVerdict → Option Verdict
told_as None = None
told_as (Some verdicts.Keeps) = Some Keeps
told_as (Some verdicts.Begins) = Some Begins
told_as (Some verdicts.Either) = Some Either

-- the record of a path stands at this place in the book
pub record IsAt (book : List Record) (p : List ℕ) (i : ℕ) : Type 0 where
  pub made : Record
  pub there : slice_get book i ≡ Some made
  pub found : record_at book p ≡ Some made

-- an entry has this mark, whatever the verdicts are
abbrev pub IsMarked : Sources → Checks → BookEntry → Mark → Type 0
IsMarked s k e m = (v : Verdicts) → mark s k v e ≡ m

-- an entry goes by the verdict on a target in check whose record stands at this place
pub record IsOn (s : Sources) (k : Checks) (book : List Record) (e : BookEntry) (i : ℕ) (same : Bool) : Type 0 where
  pub path : List ℕ
  pub check : Check
  pub in_check : k path ≡ Some check
  pub at : IsAt book path i
  pub marked : (v : Verdicts) → mark s k v e ≡ mark_checked same (v path)

-- the item of an entry
abbrev pub IsItem : Sources → Checks → List Record → BookEntry → RowItem → Type 0
IsItem s k book e items.Holds = IsMarked s k e Holds
IsItem s k book e items.Drops = IsMarked s k e Drops
IsItem s k book e items.Unsure = IsMarked s k e Unsure
IsItem s k book e (items.On i same) = IsOn s k book e i same

-- each entry has its item
abbrev pub AreItems : Sources → Checks → List Record → List BookEntry → List RowItem → Type 0
AreItems s k book [] [] = Unit {0}
AreItems s k book [] (i ∷ is) = ⊥
AreItems s k book (e ∷ es) [] = ⊥
AreItems s k book (e ∷ es) (i ∷ is) = IsItem s k book e i × AreItems s k book es is

-- each record has its row
abbrev pub AreRows : Sources → Checks → List Record → List Record → List Row → Type 0
AreRows s k book [] [] = Unit {0}
AreRows s k book [] (row ∷ rows) = ⊥
AreRows s k book (r ∷ rs) [] = ⊥
AreRows s k book (r ∷ rs) (row ∷ rows) = AreItems s k book r.entries row.items.items × AreRows s k book rs rows

-- the set has the requested paths
abbrev pub AreSame : List (List ℕ) → List (List ℕ) → Type 0
AreSame set request = (p : List ℕ) → is_among set p ≡ is_among request p

-- of a run over a past that requests what is in a set
abbrev pub InRun : PastView → List (List ℕ) → (Sources → Checks → List Record → Type 0) → Type 0
InRun past set P = (request : List (List ℕ)) (limits : LimitsView) → AreSame set request →
    P (sources_for (run_over past request limits)) (checks_for (run_over past request limits)) past.book
