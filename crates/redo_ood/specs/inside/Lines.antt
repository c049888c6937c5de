-- What is told of a record by its items, under a table of verdicts.
use Rattle.std.specs.Prelude.{ℕ, Bool, true, false, List, [], ◌∷◌, ◌++◌, Option, Some, None}
use Rattle.std.specs.Prelude.{codes, if◌then◌else◌, is_some}
use Rattle.redo_names.specs.Paths.{is_among}
use Rattle.redo_tree.specs.Tree.{Tree, file_at}
use Rattle.redo_which.specs.Rule.{found_of, is_rule}
use Rattle.redo_book.specs.declared.book.BookEntry.{BookEntry}
use Rattle.redo_book.specs.Book.{Record}
use Rattle.redo_book.specs.Intact.{is_intact}
use Rattle.redo_past.specs.Past.{PastView}
use Rattle.redo_why.specs.OutOfDate.{entry_path}
use Rattle.redo_why.specs.OutOfDate as why
use Rattle.redo_why.specs.Reasons.{Altered, Fallen}
use Rattle.redo_why.specs.Verdicts.{Mark, Holds, Drops, Unsure, Waits, mark_checked}
use Rattle.redo_ood.specs.Listing.{as_listed, listed_if}
use Rattle.redo_list.specs.Lists.{ListedView}
use Rattle.redo_list.specs.declared.listed.State.TheVariants as states
use Rattle.redo_ood.specs.inside.Rows.{told_as}
use Rattle.redo_ood.specs.inside.Verdicts.{Known}
use Rattle.redo_ood.specs.declared.verdicts.RowItem.{RowItem}
use Rattle.redo_ood.specs.declared.verdicts.RowItem.TheVariants as items
use Rattle.redo_ood.specs.declared.whys.Why.{Why}
use Rattle.redo_ood.specs.declared.words.Mark.{Mark as CodeMark}
use Rattle.redo_ood.specs.declared.words.Mark.TheVariants as marks
use Rattle.redo_ood.specs.declared.words.Open.{Open}
use Rattle.redo_ood.specs.declared.words.Word.{Word}
use Rattle.redo_ood.specs.declared.words.Word.TheVariants as words

-- a mark of the code
abbrev pub mark_as : CodeMark → Mark
mark_as marks.Holds = Holds
mark_as marks.Drops = Drops
mark_as marks.Unsure = Unsure
mark_as marks.Waits = Waits

abbrev pub holds : Mark → Bool
holds Holds = true
holds Drops = false
holds Unsure = false
holds Waits = false

abbrev pub drops : Mark → Bool
drops Holds = false
drops Drops = true
drops Unsure = false
drops Waits = false

-- the mark of an item, by verdicts
abbrev pub mark_in : Known → RowItem → Mark
mark_in v items.Holds = Holds
mark_in v items.Drops = Drops
mark_in v items.Unsure = Unsure
mark_in v (items.On i same) = mark_checked same (told_as (v i))

-- an entry with its mark, unless it holds; else what the further ones have
abbrev pub open_by : BookEntry → Mark → Option (BookEntry × Mark) → Option (BookEntry × Mark)
open_by e Holds rest = rest
open_by e Drops rest = Some (e, Drops)
open_by e Unsure rest = Some (e, Unsure)
open_by e Waits rest = Some (e, Waits)

-- the first entry that isn't known to hold
abbrev pub open_in : Known → List BookEntry → List RowItem → Option (BookEntry × Mark)
open_in v [] is = None
open_in v (e ∷ es) [] = None
open_in v (e ∷ es) (i ∷ is) = open_by e (mark_in v i) (open_in v es is)

abbrev pub open_as : Open → BookEntry × Mark
open_as o = (o.entry.now, mark_as o.mark)

-- the first entry that drops
abbrev pub drop_in : Known → List BookEntry → List RowItem → Option BookEntry
drop_in v [] is = None
drop_in v (e ∷ es) [] = None
drop_in v (e ∷ es) (i ∷ is) = why.drop_by e (mark_in v i) (drop_in v es is)

-- a word, with the path that a ring waits for
abbrev pub Told : Type 0
Told = why.Word × List ℕ

abbrev pub word_as : Word → Told
word_as words.Altered = (why.Stale Altered, [])
word_as (words.Fallen entry) = (why.Stale (Fallen entry.now), [])
word_as (words.Maybe entry) = (why.Maybe (entry_path entry.now), [])
word_as (words.Ring entry) = (why.Ring, entry_path entry.now)
word_as words.Lost = (why.Lost, [])

-- by the first entry that drops, where one before it is unsure
abbrev pub told_unsure : BookEntry → Option BookEntry → Told
told_unsure e None = (why.Maybe (entry_path e), [])
told_unsure e (Some drop) = (why.Stale (Fallen drop), [])

-- by the first entry that isn't known to hold
abbrev pub told_open : Option BookEntry → Option (BookEntry × Mark) → Option Told
told_open drop None = None
told_open drop (Some (e, Holds)) = None
told_open drop (Some (e, Drops)) = Some (why.Stale (Fallen e), [])
told_open drop (Some (e, Unsure)) = Some (told_unsure e drop)
told_open drop (Some (e, Waits)) = Some (why.Ring, entry_path e)

-- by the entries of a record
abbrev pub told_in : Known → List BookEntry → List RowItem → Option Told
told_in v es is = told_open (drop_in v es is) (open_in v es is)

-- of a record
abbrev pub told_of : PastView → Known → Record → List RowItem → Option Told
told_of past v r is =
    if is_some (file_at past.sources r.target) then None
    else if is_rule (found_of past.sources r.target) then
    (if is_intact (file_at past.tree) r then told_in v r.entries is else Some (why.Stale Altered, []))
    else Some (why.Lost, [])

-- a reason of three parts
abbrev pub why_in : Why → List ℕ
why_in why = why.before.now ++ why.path.now ++ why.after.now

-- what is listed of a target, if anything is told of it
abbrev pub listed_told : Tree → List ℕ → Option Told → List ListedView
listed_told tree target None = []
listed_told tree target (Some told) = listed_if tree target told.1 (Some told.0)

-- what is listed of a path without a record, by the sources and by what is requested
abbrev pub unrecorded_in : Tree → List (List ℕ) → List ℕ → List ListedView
unrecorded_in sources requested path =
    if is_some (file_at sources path) then []
    else if is_rule (found_of sources path) then as_listed path states.New (codes "the book has no record of it")
    else if is_among requested path then as_listed path states.Unknown (codes "it is no file, and no rule makes it")
    else []
