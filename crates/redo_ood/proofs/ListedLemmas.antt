-- What the code lists is what the definitions list.
use Rattle.std.proofs.Common.{◌≡◌, ◌∙◌, ℕ, Bool, true, false, List, [], ◌∷◌, Option, Some, None}
use Rattle.std.proofs.Common.{◌<◌, refl, sym, ap, arith, length, map, slice_get, slice_index_or, subst}
use Rattle.std.proofs.lemmas.List.{length-map}
use Rattle.std.specs.Prelude.{if◌then◌else◌, is_some}
use Rattle.redo_tree.specs.Tree.{Tree, file_at}
use Rattle.redo_which.specs.Rule.{found_of, is_rule}
use Rattle.redo_book.specs.declared.book.BookEntry.{BookEntry}
use Rattle.redo_book.specs.declared.book.BookRecord.{BookRecord}
use Rattle.redo_book.specs.Book.{Record, record_of}
use Rattle.redo_book.specs.Intact.{is_intact}
use Rattle.redo_skip.specs.Sources.{Sources}
use Rattle.redo_skip.specs.Checks.{Check, Checks}
use Rattle.redo_rules.specs.Build.{GivenView, checks_for, last_run_of, sources_for}
use Rattle.redo_why.specs.OutOfDate as why
use Rattle.redo_why.specs.OutOfDate.{drop_by, entry_path, first_drop, first_unsure, unsure_by, word_by}
use Rattle.redo_why.specs.Reasons.{Altered}
use Rattle.redo_why.specs.Verdicts.{Verdict, Keeps, Begins, Either, Verdicts, Mark, Holds, Drops, Unsure, Waits}
use Rattle.redo_why.specs.Verdicts.{mark, mark_checked, verdict, verdict_by}
use Rattle.redo_ood.specs.Listing.{first_waiting, listed_for, listed_if, verdicts_for, waits_by}
use Rattle.redo_ood.specs.Listing.{word_of_entries}
use Rattle.redo_ood.specs.inside.Lines.{Told, drop_in, mark_in, open_by, open_in, told_in, listed_told}
use Rattle.redo_ood.specs.inside.Lines.{told_of, told_open}
use Rattle.redo_ood.specs.inside.Rows.{AreItems, AreRows, IsAt, IsItem, told_as}
use Rattle.redo_ood.specs.inside.Verdicts.{AreVerdicts, Known, in_table}
use Rattle.redo_ood.specs.declared.verdicts.RowItem.{RowItem}
use Rattle.redo_ood.specs.declared.verdicts.RowItem.TheVariants as items
use Rattle.redo_ood.specs.declared.verdicts.Verdict.{Verdict as CodeVerdict}
use Rattle.redo_ood.specs.declared.verdicts.Row.{Row}
use Rattle.redo_ood.proofs.ItemLemmas.{rows-at, rows-long}
use Rattle.redo_ood.proofs.ScanLemmas.{got, got-mapped}
use Rattle.redo_ood.proofs.TableLemmas.{table-told}

-- what the first entry that isn't known to hold tells: the verdict, the first that drops, the path of the first that is
-- unsure, and of the first that waits
abbrev Opened : Option (BookEntry × Mark) → Option Verdict → Option BookEntry → List ℕ → List ℕ → Type 0
Opened None verdict drop unsure waits = verdict ≡ Some Keeps
Opened (Some (e, Holds)) verdict drop unsure waits = ⊥
Opened (Some (e, Drops)) verdict drop unsure waits = (verdict ≡ Some Begins) × (drop ≡ Some e)
Opened (Some (e, Unsure)) verdict drop unsure waits = (verdict ≡ Some Either) × (unsure ≡ entry_path e)
Opened (Some (e, Waits)) verdict drop unsure waits = (verdict ≡ None) × (waits ≡ entry_path e)

opened-more : (e : BookEntry) (m : Mark) (o : Option (BookEntry × Mark)) (x : Option Verdict) (d : Option BookEntry) (u w : List ℕ) →
    Opened o x d u w → Opened (open_by e m o) (verdict_by m x) (drop_by e m d) (unsure_by e m u) (waits_by e m w)
opened-more e Holds o x d u w h = h
opened-more e Drops o x d u w h = (refl, refl)
opened-more e Unsure o x d u w h = (refl, refl)
opened-more e Waits o x d u w h = (refl, refl)

-- what is listed by that entry
listed-opened : (tree : Tree) (target : List ℕ) (o : Option (BookEntry × Mark)) (x : Option Verdict) (d : Option BookEntry) (u w : List ℕ) →
    Opened o x d u w → listed_told tree target (told_open d o) ≡ listed_if tree target w (word_by u d x)
listed-opened tree target None x d u w h = rw h refl
listed-opened tree target (Some (e, Holds)) x d u w h = absurd h
listed-opened tree target (Some (e, Drops)) x d u w h = rw (h.0, h.1) refl
listed-opened tree target (Some (e, Unsure)) x None u w h = rw (h.0, h.1) refl
listed-opened tree target (Some (e, Unsure)) x (Some d) u w h = rw h.0 refl
listed-opened tree target (Some (e, Waits)) x d u w h = rw (h.0, h.1) refl

-- what is listed of a target by what its record tells, if it is no source, has a rule and is as the last run left it
listed-tested : (tree : Tree) (target waited : List ℕ) (source ruled intact : Bool) (t : Option Told) (word : Option why.Word) →
    listed_told tree target t ≡ listed_if tree target waited word →
    listed_told tree target (if source then None else if ruled then (if intact then t else Some (why.Stale Altered, [])) else Some (why.Lost, []))
    ≡ listed_if tree target waited (if source then None else if ruled then (if intact then word else Some (why.Stale Altered)) else Some why.Lost)
listed-tested tree target waited true ruled intact t word same = refl
listed-tested tree target waited false false intact t word same = refl
listed-tested tree target waited false true false t word same = refl
listed-tested tree target waited false true true t word same = same

module _ (s : Sources) (k : Checks) (book : List Record) (known : Known) (v : Verdicts)
    (same : (j : ℕ) (q : List ℕ) (c : Check) → k q ≡ Some c → IsAt book q j → told_as (known j) ≡ v q) where
  item-marked : (e : BookEntry) (i : RowItem) → IsItem s k book e i → mark_in known i ≡ mark s k v e
  item-marked e items.Holds is = sym (is v)
  item-marked e items.Drops is = sym (is v)
  item-marked e items.Unsure is = sym (is v)
  item-marked e (items.On j t) is = ap (mark_checked t) (same j is.path is.check is.in_check is.at) ∙ sym (is.marked v)

  opened : (es : List BookEntry) (is : List RowItem) → AreItems s k book es is →
      Opened (open_in known es is) (verdict s k v es) (first_drop s k v es) (first_unsure s k v es) (first_waiting s k v es)
  opened [] [] are = refl
  opened [] (i ∷ is) are = absurd are
  opened (e ∷ es) [] are = absurd are
  opened (e ∷ es) (i ∷ is) are =
      let m = mark s k v e in
      subst (λ n. Opened (open_by e n (open_in known es is)) (verdict_by m (verdict s k v es)) (drop_by e m (first_drop s k v es))
      (unsure_by e m (first_unsure s k v es)) (waits_by e m (first_waiting s k v es)))
      (sym (item-marked e i are.0))
      (opened-more e m (open_in known es is) (verdict s k v es) (first_drop s k v es) (first_unsure s k v es)
      (first_waiting s k v es) (opened es is are.1))

  dropped : (es : List BookEntry) (is : List RowItem) → AreItems s k book es is → drop_in known es is ≡ first_drop s k v es
  dropped [] [] are = refl
  dropped [] (i ∷ is) are = absurd are
  dropped (e ∷ es) [] are = absurd are
  dropped (e ∷ es) (i ∷ is) are =
      ap (λ m. drop_by e m (drop_in known es is)) (item-marked e i are.0)
      ∙ ap (drop_by e (mark s k v e)) (dropped es is are.1)

  entries-told : (tree : Tree) (target : List ℕ) (es : List BookEntry) (is : List RowItem) → AreItems s k book es is →
      listed_told tree target (told_in known es is)
      ≡ listed_if tree target (first_waiting s k v es) (word_of_entries s k v es)
  entries-told tree target es is are =
      ap (λ d. listed_told tree target (told_open d (open_in known es is))) (dropped es is are)
      ∙ listed-opened tree target (open_in known es is) (verdict s k v es) (first_drop s k v es) (first_unsure s k v es)
      (first_waiting s k v es) (opened es is are)

module _ (given : GivenView) (rows : List Row) (table : List (Option CodeVerdict))
    (are : AreRows (sources_for given) (checks_for given) given.past.book given.past.book rows) (verdicts : AreVerdicts rows table) where
  abbrev s : Sources
  s = sources_for given

  abbrev k : Checks
  k = checks_for given

  -- what the code tells of a record is what is listed of it
  pub record-told : (r : Record) (is : List RowItem) → AreItems s k given.past.book r.entries is →
      listed_told given.past.sources r.target (told_of given.past (in_table table) r is) ≡ listed_for given r
  record-told r is items =
      listed-tested given.past.sources r.target (first_waiting s k (verdicts_for given) r.entries)
      (is_some (file_at given.past.sources r.target)) (is_rule (found_of given.past.sources r.target))
      (is_intact (file_at given.past.tree) r) (told_in (in_table table) r.entries is)
      (word_of_entries s k (verdicts_for given) r.entries)
      (entries-told s k given.past.book (in_table table) (verdicts_for given)
      (λ j q c check at. table-told s (last_run_of given.past) given.request rows are table verdicts q c check j at)
      given.past.sources r.target r.entries is items)

-- the record and the items with a number
module _ (given : GivenView) (rows : List Row)
    (are : AreRows (sources_for given) (checks_for given) given.past.book given.past.book rows) (rs : List BookRecord) (n : ℕ)
    (made : BookRecord) (row : Row) (same : map record_of rs ≡ given.past.book) (below : n < length given.past.book)
    (at : made ≡ slice_index_or rs n made) (there : row ≡ slice_index_or rows n row) where
  pub numbered-record : slice_get given.past.book n ≡ Some (record_of made)
  numbered-record =
      let long : length rs ≡ length given.past.book = sym (length-map rs record_of) ∙ ap length same in
      let within : n < length rs = omega (arith, long, below) in
      sym (ap (λ b. slice_get b n) same) ∙ got-mapped record_of rs n made (got rs n made within at)

  pub numbered-items : AreItems (sources_for given) (checks_for given) given.past.book made.entries.items row.items.items
  numbered-items =
      let long = rows-long (sources_for given) (checks_for given) given.past.book given.past.book rows are in
      let within : n < length rows = omega (arith, long, below) in
      let found = rows-at (sources_for given) (checks_for given) given.past.book given.past.book rows are n (record_of made)
      numbered-record in
      let both : Some found.0 ≡ Some row = sym found.1 ∙ got rows n row within there in
      let one : found.0 ≡ row = cc in
      subst (λ (y : Row). AreItems (sources_for given) (checks_for given) given.past.book made.entries.items y.items.items)
      one found.2
