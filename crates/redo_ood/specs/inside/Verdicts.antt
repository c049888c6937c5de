-- Verdicts over numbered records, whose entries are marked as far as the tree tells.
use Rattle.std.specs.Prelude.{◌≡◌, ℕ, zero, suc, Bool, true, false, List, [], ◌∷◌, Option, Some, None, length}
use Rattle.std.specs.Prelude.{slice_get, slice_index_or}
use Rattle.redo_ood.specs.declared.verdicts.RowItem.{RowItem}
use Rattle.redo_ood.specs.declared.verdicts.RowItem.TheVariants as items
use Rattle.redo_ood.specs.declared.verdicts.Verdict.{Verdict}
use Rattle.redo_ood.specs.declared.verdicts.Verdict.TheVariants.{Keeps, Begins, Either}
use Rattle.redo_ood.specs.declared.verdicts.Row.{Row}

-- the verdict of each record that has one
abbrev pub Known : Type 0
Known = ℕ → Option Verdict

-- those of a table
abbrev pub in_table : List (Option Verdict) → Known
in_table table n = slice_index_or table n None

-- by the verdict that an item goes by, and by the further items where it holds
abbrev pub by_verdict : Bool → Option Verdict → Option Verdict → Option Verdict
by_verdict same None rest = None
by_verdict true (Some Keeps) rest = rest
by_verdict false (Some Keeps) rest = Some Begins
by_verdict same (Some Begins) rest = Some Either
by_verdict same (Some Either) rest = Some Either

abbrev pub by_item : Known → RowItem → Option Verdict → Option Verdict
by_item v items.Holds rest = rest
by_item v items.Drops rest = Some Begins
by_item v items.Unsure rest = Some Either
by_item v (items.On n same) rest = by_verdict same (v n) rest

-- of items, in order
abbrev pub of_items : Known → List RowItem → Option Verdict
of_items v [] = Some Keeps
of_items v (i ∷ is) = by_item v i (of_items v is)

abbrev pub of_row : Known → Option Row → Option Verdict
of_row v None = None
of_row v (Some r) = of_items v r.items.items

-- of records that are at most n deep
abbrev pub known_at : List Row → ℕ → Known
known_at book zero i = None
known_at book (suc n) i = of_row (known_at book n) (slice_get book i)

-- each verdict is one at some depth
abbrev pub AreReached : List Row → Known → Type 0
AreReached book v = (i : ℕ) (x : Verdict) → v i ≡ Some x → (n : ℕ) × (known_at book n i ≡ Some x)

-- each verdict follows from the others
abbrev pub AreFounded : List Row → Known → Type 0
AreFounded book v = (i : ℕ) (x : Verdict) → v i ≡ Some x → of_row v (slice_get book i) ≡ Some x

-- a table on the way
pub record IsSound (book : List Row) (table : List (Option Verdict)) : Type 0 where
  pub size : length table ≡ length book
  pub reached : AreReached book (in_table table)
  pub founded : AreFounded book (in_table table)

-- a record has its verdict, or has none that follows
abbrev pub IsFixedAt : List Row → Known → ℕ → Type 0
IsFixedAt book v i = v i ≡ of_row v (slice_get book i)

-- the verdicts of a book: each is one at some depth, and they follow from one another
pub record AreVerdicts (book : List Row) (table : List (Option Verdict)) : Type 0 where
  pub size : length table ≡ length book
  pub reached : AreReached book (in_table table)
  pub fixed : (i : ℕ) → IsFixedAt book (in_table table) i

-- how many have a verdict
abbrev pub known_count : List (Option Verdict) → ℕ
known_count [] = 0
known_count (None ∷ os) = known_count os
known_count (Some x ∷ os) = suc (known_count os)
