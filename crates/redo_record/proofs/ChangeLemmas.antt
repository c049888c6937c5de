-- Paths that are entered as changes, one after another.
use Rattle.std.proofs.Common.{◌≡◌, Bool, true, false, not, ◌⊎◌, inl, inr, List, [], ◌∷◌, subst}
use Rattle.std.proofs.lemmas.Bool.{not-true}
use Rattle.redo_names.proofs.ListLemmas.{filter-passes}
use Rattle.redo_record.specs.declared.deps.Dep.{Dep}
use Rattle.redo_record.specs.declared.deps.DepKind.TheVariants.{Change}
use Rattle.redo_record.specs.Entries.{is_entered, with_entry, with_entries}
use Rattle.redo_record.specs.Paths.{Path, IsAmong}
use Rattle.redo_record.specs.Progress.{changes, operands}
use Rattle.redo_record.proofs.EntryLemmas.{Extends-with_entries, is_entered-with_entry}
use Rattle.redo_record.proofs.FoundLemmas.{entered_cases}

-- what is entered is one of them, or was entered before
pub change-cases : (ds : List Dep) (ps : List Path) (q : Path) →
    is_entered (with_entries ds Change ps) Change q ≡ true → (is_entered ds Change q ≡ true) ⊎ IsAmong ps q
change-cases ds [] q h = inl h
change-cases ds (p ∷ ps) q h = elim (change-cases (with_entry ds Change p) ps q h) [
  | inl before ↦ elim (entered_cases ds Change Change p q before) [
    | inl old ↦ inl old
    | inr new ↦ inr (inl new.1)
  ]
  | inr later ↦ inr (inr later)
]

-- each of them is entered
pub change-entered : (ds : List Dep) (ps : List Path) (q : Path) → IsAmong ps q →
    is_entered (with_entries ds Change ps) Change q ≡ true
change-entered ds [] q m = absurd m
change-entered ds (p ∷ ps) q m = elim m [
  | inl here ↦
      let P : Path → Type 0 = λ y. is_entered (with_entries (with_entry ds Change p) Change ps) Change y ≡ true in
      subst P here
      ((Extends-with_entries (with_entry ds Change p) Change ps).still Change p (is_entered-with_entry ds Change p))
  | inr later ↦ change-entered (with_entry ds Change p) ps q later
]

-- what a record waits for is no source
pub operand-target : (source : Path → Bool) (deps : List Dep) (q : Path) → IsAmong (operands source deps) q →
    source q ≡ false
operand-target source deps q m = not-true _ (filter-passes (λ p. not (source p)) (changes deps) q m)
