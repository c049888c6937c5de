-- What the search enters, and what ends at once.
use Rattle.std.proofs.Common.{◌≡◌, Bool, true, false, not, inl, inr, List, [], ◌∷◌, refl}
use Rattle.std.proofs.lemmas.Bool.{both_ways, not-true}
use Rattle.redo_names.proofs.ListLemmas.{filter-passes}
use Rattle.redo_record.specs.declared.deps.Dep.{Dep}
use Rattle.redo_record.specs.declared.deps.DepKind.TheVariants.{Change, Create}
use Rattle.redo_record.specs.declared.outcome.Outcome.{Outcome}
use Rattle.redo_record.specs.Paths.{Path, AreDistinct}
use Rattle.redo_record.specs.Entries.{is_entered, with_entry, with_entries, search_deps}
use Rattle.redo_record.specs.Progress.{at_once, changes, operands, IsLawful}
use Rattle.redo_record.proofs.FoundLemmas.{entered_cases}
use Rattle.redo_record.proofs.OperandLemmas.{distinct-entries, operand-entered, none_among}

-- one that ends at once and asks for nothing
pub at_once-lawful : (source : Path → Bool) (o : Outcome) (deps : List Dep) → operands source deps ≡ [] → IsLawful source (λ a. at_once o deps)
at_once-lawful source o deps none = record {
  local = λ a b h. refl;
  answered = λ q a o' e m lack. rw none at m;
  lacking = λ a e. absurd cc;
  grows = λ q a b x m. m;
  waits = λ q a b x m lack. refl;
  distinct = λ a. rw none tt;
}

pub creates_none : (deps : List Dep) (ps : List Path) (q : Path) → is_entered (with_entries deps Create ps) Change q ≡ true → is_entered deps Change q ≡ true
creates_none deps [] q h = h
creates_none deps (p ∷ ps) q h = elim (entered_cases deps Create Change p q (creates_none (with_entry deps Create p) ps q h)) [
  | inl old ↦ old
  | inr new ↦ let other : Create ≡ Change = new.0 in absurd cc
]

-- candidates that are missing are no change entries
pub missing_creates : (missing : List Path) (q : Path) → is_entered (with_entries [] Create missing) Change q ≡ true → ⊥
missing_creates missing q h = let bad : false ≡ true = creates_none [] missing q h in cc

-- the .do file is the only change entry of a search
pub search_entry : (missing : List Path) (do_file q : Path) → is_entered (search_deps missing do_file) Change q ≡ true → do_file ≡ q
search_entry missing do_file q h = elim (entered_cases (with_entries [] Create missing) Change Change do_file q h) [
  | inl old ↦ absurd (missing_creates missing q old)
  | inr new ↦ new.1
]

pub sources-asked : (source : Path → Bool) (deps : List Dep) → ((q : Path) → is_entered deps Change q ≡ true → source q ≡ true) → operands source deps ≡ []
sources-asked source deps h = none_among (operands source deps) (λ q m.
    let target_too : source q ≡ false = not-true _ (filter-passes (λ p. not (source p)) (changes deps) q m) in
    both_ways _ target_too (h q (operand-entered source deps q m)))

pub search_distinct : (missing : List Path) (do_file : Path) → AreDistinct (changes (search_deps missing do_file))
search_distinct missing do_file = distinct-entries (with_entries [] Create missing) Change (do_file ∷ []) (distinct-entries [] Create missing tt)
