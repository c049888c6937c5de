-- What the proofs of crates above may cite of records, beside the contracts. No other module of proofs is for them.
use Rattle.std.specs.Prelude.{◌≡◌, Bool, true, false, ◌⊎◌, List, [], ◌∷◌}
use Rattle.redo_record.specs.declared.deps.Dep.{Dep}
use Rattle.redo_record.specs.declared.deps.DepKind.{DepKind}
use Rattle.redo_record.specs.declared.deps.DepKind.TheVariants.{Change, Create}
use Rattle.redo_record.specs.declared.outcome.Outcome.{Outcome}
use Rattle.redo_record.specs.Paths.{IsAmong, AreDistinct, Path}
use Rattle.redo_record.specs.Progress.{changes, operands, IsLawful, at_once}
use Rattle.redo_record.specs.Entries.{is_entered, with_entries, search_deps, with_all}
use Rattle.redo_record.proofs.OperandLemmas as asked
use Rattle.redo_record.proofs.ChangeLemmas as changed
use Rattle.redo_record.proofs.FoundLemmas as found
use Rattle.redo_record.proofs.LawfulLemmas as lawful

-- Progress

-- the progress of what ends at once and asks for nothing is lawful
pub ended_is_lawful : (source : Path → Bool) (o : Outcome) (deps : List Dep) → operands source deps ≡ [] → IsLawful source (λ a. at_once o deps)
ended_is_lawful = lawful.at_once-lawful

-- Records

-- what a record waits for is entered by redo-ifchange
pub operand_entered : (source : Path → Bool) (deps : List Dep) (q : Path) → IsAmong (operands source deps) q → is_entered deps Change q ≡ true
operand_entered = asked.operand-entered

-- it waits for all that is entered so and is no source
pub entered_operand : (source : Path → Bool) (deps : List Dep) (q : Path) → source q ≡ false → is_entered deps Change q ≡ true → IsAmong (operands source deps) q
entered_operand = asked.entered-operand

-- where all that is entered so are sources, it waits for nothing
pub sources_alone : (source : Path → Bool) (deps : List Dep) → ((q : Path) → is_entered deps Change q ≡ true → source q ≡ true) → operands source deps ≡ []
sources_alone = lawful.sources-asked

-- what it waits for is no source
pub operand_target : (source : Path → Bool) (deps : List Dep) (q : Path) → IsAmong (operands source deps) q →
    source q ≡ false
operand_target = changed.operand-target

-- it waits for each path once, where each stands once among its change entries
pub operands_once : (source : Path → Bool) (deps : List Dep) → AreDistinct (changes deps) →
    AreDistinct (operands source deps)
operands_once = asked.distinct-operands

-- of paths that are entered after others: what is entered then is one of these or was entered before
pub change_cases : (ds : List Dep) (ps : List Path) (q : Path) →
    is_entered (with_entries ds Change ps) Change q ≡ true → (is_entered ds Change q ≡ true) ⊎ IsAmong ps q
change_cases = changed.change-cases

-- each of these is entered
pub change_entered : (ds : List Dep) (ps : List Path) (q : Path) → IsAmong ps q →
    is_entered (with_entries ds Change ps) Change q ≡ true
change_entered = changed.change-entered

-- and each path stands once among the change entries, where it did before
pub changes_once : (ds : List Dep) (ps : List Path) → AreDistinct (changes ds) →
    AreDistinct (changes (with_entries ds Change ps))
changes_once ds ps = asked.distinct-entries ds Change ps

-- an entry of a whole record is one of its first or its further entries
pub whole_cases : (ds es : List Dep) (k : DepKind) (p : Path) → is_entered (with_all ds es) k p ≡ true → (is_entered ds k p ≡ true) ⊎ (is_entered es k p ≡ true)
whole_cases = asked.all_cases

-- each of its first entries is one of the whole record
pub whole_first : (ds es : List Dep) (k : DepKind) (p : Path) → is_entered ds k p ≡ true →
    is_entered (with_all ds es) k p ≡ true
whole_first = asked.all_first

-- each path that its change entries name stands once among them, where it did among the first
pub whole_once : (ds es : List Dep) → AreDistinct (changes ds) → AreDistinct (changes (with_all ds es))
whole_once = asked.distinct-all

-- each of its further entries is one of the whole record
pub whole_second : (ds es : List Dep) (k : DepKind) (p : Path) → is_entered es k p ≡ true → is_entered (with_all ds es) k p ≡ true
whole_second = asked.all_second

-- of one entry alone
pub one_entered : (d : Dep) (k : DepKind) (p : Path) → is_entered (d ∷ []) k p ≡ true → (d.kind ≡ k) × (d.path ≡ p)
one_entered = found.is_entered-one

-- candidates that are missing are no change entries
pub missing_enters : (missing : List Path) (q : Path) → is_entered (with_entries [] Create missing) Change q ≡ true → ⊥
missing_enters = lawful.missing_creates

-- the record of a search has its .do file for its only change entry
pub search_enters : (missing : List Path) (do_file q : Path) → is_entered (search_deps missing do_file) Change q ≡ true → do_file ≡ q
search_enters = lawful.search_entry
