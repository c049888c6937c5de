-- True records, and what a build with a book of true records comes to.
use Rattle.std.specs.Prelude.{◌≡◌, ℕ, ◌≤◌, ◌↔◌, true, false, List, ◌∷◌, ◌++◌, Some, None, length, map}
use Rattle.std.specs.List.{AllByRecursion}
use Rattle.redo_digest.specs.Digest.{state_of}
use Rattle.redo_record.specs.declared.deps.Dep.{Dep}
use Rattle.redo_record.specs.declared.deps.DepKind.{DepKind}
use Rattle.redo_record.specs.declared.deps.DepKind.TheVariants as kinds
use Rattle.redo_record.specs.declared.outcome.Outcome.TheVariants.{Built}
use Rattle.redo_record.specs.Paths.{IsAmong}
use Rattle.redo_book.specs.declared.book.BookEntry.{BookEntry}
use Rattle.redo_book.specs.declared.book.BookEntry.TheVariants.{Change, Create, Always}
use Rattle.redo_book.specs.Book.{Record}
use Rattle.redo_build.specs.Rules.{Ask, Rules, asked_under}
use Rattle.redo_build.specs.Outcomes.{outcome_at, needed_at, record_of}
use Rattle.redo_skip.specs.Checks.{Check, Checks, built, is_asked, known_file, shown, with_book}
use Rattle.redo_skip.specs.Sources.{File, Sources, without_book}

-- entries as a report shows them
abbrev pub shown_all : List BookEntry → List Dep
shown_all entries = map shown entries

-- of a `change`: the file at its path is known, and has the recorded state
abbrev pub HasState : Sources → Ask → BookEntry → Type 0
HasState s a (Change state q) = (file : File) × (known_file s a q ≡ Some file) × (state_of file ≡ state)
HasState s a (Create q) = Unit {0}
HasState s a Always = Unit {0}

-- with these sources and answers, the target of a record came to what the record says
pub record IsWitness (r : Record) (s : Sources) (a : Ask) : Type 0 where
  pub ruled : s.has_rule r.target ≡ true
  pub file : File
  pub came : s.progress r.target a ≡ built file (shown_all r.entries)
  pub state : state_of file ≡ r.state
  pub states : AllByRecursion (HasState s a) r.entries

-- a record is true: with some sources and answers, its target came to what it says
pub record IsTrue (r : Record) : Type 0 where
  pub sources : Sources
  pub ask : Ask
  pub witness : IsWitness r sources ask

-- an entry of a first build agrees with a second: both have the same file there, or the path is free in the second. An
-- `always` never agrees
abbrev pub Agrees : Sources → Ask → Sources → Ask → DepKind → List ℕ → Type 0
Agrees s a t b kinds.Change q = (file : File) × (known_file s a q ≡ Some file) × (known_file t b q ≡ Some file)
Agrees s a t b kinds.Create q = t.is_free q ≡ true
Agrees s a t b kinds.Always q = ⊥

-- all of these entries agree
abbrev pub AllAgree : Sources → Ask → Sources → Ask → List Dep → Type 0
AllAgree s a t b deps = AllByRecursion (λ d. Agrees s a t b d.kind d.path) deps

-- a target behaves alike in two builds
pub record IsAlike (s : Sources) (a : Ask) (t : Sources) (b : Ask) (p : List ℕ) : Type 0 where
  -- if the first builds it and all its entries agree, the second builds it with the same file and entries
  pub whole : (file : File) (deps : List Dep) → s.has_rule p ≡ true → t.has_rule p ≡ true →
      s.progress p a ≡ built file deps → AllAgree s a t b deps → t.progress p b ≡ built file deps
  -- if the first entries agree and the next is a `change` whose path is asked for, the second asks for it, too
  pub next : (file : File) (deps more : List Dep) (q : List ℕ) → s.has_rule p ≡ true → t.has_rule p ≡ true →
      s.progress p a ≡ built file (deps ++ record { kind = kinds.Change; path = q } ∷ more) → AllAgree s a t b deps →
      is_asked t q ≡ true → IsAmong (asked_under (without_book t) p b) q

-- no path has two different files with the same state, one in each build
abbrev pub AreApart : Sources → Ask → Sources → Ask → Type 0
AreApart s a t b = (q : List ℕ) (file other : File) → known_file s a q ≡ Some file → known_file t b q ≡ Some other →
    state_of file ≡ state_of other → file ≡ other

-- a check is honest: its record is true of a build in which the target behaves as in this one, and no digest confuses a
-- file of that build with one of this, nor the file that it made with the one that it keeps
pub record IsHonest (s : Sources) (p : List ℕ) (c : Check) (a : Ask) : Type 0 where
  pub truth : IsTrue (record { target = p; state = state_of c.file; entries = c.entries })
  pub alike : IsAlike truth.sources truth.ask s a p
  pub result : state_of truth.witness.file ≡ state_of c.file → truth.witness.file ≡ c.file
  pub apart : AreApart truth.sources truth.ask s a

-- every check is honest
abbrev pub AreHonest : Sources → Checks → Ask → Type 0
AreHonest s k a = (p : List ℕ) (c : Check) → k p ≡ Some c → IsHonest s p c a

-- the script of a needed target is begun
pub record IsBegun (r : Rules) (request : List (List ℕ)) (limit : ℕ) (p : List ℕ) : Type 0 where
  pub needed : IsAmong (needed_at r request limit) p
  pub ruled : r.has_rule p ≡ true
  pub begins : r.begins p (outcome_at r limit) ≡ true

-- the build with the book comes to what the build without it comes to, and begins no other scripts
pub record IsSkipping (s : Sources) (k : Checks) (request : List (List ℕ)) (limit : ℕ) : Type 0 where
  pub within : length (needed_at (with_book s k) request limit) ≤ limit
  pub needed : (p : List ℕ) →
      IsAmong (needed_at (with_book s k) request limit) p ↔ IsAmong (needed_at (without_book s) request limit) p
  pub outcomes : (p : List ℕ) → IsAmong (needed_at (without_book s) request limit) p →
      outcome_at (with_book s k) limit p ≡ outcome_at (without_book s) limit p
  pub records : (p : List ℕ) → IsAmong (needed_at (without_book s) request limit) p →
      record_of (with_book s k) limit p ≡ record_of (without_book s) limit p
  -- every script that is begun with the book is begun without it
  pub begun : (p : List ℕ) → IsBegun (with_book s k) request limit p → IsBegun (without_book s) request limit p
  -- a target whose script isn't begun is in check; without the book it is built with the file that it keeps
  pub kept : (p : List ℕ) → IsAmong (needed_at (without_book s) request limit) p →
      (with_book s k).begins p (outcome_at (with_book s k) limit) ≡ false →
      (c : Check) × (k p ≡ Some c) × (outcome_at (without_book s) limit p ≡ Some (Built c.file))

-- no needed target is cyclic
abbrev pub NoneCyclic : Rules → List (List ℕ) → ℕ → Type 0
NoneCyclic r request limit = (p : List ℕ) → IsAmong (needed_at r request limit) p → outcome_at r limit p ≡ None → ⊥
