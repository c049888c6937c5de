-- The definitions compute: a small build with books. The target `top` asks for `mid`, which asks for `low`, which asks
-- for the source `src`; only `top` makes a file.
use Rattle.std.proofs.Common.{◌≡◌, ℕ, Bool, true, false, ◌||◌, ◌&&◌, not, List, [], ◌∷◌, Some, None, is_none}
use Rattle.std.proofs.Common.{refl, bytes_eq}
use Rattle.std.specs.Prelude.{if◌then◌else◌}
use Rattle.std.specs.List.{list_any}
use Rattle.redo_digest.specs.Digest.{state_of}
use Rattle.redo_record.specs.declared.deps.DepKind.TheVariants as kinds
use Rattle.redo_record.specs.declared.outcome.Outcome.TheVariants.{Built, Failed, Cyclic}
use Rattle.redo_record.specs.declared.outcome.Why.TheVariants as why
use Rattle.redo_record.specs.Progress.{Progress}
use Rattle.redo_book.specs.declared.book.BookEntry.{BookEntry}
use Rattle.redo_book.specs.declared.book.BookEntry.TheVariants.{Change, Create, Always}
use Rattle.redo_build.specs.Rules.{Ask, Rules}
use Rattle.redo_build.specs.Outcomes.{outcome_at, needed_at, final_outcome, record_of}
use Rattle.redo_skip.specs.Sources.{File, Sources}
use Rattle.redo_skip.specs.Checks.{asking, is_kept, waits_in_check, with_book}
use Rattle.redo_skip.specs.NewBook.{LastRun, checks_of, new_book}

abbrev top : List ℕ
top = 116 ∷ []

abbrev mid : List ℕ
mid = 109 ∷ []

abbrev low : List ℕ
low = 108 ∷ []

abbrev src : List ℕ
src = 115 ∷ []

abbrev other : List ℕ
other = 111 ∷ []

-- a script that asks for these paths at once, and is then built with this file
abbrev script : (List ℕ → Bool) → List (List ℕ) → File → Ask → Progress
script source ps file a = record {
  outcome = if list_any (λ q. not (source q) && is_none (a q)) ps then None else Some (Built file);
  deps = asking ps;
}

abbrev is_src : List ℕ → Bool
is_src q = bytes_eq q src

abbrev scripts : List ℕ → Ask → Progress
scripts p a =
    if bytes_eq p top then script is_src (mid ∷ []) (Some (7 ∷ [])) a
    else if bytes_eq p mid then script is_src (low ∷ []) None a
    else if bytes_eq p low then script is_src (src ∷ []) None a
    else record { outcome = Some (Failed why.NoRule); deps = [] }

abbrev sources : Sources
sources = record {
  is_source = is_src;
  has_rule = λ p. bytes_eq p top || (bytes_eq p mid || bytes_eq p low);
  progress = scripts;
  file = λ q. Some (1 ∷ []);
  is_free = λ q. bytes_eq q other;
  is_script = λ q. false;
}

-- the last run made no file at `mid`, for these entries
abbrev last_with : List BookEntry → LastRun
last_with entries = record {
  book = record { target = mid; state = None; entries = entries } ∷ [];
  file = λ p. None;
}

abbrev request : List (List ℕ)
request = top ∷ []

-- the rules of the build with the book of that run
abbrev rules : List BookEntry → Rules
rules entries = with_book sources (checks_of sources (last_with entries) request)

-- Of a record whose entries all stand

abbrev holds : List BookEntry
holds = Create other ∷ Change None low ∷ []

-- the target is kept, and not begun
kept : outcome_at (rules holds) 3 mid ≡ Some (Built None)
kept = refl

kept-is : is_kept sources (checks_of sources (last_with holds) request mid) (outcome_at (rules holds) 3) ≡ true
kept-is = refl

kept-begins : (rules holds).begins mid (outcome_at (rules holds) 3) ≡ false
kept-begins = refl

-- and the new book has its record as it was
kept-record : new_book sources (last_with holds) request 4 mid ≡
    Some (record { target = mid; state = None; entries = holds })
kept-record = refl

-- as well as that of a target that was begun
new-record : new_book sources (last_with holds) request 4 low ≡
    Some (record { target = low; state = None; entries = Change (state_of (Some (1 ∷ []))) src ∷ [] })
new-record = refl

-- Of a record of which an entry falls: `low` made a file

abbrev fell : List BookEntry
fell = Create other ∷ Change (Some (1 ∷ [])) low ∷ []

-- the script is begun
begun : (rules fell).begins mid (outcome_at (rules fell) 4) ≡ true
begun = refl

-- and the record is that of the script alone
begun-record : record_of (rules fell) 4 mid ≡ record { kind = kinds.Change; path = low } ∷ []
begun-record = refl

-- what is to be made in any case is begun, and asks for nothing in its check
abbrev in_any_case : List BookEntry
in_any_case = Always ∷ Change None other ∷ []

always-begun : (rules in_any_case).begins mid (outcome_at (rules in_any_case) 4) ≡ true
always-begun = refl

always-needs : needed_at (rules in_any_case) request 4 ≡ top ∷ mid ∷ low ∷ []
always-needs = refl

-- Of a false record: no script asks for `other`

abbrev false_record : List BookEntry
false_record = Change None other ∷ []

-- the path is needed then, and the build comes to the same all the same
false-needs : needed_at (rules false_record) request 4 ≡ top ∷ mid ∷ other ∷ low ∷ []
false-needs = refl

false-built : outcome_at (rules false_record) 4 top ≡ Some (Built (Some (7 ∷ [])))
false-built = refl

-- Of a record that waits for its own target

abbrev waits : List BookEntry
waits = Create other ∷ Change None mid ∷ Change None low ∷ []

-- it waits for good, and is shown up to that entry and with it
waits-outcome : final_outcome (rules waits) 4 mid ≡ Cyclic
waits-outcome = refl

waits-is : waits_in_check sources (checks_of sources (last_with waits) request mid) (outcome_at (rules waits) 4) ≡ true
waits-is = refl

waits-record : record_of (rules waits) 4 mid ≡
    record { kind = kinds.Create; path = other } ∷ record { kind = kinds.Change; path = mid } ∷ []
waits-record = refl
