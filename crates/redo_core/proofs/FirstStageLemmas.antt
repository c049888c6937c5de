-- A path without a rule is decided at once; one with a rule is in check or ready.
use Rattle.std.proofs.Common.{◌≡◌, ℕ, List, [], Some, None, true, false, inl, inr, refl, sym, ap, subst, ◌∙◌, arith}
use Rattle.std.proofs.lemmas.Bool.{both_ways}
use Rattle.redo_record.specs.declared.deps.Dep.{Dep}
use Rattle.redo_record.specs.declared.outcome.Outcome.{Outcome}
use Rattle.redo_record.specs.Paths.{IsAmong}
use Rattle.redo_record.specs.Progress.{Progress}
use Rattle.redo_which.specs.declared.Rule.{Rule as FoundRule}
use Rattle.redo_which.specs.Rule.{found_of}
use Rattle.redo_build.specs.Rules.{Ask, operands}
use Rattle.redo_build.specs.inside.Turns.{IsWork}
use Rattle.redo_build.specs.Outcomes.{outcome_at}
use Rattle.redo_build.specs.Schedule.{nothing_known, only}
use Rattle.redo_build.proofs.DepthLemmas.{cases_Option}
use Rattle.redo_skip.specs.Checks.{progress_checked, record_checked}
use Rattle.redo_skip.proofs.NewBookLemmas.{are-checks}
use Rattle.redo_rules.specs.Build.{checks_for, last_run_of}
use Rattle.redo_rules.proofs.Public.{lawful_for}
use Rattle.redo_core.specs.Views.{told_by}
use Rattle.redo_core.specs.declared.facts.Facts.{Facts}
use Rattle.redo_core.specs.inside.Checking.{IsBegunBehind, IsDueCheck}
use Rattle.redo_core.specs.inside.Decided.{IsDecided}
use Rattle.redo_core.specs.inside.Slots.{IsDueWith, GivenView, rules_for, sources_for, InCheck}
use Rattle.redo_core.specs.inside.Works.{IsUnreadWork, found_as, known_in, told_in}
use Rattle.redo_core.proofs.CheckingLemmas.{behind-moves}

-- it is in no check
unruled-check : (given : GivenView) (p : List ℕ) → (rules_for given).has_rule p ≡ false → checks_for given p ≡ None
unruled-check given p none = elim (cases_Option (checks_for given p)) [
  | inl out ↦ out
  | inr some ↦
      let ruled = (are-checks (sources_for given) (last_run_of given.past) given.request).ruled p some.0 some.1 in
      absurd (both_ways _ none ruled)
]

-- it comes as far as with no book
pub unruled-progress : (given : GivenView) (p : List ℕ) (a : Ask) → (rules_for given).has_rule p ≡ false →
    (rules_for given).progress p a ≡ (sources_for given).progress p a
unruled-progress given p a none = ap (λ c. progress_checked (sources_for given) p c a) (unruled-check given p none)

-- and no answer makes a difference
pub unruled-same : (given : GivenView) (p : List ℕ) (a : Ask) → (rules_for given).has_rule p ≡ false →
    (rules_for given).progress p nothing_known ≡ (rules_for given).progress p a
unruled-same given p a none =
    let lawful = lawful_for given in
    (lawful.each p).local nothing_known a (λ q m.
    (let P : List (List ℕ) → Type 0 = λ xs. IsAmong xs q in absurd (subst P (lawful.unruled p nothing_known none).0 m)))

pub unruled-fact : (given : GivenView) (p : List ℕ) (o : Outcome) (deps : List Dep) → (rules_for given).has_rule p ≡ false →
    (sources_for given).progress p nothing_known ≡ record { outcome = Some o; deps = deps } → IsDecided given p o deps false
unruled-fact given p o deps none is =
    let r = rules_for given in
    let a = outcome_at r 0 in
    let same = sym (unruled-same given p a none) ∙ unruled-progress given p nothing_known none ∙ is in
    let own = sym (unruled-progress given p a none) ∙ same in
    let recorded : r.recorded p a ≡ ((sources_for given).progress p a).deps = ap (λ c. record_checked (sources_for given) p c a) (unruled-check given p none) in
    (deps, record { depth = 0; is = same; recorded = sym (recorded ∙ ap (λ (x : Progress). x.deps) own); begun = rw none refl })

-- what a path without a rule came to
pub unruled-outcome : (given : GivenView) (p : List ℕ) (o : Outcome) (deps : List Dep) → (rules_for given).has_rule p ≡ false →
    (sources_for given).progress p nothing_known ≡ record { outcome = Some o; deps = deps } →
    ((rules_for given).progress p nothing_known).outcome ≡ Some o
unruled-outcome given p o deps none is = ap (λ (x : Progress). x.outcome) (unruled-progress given p nothing_known none ∙ is)

-- Where the search finds a rule

pub ruled : (given : GivenView) (p : List ℕ) (rule : FoundRule) → found_of given.past.sources p ≡ found_as rule → (rules_for given).has_rule p ≡ true
ruled given p rule found = rw found refl

none-told : (facts : Facts) → known_in facts ≡ [] → (q : List ℕ) → told_in facts q ≡ None
none-told facts none q = ap (λ xs. told_by xs q) none

none-asked : (given : GivenView) (asked : List Dep) → asked ≡ [] → (q : List ℕ) → IsAmong (operands (rules_for given) asked) q → ⊥
none-asked given asked none q m = let P : List Dep → Type 0 = λ ds. IsAmong (operands (rules_for given) ds) q in subst P none m

none-only : (given : GivenView) (asked : List Dep) (a : Ask) → asked ≡ [] → (q : List ℕ) → only (operands (rules_for given) asked) a q ≡ None
none-only given asked a none q = ap (λ ds. only (operands (rules_for given) ds) a q) none

-- a check that is due asked for nothing yet
pub first-due : (given : GivenView) (p : List ℕ) (held : InCheck) → found_of given.past.sources p ≡ found_as held.rule → known_in held.facts ≡ [] →
    held.facts.asked ≡ [] → held.check.asked ≡ [] → ((a : Ask) → IsDueCheck given p a held.check) →
    (a : Ask) → IsDueWith (rules_for given) a given p 0 held
first-due given p held found known behind asked due a = record {
  is_held = record { found = found; at_first = refl; none_behind = behind };
  is_due = due a;
  answered = λ q m none. none-asked given held.check.asked asked q m;
  exact = λ q. none-told held.facts known q ∙ sym (none-only given held.check.asked a asked q);
}

-- a script that isn't in check, or whose check fell at once, has what a work needs
pub first-unread : (given : GivenView) (p : List ℕ) (rule : FoundRule) (facts : Facts) → found_of given.past.sources p ≡ found_as rule → known_in facts ≡ [] →
    facts.asked ≡ [] → IsBegunBehind given p [] nothing_known → IsUnreadWork given p (found_as rule) facts
first-unread given p rule facts found known asked behind =
    let r = rules_for given in
    let first : IsWork r p 0 [] = record {
      depth = 0;
      looks = 0;
      begun = record { in_check = λ k below. absurd (omega (arith, below)); begun = behind.begins nothing_known (λ q m. absurd m) };
      came = record { answered = λ k q below m none'. absurd (omega (arith, below)); stopped = λ k below. absurd (omega (arith, below)) };
      is = refl;
      fed = λ q m none'. m;
    } in
    let W : List Dep → Type 0 = λ ds. (work : IsWork r p 0 ds) × ((q : List ℕ) → told_in facts q ≡ only (operands r ds) (outcome_at r work.depth) q) in
    let work : W facts.asked = subst W (sym asked) (first, λ q. none-told facts known q) in
    let B : List Dep → Type 0 = λ ds. IsBegunBehind given p ds (told_in facts) in
    record {
      is_found = found;
      is_work = work.0;
      exact = work.1;
      behind = subst B (sym asked) (behind-moves given p [] nothing_known (told_in facts) behind (λ q m. absurd m));
    }
