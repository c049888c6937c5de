-- What a target of a quiet board comes to is what its build says of it.
use Rattle.std.proofs.Common.{◌≡◌, ℕ, zero, suc, ◌+◌, ◌<◌, Bool, ◌&&◌, true, false, inl, inr, List, []}
use Rattle.std.proofs.Common.{Some, None, refl, sym, ap, subst, ◌∙◌, arith}
use Rattle.std.specs.Prelude.{Box, bytes_eq, unwrap_or}
use Rattle.std.specs.declared.alloc.Global.{Global}
use Rattle.std.proofs.lemmas.Bool.{and_from, and_right, cases_Bool}
use Rattle.std.proofs.lemmas.Slice.Eq.{bytes_eq-Decides}
use Rattle.redo_record.specs.declared.deps.Dep.{Dep}
use Rattle.redo_record.specs.declared.outcome.Outcome.{Outcome}
use Rattle.redo_record.specs.declared.outcome.Outcome.TheVariants.{Cyclic}
use Rattle.redo_record.specs.Paths.{IsAmong}
use Rattle.redo_record.specs.Progress.{Progress}
use Rattle.redo_step.specs.JobView.{JobView, record_so_far}
use Rattle.redo_step.specs.Setting.{is_rule}
use Rattle.redo_which.specs.Rule.{found_of}
use Rattle.redo_build.specs.Outcomes.{outcome_at, record_of}
use Rattle.redo_build.specs.Rules.{AreLawful, Ask, Extends, Rules, asked_under, operands}
use Rattle.redo_build.proofs.DepthLemmas.{cases_Option, deeper, operand-target, outcome_at-step}
use Rattle.redo_rules.proofs.Public.{lawful_for, plain_lawful}
use Rattle.redo_core.specs.inside.Checking.{TellsAlike}
use Rattle.redo_core.specs.inside.Decided.{IsDecided}
use Rattle.redo_core.specs.inside.Reported.{IsBegunAs, IsShown}
use Rattle.redo_core.specs.inside.Slots.{outcomes_at_limit, Fits, IsCheckingWith, IsWaitingWith, stage_outcome}
use Rattle.redo_core.specs.inside.Slots.{GivenView, rules_for, sources_for, Awaiting, Stage, Checking, Waiting}
use Rattle.redo_core.specs.inside.Slots.{Decided}
use Rattle.redo_core.specs.inside.Works.{all_asked, job_deps, told_in}
use Rattle.redo_core.specs.declared.work.Begun.{Begun}
use Rattle.redo_core.proofs.CheckingLemmas.{waiting-shows}
use Rattle.redo_core.proofs.AllAskedLemmas.{asked-cases, told-alike}

later_deps : (job : JobView) → 0 < job.turn → record_so_far job ≡ job_deps job
later_deps job h = (elim (job.turn) as (λ (n : ℕ). 0 < n → record_so_far job ≡ elim n [ zero ↦ [] | suc k ↦ record_so_far job ]) [
  | zero ↦ λ none. absurd (omega (arith, none))
  | suc k ↦ λ some. refl
]) h

module _ (r : Rules) (lawful : AreLawful r) (p : List ℕ) where
  -- what has ended keeps its record, and whether it was begun, with more answers
  fact-stays : (a b : Ask) (o : Outcome) → Extends r a b → (r.progress p a).outcome ≡ Some o →
      (r.recorded p a ≡ r.recorded p b) × (r.begins p a ≡ r.begins p b)
  fact-stays a b o more ended =
      let same : (q : List ℕ) → IsAmong (asked_under r p a) q → a q ≡ b q = λ q m.
      elim (cases_Option (a q)) [
        | inl none ↦ absurd ((lawful.each p).answered q a o ended m none)
        | inr some ↦ some.1 ∙ sym (more q some.0 (operand-target r lawful (r.progress p a).deps q m) some.1)
      ] in
      (lawful.recorded_local p a b same, lawful.begins_local p a b same)

  -- a fact of any depth is one of the limit, where the build has an outcome there
  pub fact-agrees : (n limit : ℕ) (o o' : Outcome) → r.is_source p ≡ false → (r.progress p (outcome_at r n)).outcome ≡ Some o →
      outcome_at r limit p ≡ Some o' →
      (r.recorded p (outcome_at r n) ≡ r.recorded p (outcome_at r limit)) × (r.begins p (outcome_at r n) ≡ r.begins p (outcome_at r limit))
  fact-agrees n limit o o' target here there =
      let next : outcome_at r (suc limit) p ≡ Some o' = deeper r lawful limit (suc limit) (omega arith) p o' target there in
      let ended : (r.progress p (outcome_at r limit)).outcome ≡ Some o' = sym (outcome_at-step r lawful limit p target) ∙ next in
      let one = fact-stays (outcome_at r n) (outcome_at r (n + limit)) o (deeper r lawful n (n + limit) (omega arith)) here in
      let two = fact-stays (outcome_at r limit) (outcome_at r (n + limit)) o' (deeper r lawful limit (n + limit) (omega arith)) ended in
      (one.0 ∙ sym two.0, one.1 ∙ sym two.1)

-- the build says this outcome of the target, this record, and whether it is begun
pub record IsOfBuild (given : GivenView) (p : List ℕ) (stage : Stage) (outcome : Outcome) (deps : List Dep) (begun : Bool) : Type 0 where
  pub outcome_is : outcome ≡ unwrap_or (stage_outcome stage) Cyclic
  pub deps_is : deps ≡ record_of (rules_for given) given.limits.targets p
  pub begun_is : begun ≡ ((rules_for given).has_rule p && (rules_for given).begins p (outcomes_at_limit given))

-- a target asked for a path that has no outcome, if it waits
abbrev pub LacksOne : Rules → Ask → List ℕ → Stage → Type 0
LacksOne r a p (Checking awaiting) = (q : List ℕ) × IsAmong (operands r awaiting.held.value.check.asked) q × (a q ≡ None)
LacksOne r a p (Waiting begun) =
    (q : List ℕ) × IsAmong (operands r (all_asked begun.value.job begun.value.facts)) q × (a q ≡ None)
LacksOne r a p _ = Unit {0}

module _ (given : GivenView) (p : List ℕ) (a : Ask)
    (records : (rules_for given).recorded p a ≡ record_of (rules_for given) given.limits.targets p)
    (begins : (rules_for given).begins p a ≡ (rules_for given).begins p (outcomes_at_limit given))
    (target : (rules_for given).is_source p ≡ false) where
  abbrev r : Rules
  r = rules_for given

  module _ (turn : ℕ) (held : Box Begun Global) (fits : IsWaitingWith (rules_for given) a given p turn held.value) where
    abbrev job : JobView
    job = held.value.job

    abbrev told : Ask
    told = told_in held.value.facts

    told-more : Extends (rules_for given) (told_in held.value.facts) a
    told-more q o source h = (fits.told q o h).1

    same-told : TellsAlike (rules_for given) held.value.facts.asked (told_in held.value.facts) a
    same-told = told-alike r told a held.value.facts.asked (λ q o h. (fits.told q o h).1) fits.checked

    -- while an operand lacks, the script is where it stopped
    still : (q : List ℕ) → IsAmong (operands (rules_for given) (all_asked held.value.job held.value.facts)) q → a q ≡ None →
        (sources_for given).progress p a ≡ record { outcome = None; deps = record_so_far held.value.job }
    still q m none =
        let own : IsAmong (operands r (job_deps job)) q = elim (asked-cases r held.value.facts.asked (job_deps job) q m) [
          | inl first ↦ absurd (fits.checked q first (same-told q first ∙ none))
          | inr second ↦ second
        ] in
        let O : List Dep → Type 0 = λ ds. IsAmong (operands r ds) q in
        let far : IsAmong (operands r (record_so_far job)) q = subst O (sym (later_deps job (omega (arith, fits.at_turn, fits.stopped)))) own in
        let there : IsAmong (operands r ((sources_for given).progress p told).deps) q = subst O (ap (λ (x : Progress). x.deps) (sym fits.own)) far in
        ((plain_lawful given).each p).waits q told a told-more there none ∙ fits.own

    waiting-right : (o : Outcome) (deps : List Dep) (begun : Bool) → IsShown given (Waiting held) o deps → IsBegunAs (Waiting held) begun →
        LacksOne (rules_for given) a p (Waiting held) → IsOfBuild given p (Waiting held) o deps begun
    waiting-right o deps begun shown is lacks =
        let own : record_so_far job ≡ ((sources_for given).progress p a).deps =
        ap (λ (x : Progress). x.deps) (sym (still lacks.0 lacks.1 lacks.2)) in
        let ruled : r.has_rule p ≡ true =
        ap (λ x. is_rule (found_of given.past.sources x)) (sym fits.of_target) ∙ ap is_rule fits.is_job.found in
        record {
          outcome_is = shown.0;
          deps_is = shown.1 ∙ own ∙ sym (fits.behind.recorded a same-told) ∙ records;
          begun_is = is ∙ sym (and_from (r.has_rule p) (r.begins p (outcomes_at_limit given)) ruled (sym begins ∙ fits.behind.begins a same-told));
        }

  checking-right : (turn : ℕ) (awaiting : Awaiting) → IsCheckingWith (rules_for given) a given p turn awaiting →
      (o : Outcome) (deps : List Dep) (begun : Bool) → IsShown given (Checking awaiting) o deps → IsBegunAs (Checking awaiting) begun →
      LacksOne (rules_for given) a p (Checking awaiting) → IsOfBuild given p (Checking awaiting) o deps begun
  checking-right turn awaiting fits o deps begun shown is lacks =
      let here : a awaiting.path ≡ None = elim (cases_Bool (bytes_eq awaiting.path lacks.0)) [
        | inl t ↦ ap a ((bytes_eq-Decides awaiting.path lacks.0).0 t) ∙ lacks.2
        | inr f ↦ absurd (fits.answered lacks.0 lacks.1 (λ same. let bad : false ≡ true = sym f ∙ (bytes_eq-Decides awaiting.path lacks.0).1 same in cc) lacks.2)
      ] in
      let shows = waiting-shows given p awaiting.held.value.check a awaiting.path fits.waits a (λ x m other. refl) here in
      record {
        outcome_is = shown.0;
        deps_is = shown.1 ∙ sym shows.2 ∙ records;
        begun_is = is ∙ sym (ap (λ b. r.has_rule p && b) (sym begins ∙ shows.1) ∙ and_right (r.has_rule p) false refl);
      }

  decided-right : (outcome : Outcome) (shown : List Dep) (begun : Bool) → IsDecided given p outcome shown begun →
      outcomes_at_limit given p ≡ Some outcome →
      (shown ≡ record_of (rules_for given) given.limits.targets p) ×
      (begun ≡ ((rules_for given).has_rule p && (rules_for given).begins p (outcomes_at_limit given)))
  decided-right outcome shown begun is known =
      let fact = is.1 in
      let ended : (r.progress p (outcome_at r fact.depth)).outcome ≡ Some outcome = ap (λ (x : Progress). x.outcome) fact.is in
      let same = fact-agrees r (lawful_for given) p fact.depth given.limits.targets outcome outcome target ended known in
      (fact.recorded ∙ same.0, fact.begun ∙ ap (λ b. r.has_rule p && b) same.1)

  -- what a settled target shows is what the build says
  pub stage-shown : (turn : ℕ) (stage : Stage) (o : Outcome) (deps : List Dep) (begun : Bool) → Fits (rules_for given) a given p turn stage →
      IsShown given stage o deps → IsBegunAs stage begun → LacksOne (rules_for given) a p stage →
      stage_outcome stage ≡ outcomes_at_limit given p → IsOfBuild given p stage o deps begun
  stage-shown turn (Checking awaiting) o deps begun fits shown is lacks known = checking-right turn awaiting fits o deps begun shown is lacks
  stage-shown turn (Waiting held) o deps begun fits shown is lacks known = waiting-right turn held fits o deps begun shown is lacks
  stage-shown turn (Decided fact) o deps begun fits shown is lacks known =
      let G : GivenView → Type 0 = λ g. IsDecided g fact.value.target fact.value.outcome fact.value.deps fact.value.begun in
      let T : List ℕ → Type 0 = λ x. IsDecided given x fact.value.outcome fact.value.deps fact.value.begun in
      let of_build : IsDecided given p fact.value.outcome fact.value.deps fact.value.begun = subst T fits.1 (subst G fits.0 is.1) in
      let right = decided-right fact.value.outcome fact.value.deps fact.value.begun of_build (sym known) in
      record { outcome_is = shown.0; deps_is = shown.1 ∙ right.0; begun_is = is.0 ∙ right.1 }
  stage-shown turn _ o deps begun fits shown is lacks known = absurd shown
