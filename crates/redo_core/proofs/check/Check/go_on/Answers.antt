use Rattle.std.proofs.Common.{◌+◌, ◌≡◌, ◌∙◌, Some, true, false, ap, slice_get, sym, subst}
use Rattle.std.specs.Prelude.{IfNone, IfSome, option_and_then}
use Rattle.redo_skip.specs.Checks.{has_state, told}
use Rattle.redo_rules.specs.Build.{sources_for}
use Rattle.redo_core.specs.inside.Checking.{FallsBehind, IsWalkedTo, entries_in, entries_of_record, state_of_entry}
use Rattle.redo_core.proofs.CheckSteps.{go-due, go-fallen, go-later}
use Rattle.redo_core.proofs.check.Check.go_on.Goals as goal

pub returns-then-not-is_as_recorded-clause-falls : goal.returns-then-not-is_as_recorded-clause-falls
returns-then-not-is_as_recorded-clause-falls c = λ no p a q w some.
    let given = c.args.given.now in
    let check = c.args.self.now in
    let state = c.in-Some.state.now in
    let is : c.deref.result.now ≡ entries_in given check = c.deref.ensures.value ∙ sym (ap entries_of_record c.record_of.ensures.there) in
    let there : Some state ≡ option_and_then state_of_entry (slice_get (entries_in given check) check.stood) =
    subst (λ es. Some state ≡ option_and_then state_of_entry (slice_get es check.stood)) is c.in-Some.ensures in
    let told : has_state state (told (Some c.args.outcome.now)) ≡ false = sym c.if-not-is_as_recorded.ensures in
    go-fallen given p check a q c.args.outcome.now w some state there told

pub returns-in_default-2-clause-falls : goal.returns-in_default-2-clause-falls
returns-in_default-2-clause-falls c = λ no p a q w some.
    let given = c.args.given.now in
    let check = c.args.self.now in
    let state = c.in-Some.state.now in
    let is : c.deref.result.now ≡ entries_in given check = c.deref.ensures.value ∙ sym (ap entries_of_record c.record_of.ensures.there) in
    let there : Some state ≡ option_and_then state_of_entry (slice_get (entries_in given check) check.stood) =
    subst (λ es. Some state ≡ option_and_then state_of_entry (slice_get es check.stood)) is c.in-Some.ensures in
    let told : has_state state (told (Some c.args.outcome.now)) ≡ true = sym c.if-not-is_as_recorded.ensures in
    let is-2 : c.deref-2.result.now ≡ entries_in given check = c.deref-2.ensures.value ∙ sym (ap entries_of_record c.record_of.ensures.there) in
    go-later given p check a q c.args.outcome.now w some state there told
    (subst (λ es. FallsBehind (sources_for given) es (check.stood + 1)) is-2
    (subst (λ o. IfNone o (FallsBehind (sources_for given) c.deref-2.result.now (check.stood + 1))) c.in_default-2.is c.in_ok-stood.ensures.falls))

pub returns-clause-stands : goal.returns-clause-stands
returns-clause-stands c = λ yes p a q w some.
    let given = c.args.given.now in
    let check = c.args.self.now in
    let state = c.in-Some.state.now in
    let is : c.deref.result.now ≡ entries_in given check = c.deref.ensures.value ∙ sym (ap entries_of_record c.record_of.ensures.there) in
    let there : Some state ≡ option_and_then state_of_entry (slice_get (entries_in given check) check.stood) =
    subst (λ es. Some state ≡ option_and_then state_of_entry (slice_get es check.stood)) is c.in-Some.ensures in
    let told : has_state state (told (Some c.args.outcome.now)) ≡ true = sym c.if-not-is_as_recorded.ensures in
    let is-2 : c.deref-2.result.now ≡ entries_in given check = c.deref-2.ensures.value ∙ sym (ap entries_of_record c.record_of.ensures.there) in
    go-due given p check a q c.args.outcome.now w some state there told c.in-Some-2.stood
    (subst (λ es. IsWalkedTo (sources_for given) es (check.stood + 1) c.in-Some-2.stood) is-2
    (subst (λ o. IfSome o (IsWalkedTo (sources_for given) c.deref-2.result.now (check.stood + 1))) c.in-Some-2.is c.in_ok-stood.ensures.walked))
