use Rattle.std.proofs.Common.{◌≡◌, ◌<◌, List, [], ℕ, Err, length, refl, sym, ap, subst, ◌∙◌}
use Rattle.redo_rules.specs.Build.{GivenView, rules_for}
use Rattle.redo_build.specs.Schedule.{Entry, entered, opening}
use Rattle.redo_core.specs.inside.Slots.{outcomes_at_limit, AreEnteredInto, slot_entries, targets_in}
use Rattle.redo_core.proofs.OpeningLemmas.{opening-entries, first-is}
use Rattle.redo_core.proofs.table.Table.open.Goals as goal

pub returns-in_err-enter_requested-clause-too_many : goal.returns-in_err-enter_requested-clause-too_many
returns-in_err-enter_requested-clause-too_many c = λ is.
    let made = rw is at c.from_residual-in_err-enter_requested.ensures in
    let given : GivenView = c.args.build.now in
    let r = rules_for given in
    let request = c.request-request.result.now in
    let of_build : request ≡ given.request = c.request-request.ensures ∙ ap (λ (g : GivenView). g.request) c.given-3.ensures in
    let err = c.in_err-enter_requested.was ∙ ap Err (sym made.1) in
    let none : slot_entries r (outcomes_at_limit given) c.in_ok-targets.targets c.in_ok-slots.slots.items ≡ [] = rw c.in_ok-targets.ensures refl in
    let N : List Entry → Type 0 = λ xs. given.limits.targets < length (entered r xs (targets_in r request)) in
    let many : N [] = subst N none (c.enter_requested.ensures.too_many err) in
    let S : List Entry → Type 0 = λ xs. given.limits.targets < length xs in
    let R : List (List ℕ) → Type 0 = λ ps. given.limits.targets < length (opening r ps).entries in
    subst R of_build (subst S (sym (opening-entries given request)) many)

pub returns-clause-ok : goal.returns-clause-ok
returns-clause-ok c =
    let given : GivenView = c.args.build.now in
    let of_build : c.request-request.result.now ≡ given.request = c.request-request.ensures ∙ ap (λ (g : GivenView). g.request) c.given-3.ensures in
    let E : List (List ℕ) → Type 0 = λ ps.
    AreEnteredInto given (record { targets = c.in_ok-targets.targets; slots = c.in_ok-slots.slots; schedule = c.new.result })
    c.enter_requested.new.self (targets_in (rules_for given) ps) in
    first-is given (record { targets = c.in_ok-targets.targets; slots = c.in_ok-slots.slots; schedule = c.new.result })
    c.enter_requested.new.self c.enqueue.new.self c.in_ok-targets.ensures c.in_ok-slots.ensures.items c.new.ensures
    (subst E of_build c.in_ok-enter_requested.ensures.ok) c.in_ok-enqueue.ensures
