use Rattle.std.proofs.Common.{◌≡◌, [], Option, sym, subst}
use Rattle.std.specs.Prelude.{IfSome, IfNone}
use Rattle.redo_build.specs.Rules.{Ask}
use Rattle.redo_build.specs.Schedule.{nothing_known}
use Rattle.redo_core.specs.inside.Checking.{IsBegunBehind, IsDueCheck}
use Rattle.redo_core.specs.inside.Slots.{IsDueWith, GivenView, rules_for, InCheck}
use Rattle.redo_core.specs.declared.check.Check.{Check}
use Rattle.redo_core.proofs.FirstStageLemmas.{first-due, first-unread, ruled}
use Rattle.redo_core.proofs.first.ruled.Goals as goal
use Rattle.redo_core.proofs.first.ruled.Goals.{In_default}

pub returns-in-Some : goal.returns-in-Some
returns-in-Some c =
    let given = c.args.build.now in
    let p = c.args.path.now in
    let S : Option Check → Type 0 = λ o. IfSome o (λ check. (check.asked ≡ []) × ((a : Ask) → IsDueCheck c.given.result.now p a check)) in
    let G : GivenView → Type 0 = λ g. (c.in-Some.check.asked ≡ []) × ((a : Ask) → IsDueCheck g p a c.in-Some.check) in
    let due : G given = subst G c.given.ensures (subst S c.in-Some.is c.in_ok-check.ensures.due) in
    let held : InCheck = record { rule = c.args.rule; check = c.in-Some.check; facts = c.new-facts.result } in
    let H : InCheck → Type 0 = λ h. ((a : Ask) → IsDueWith (rules_for given) a given p 0 h) × (h.check.asked ≡ []) in
    let both = subst H (sym c.in_ok-held.ensures.ok) (
      first-due given p held c.requires c.new-facts.ensures.empty c.new-facts.ensures.asked due.0 due.1,
      due.0,
    ) in
    (both.0, both.1, ruled given p c.args.rule c.requires)

behind : (c : In_default) → IsBegunBehind c.args.build.now c.args.path.now [] nothing_known
behind c =
    let N : Option Check → Type 0 = λ o. IfNone o (IsBegunBehind c.given.result.now c.args.path.now [] nothing_known) in
    let G : GivenView → Type 0 = λ g. IsBegunBehind g c.args.path.now [] nothing_known in
    subst G c.given.ensures (subst N c.in_default.is c.in_ok-check.ensures.none)

pub unread-requires : goal.unread-requires
unread-requires c =
    rw (c.in_ok-own.ensures, c.in_ok-target.ensures.cases) (first-unread c.args.build.now c.args.path.now c.args.rule c.new-facts.result c.requires
    c.new-facts.ensures.empty c.new-facts.ensures.asked (behind (goal.at-unread-requires c).In_default))
