use Rattle.std.proofs.Common.{◌≡◌, ℕ, List, [], ◌∷◌, ◌++◌, Err, take, not, sym, ap, subst, ◌∙◌, append-nil}
use Rattle.std.proofs.Common.{true}
use Rattle.redo_core.specs.inside.Slots.{AreEnteredInto, table_entries, targets_in, GivenView, rules_for}
use Rattle.redo_table.proofs.TargetLemmas.{read-there}
use Rattle.redo_core.proofs.EnterAllLemmas.{enter-more}
use Rattle.redo_core.proofs.OpeningLemmas.{targets-more, one-target, no-target, too-many-requested}
use Rattle.redo_core.proofs.table.Table.enter_requested.Goals as goal
use Rattle.redo_core.proofs.table.Table.enter_requested.Goals.{then-is_target+in_ok-enter, else-is_target}

pub returns-in_err-enter-clause-too_many : goal.returns-in_err-enter-clause-too_many
returns-in_err-enter-clause-too_many c = λ is.
    let made = rw is at c.from_residual.ensures in
    let given : GivenView = c.args.build.now in
    let i = c.loop-path.path-index in
    let get = read-there c.args.request.now i c.path-item.result c.loop-path-test.true c.path-item.is in
    let err = c.in_err-enter.was ∙ ap Err (sym made.1) in
    let target : not ((rules_for given).is_source c.path-item.result) ≡ true = ap (λ (g : GivenView). not ((rules_for g).is_source c.path-item.result)) (sym c.given.ensures) ∙ sym c.if-is_target.ensures in
    too-many-requested (rules_for given) (table_entries given c.args.self.now) (table_entries given c.loop-path.self)
    c.args.build.now.limits.targets c.args.request.now i c.path-item.result get target c.loop-path.invariant.entries (c.enter.ensures.too_many.0 err)

pub loop-path-preserved : goal.loop-path-preserved
loop-path-preserved c =
    let given : GivenView = c.args.build.now in
    let i = c.loop-path.path-index in
    let get = read-there c.args.request.now i c.path-item.result c.loop-path-test.true c.path-item.is in
    let more = targets-more (rules_for given) c.args.request.now i c.path-item.result get in
    let P : List (List ℕ) → Type 0 = λ ps. AreEnteredInto given c.args.self.now c.if-is_target.self ps in
    let here = ap (λ (g : GivenView). not ((rules_for g).is_source c.path-item.result)) (sym c.given.ensures) in
    elim c.if-is_target.branch [
      | then-is_target+in_ok-enter w ↦
          let one = one-target (rules_for given) c.path-item.result (here ∙ sym w.if-is_target.ensures) in
          subst P (sym (more ∙ ap (λ xs. targets_in (rules_for given) (take i c.args.request.now) ++ xs) one))
          (rw w.self-is (enter-more given c.args.self.now c.loop-path.self w.enter.new.self
          (targets_in (rules_for given) (take i c.args.request.now)) (c.path-item.result ∷ []) c.loop-path.invariant w.in_ok-enter.ensures.ok))
      | else-is_target w ↦
          let none = no-target (rules_for given) c.path-item.result (here ∙ sym w.if-is_target.ensures) in
          subst P (sym (more ∙ ap (λ xs. targets_in (rules_for given) (take i c.args.request.now) ++ xs) none ∙ append-nil (targets_in (rules_for given) (take i c.args.request.now))))
          (rw w.self-is c.loop-path.invariant)
    ]
