use Rattle.std.proofs.Common.{ℕ, List, [], ◌∷◌, ◌++◌, Err, take, sym, ap, subst, ◌∙◌}
use Rattle.redo_core.specs.inside.Slots.{AreEnteredInto, AreNumbers, table_entries, GivenView, rules_for}
use Rattle.redo_table.proofs.TargetLemmas.{read-there}
use Rattle.redo_core.proofs.EnterAllLemmas.{enter-more, path-take, too-many}
use Rattle.redo_core.proofs.NumberLemmas.{numbers-kept, numbers-push}
use Rattle.redo_core.proofs.table.Table.enter_all.Goals as goal

pub returns-in_err-at-clause-too_many : goal.returns-in_err-at-clause-too_many
returns-in_err-at-clause-too_many c = λ is.
    let made = rw is at c.from_residual-in_err-at.ensures in
    let given : GivenView = c.args.build.now in
    let i = c.loop-path.path-index in
    let get = read-there c.args.paths.now i c.path-item.result c.loop-path-test.true c.path-item.is in
    let err = c.in_err-at.was ∙ ap Err (sym made.1) in
    too-many (rules_for given) (table_entries given c.args.self.now) (table_entries given c.loop-path.self)
    c.args.build.now.limits.targets c.args.paths.now i c.path-item.result get c.loop-path.invariant.0.entries (c.enter.ensures.too_many.0 err)

pub loop-path-preserved : goal.loop-path-preserved
loop-path-preserved c =
    let given : GivenView = c.args.build.now in
    let i = c.loop-path.path-index in
    let p = c.path-item.result in
    let get = read-there c.args.paths.now i p c.loop-path-test.true c.path-item.is in
    let so_far = take i c.args.paths.now in
    let P : List (List ℕ) → Type 0 = λ ps. AreEnteredInto given c.args.self.now c.enter.new.self ps ×
    AreNumbers c.enter.new.self.targets c.push.new.self.items ps in
    let kept = numbers-kept c.loop-path.self.targets c.enter.new.self.targets c.in_ok-at.ensures.ok.keys_kept c.loop-path.numbers.items so_far c.loop-path.invariant.1 in
    let N : List ℕ → Type 0 = λ ns. AreNumbers c.enter.new.self.targets ns (so_far ++ p ∷ []) in
    subst P (sym (path-take c.args.paths.now i p get)) (
      enter-more given c.args.self.now c.loop-path.self c.enter.new.self
          so_far (p ∷ []) c.loop-path.invariant.0 c.in_ok-at.ensures.ok,
      subst N (sym c.in_ok-push.ensures.items) (numbers-push c.enter.new.self.targets c.loop-path.numbers.items so_far c.in_ok-at.at p kept c.in_ok-at.ensures.number),
    )
