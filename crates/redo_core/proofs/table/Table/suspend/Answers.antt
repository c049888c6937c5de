use Rattle.std.proofs.Common.{◌≡◌, ◌<◌, ℕ, List, Err, length, refl, sym, ap, subst, ◌∙◌}
use Rattle.redo_core.specs.inside.Works.{waited_by}
use Rattle.redo_core.specs.declared.work.End.TheVariants.{Stopped}
use Rattle.redo_build.specs.Schedule.{entered}
use Rattle.redo_core.specs.inside.Slots.{AreEnteredInto, AreNumbers, table_entries, GivenView, rules_for}
use Rattle.redo_core.proofs.TakeInLemmas.{after-length, are-seen, out-still, paths-waited, suspended-put, suspended-standing, suspended-table}
use Rattle.redo_core.proofs.table.Table.suspend.Goals as goal
use Rattle.redo_core.proofs.table.Table.suspend.Goals.{In_ok-operands}

pub returns-in_err-operands-clause-too_many : goal.returns-in_err-operands-clause-too_many
returns-in_err-operands-clause-too_many c = λ is.
    let made = rw is at c.from_residual.ensures in
    let err = c.in_err-operands.was ∙ ap Err (sym made.1) in
    let given : GivenView = c.args.build.now in
    let many = c.enter_all.ensures.too_many err in
    let P : List (List ℕ) → Type 0 = λ ps. c.args.build.now.limits.targets < length (entered (rules_for given) (table_entries given c.args.self.now) ps) in
    let waited = paths-waited given c.args.self.now c.args.at (Stopped c.args.begun c.args.paths) c.requires c.args.begun c.args.paths refl in
    let same = after-length given c.args.self.now c.args.at (Stopped c.args.begun c.args.paths) c.requires c.args.begun c.args.paths refl in
    let S : ℕ → Type 0 = λ n. c.args.build.now.limits.targets < n in
    subst S same (subst P (c.deref.ensures.value ∙ waited) many)

-- the paths are those that the job waits for
waited : (c : In_ok-operands) → c.deref.result.now ≡ waited_by (rules_for c.args.build.now) c.args.begun.value
waited c = c.deref.ensures.value ∙ paths-waited c.args.build.now c.args.self.now c.args.at (Stopped c.args.begun c.args.paths) c.requires c.args.begun c.args.paths refl

enters : (c : In_ok-operands) → AreEnteredInto c.args.build.now c.args.self.now c.enter_all.new.self
    (waited_by (rules_for c.args.build.now) c.args.begun.value)
enters c =
    let E : List (List ℕ) → Type 0 = AreEnteredInto c.args.build.now c.args.self.now c.enter_all.new.self in
    subst E (waited c) c.in_ok-operands.ensures.ok

numbers : (c : In_ok-operands) → AreNumbers c.enter_all.new.self.targets c.in_ok-operands.operands.items
    (waited_by (rules_for c.args.build.now) c.args.begun.value)
numbers c =
    let E : List (List ℕ) → Type 0 = AreNumbers c.enter_all.new.self.targets c.in_ok-operands.operands.items in
    subst E (waited c) c.in_ok-operands.ensures.numbers

pub park-requires-clause-out : goal.park-requires-clause-out
park-requires-clause-out c =
    let d = (goal.at-park-requires-clause-out c).In_ok-operands in
    out-still c.args.build.now c.args.self.now c.args.at (Stopped c.args.begun c.args.paths) c.requires c.args.begun c.args.paths refl c.enter_all.new.self (enters d)

pub park-requires-clause-seen : goal.park-requires-clause-seen
park-requires-clause-seen c =
    let d = (goal.at-park-requires-clause-seen c).In_ok-operands in
    are-seen c.args.build.now c.args.self.now c.args.at (Stopped c.args.begun c.args.paths) c.requires c.args.begun c.args.paths refl c.enter_all.new.self (enters d)
    c.in_ok-operands.operands.items (numbers d)

pub settle-requires-clause-table : goal.settle-requires-clause-table
settle-requires-clause-table c =
    let d = (goal.at-settle-requires-clause-table c).In_ok-operands in
    suspended-table c.args.build.now c.args.self.now c.args.at (Stopped c.args.begun c.args.paths) c.requires c.args.begun c.args.paths refl c.enter_all.new.self (enters d)
    c.park.new.self c.in_ok-operands.operands.items (numbers d) c.in_ok-park.ensures

pub settle-requires-clause-standing : goal.settle-requires-clause-standing
settle-requires-clause-standing c =
    let d = (goal.at-settle-requires-clause-standing c).In_ok-operands in
    suspended-standing c.args.build.now c.args.self.now c.args.at (Stopped c.args.begun c.args.paths) c.requires c.args.begun c.args.paths refl c.enter_all.new.self (enters d)
    c.park.new.self c.in_ok-operands.operands.items (numbers d) c.in_ok-park.ensures

pub returns-clause-ok : goal.returns-clause-ok
returns-clause-ok c =
    let d = (goal.at-returns-clause-ok c).In_ok-operands in
    suspended-put c.args.build.now c.args.self.now c.args.at (Stopped c.args.begun c.args.paths) c.requires c.args.begun c.args.paths refl c.enter_all.new.self (enters d)
    c.park.new.self c.in_ok-operands.operands.items (numbers d) c.in_ok-park.ensures c.settle.new.self c.in_ok-settle.ensures
