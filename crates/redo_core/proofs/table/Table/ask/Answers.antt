use Rattle.std.proofs.Common.{◌≡◌, ◌<◌, ℕ, Err, sym, ap, subst, ◌∙◌}
use Rattle.redo_record.specs.declared.deps.DepKind.TheVariants as kinds
use Rattle.redo_record.specs.Entries.{with_entry}
use Rattle.redo_core.specs.declared.check.Check.{Check as CheckSoFar}
use Rattle.redo_core.specs.declared.table.InCheck.{InCheck}
use Rattle.redo_core.proofs.LookSteps.{look-table}
use Rattle.redo_core.proofs.LookedSteps.{asked-length, asked-out, asked-put, asked-seen, asked-standing, asked-table'}
use Rattle.redo_core.proofs.table.Table.ask.Goals as goal
use Rattle.redo_core.proofs.table.Table.ask.Goals.{In_ok-ask}

pub enter-requires : goal.enter-requires
enter-requires c =
    record { table = look-table c.args.build.now c.args.self.now c.args.at c.args.held c.requires.may }

pub returns-in_err-place-clause-too_many : goal.returns-in_err-place-clause-too_many
returns-in_err-place-clause-too_many c = λ is.
    let made = rw is at c.from_residual.ensures in
    let err = c.in_err-place.was ∙ ap Err (sym made.1) in
    let P : ℕ → Type 0 = λ n. c.args.build.now.limits.targets < n in
    subst P (asked-length c.args.build.now c.args.self.now c.args.at c.args.held c.requires.may c.args.path c.requires.asks) (c.enter.ensures.too_many.0 err)

pub await_answer-requires-clause-out : goal.await_answer-requires-clause-out
await_answer-requires-clause-out c =
    asked-out c.args.build.now c.args.self.now c.args.at c.args.held c.requires.may c.args.path c.requires.asks
    c.enter.new.self c.in_ok-place.place c.in_ok-place.ensures.ok c.in_ok-place.ensures.number

pub await_answer-requires-clause-seen : goal.await_answer-requires-clause-seen
await_answer-requires-clause-seen c =
    asked-seen c.args.build.now c.args.self.now c.args.at c.args.held c.requires.may c.args.path c.requires.asks
    c.enter.new.self c.in_ok-place.place c.in_ok-place.ensures.ok c.in_ok-place.ensures.number

-- the check that waits
waits : (c : In_ok-ask) → record c.deref_mut.result.now { check = c.ask.new.self } ≡
    record c.args.held.value { check = record c.args.held.value.check { asked = with_entry c.args.held.value.check.asked kinds.Change c.args.path } }
waits c = ap (λ (k : CheckSoFar). record c.deref_mut.result.now { check = k }) c.in_ok-ask.ensures
    ∙ ap (λ (h : InCheck). record h { check = record h.check { asked = with_entry h.check.asked kinds.Change c.args.path } }) c.deref_mut.ensures.value

pub settle-requires-clause-table : goal.settle-requires-clause-table
settle-requires-clause-table c =
    let d = (goal.at-settle-requires-clause-table c).In_ok-ask in
    asked-table' c.args.build.now c.args.self.now c.args.at c.args.held c.requires.may c.args.path c.requires.asks
    c.enter.new.self c.in_ok-place.place c.in_ok-place.ensures.ok c.in_ok-place.ensures.number
    c.await_answer.new.self _ (waits d) c.in_ok-await_answer.ensures

pub settle-requires-clause-standing : goal.settle-requires-clause-standing
settle-requires-clause-standing c =
    let d = (goal.at-settle-requires-clause-standing c).In_ok-ask in
    asked-standing c.args.build.now c.args.self.now c.args.at c.args.held c.requires.may c.args.path c.requires.asks
    c.enter.new.self c.in_ok-place.place c.in_ok-place.ensures.ok c.in_ok-place.ensures.number
    c.await_answer.new.self _ (waits d) c.in_ok-await_answer.ensures

pub returns-clause-ok : goal.returns-clause-ok
returns-clause-ok c =
    let d = (goal.at-returns-clause-ok c).In_ok-ask in
    asked-put c.args.build.now c.args.self.now c.args.at c.args.held c.requires.may c.args.path c.requires.asks
    c.enter.new.self c.in_ok-place.place c.in_ok-place.ensures.ok c.in_ok-place.ensures.number
    c.await_answer.new.self _ (waits d) c.in_ok-await_answer.ensures c.settle.new.self c.in_ok-settle.ensures
