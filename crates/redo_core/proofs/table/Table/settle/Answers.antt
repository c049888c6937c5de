use Rattle.std.proofs.Common.{◌≡◌, ℕ, List, sym, subst}
use Rattle.redo_table.specs.Schedule.{IsAnswered, with_stage}
use Rattle.redo_table.specs.Schedule.StageView.{InHand}
use Rattle.redo_core.specs.inside.Slots.{IsAnsweredAt}
use Rattle.redo_core.proofs.GoOnSteps.{settling-answered, settling-fewer, settling-more}
use Rattle.redo_core.proofs.table.Table.settle.Goals as goal
use Rattle.redo_core.proofs.table.Table.settle.Goals.{In-Some}

answered : (c : In-Some) → IsAnswered c.loop-answered.self.schedule.stages c.in-Some.answered.at c.in-Some.answered.on.items ×
    (c.next_answered.new.self ≡ with_stage c.loop-answered.self.schedule c.in-Some.answered.at InHand)
answered c = rw c.in-Some.is at c.in_ok-answered.ensures.answered

pub go_on-requires : goal.go_on-requires
go_on-requires c =
    let a = answered (goal.at-go_on-requires c).In-Some in
    let P : List ℕ → Type 0 = IsAnsweredAt c.args.build.now (record c.loop-answered.self { schedule = c.next_answered.new.self }) c.in-Some.answered.at in
    subst P (sym c.deref.ensures.value)
    (settling-answered c.args.build.now c.args.self.now c.loop-answered.self c.loop-answered.invariant c.in-Some.answered.at c.in-Some.answered.on.items
    a.0 c.requires.standing c.next_answered.new.self a.1)

pub loop-answered-smaller : goal.loop-answered-smaller
loop-answered-smaller c =
    let a = answered (goal.at-loop-answered-smaller c).In-Some in
    settling-fewer c.args.build.now c.args.self.now c.loop-answered.self c.loop-answered.invariant c.in-Some.answered.at c.in-Some.answered.on.items
    a.0 c.next_answered.new.self a.1 c.go_on.new.self c.in_ok-go_on.ensures

pub loop-answered-preserved : goal.loop-answered-preserved
loop-answered-preserved c =
    let a = answered (goal.at-loop-answered-preserved c).In-Some in
    settling-more c.args.build.now c.args.self.now c.loop-answered.self c.loop-answered.invariant c.in-Some.answered.at c.in-Some.answered.on.items
    a.0 c.next_answered.new.self a.1 c.go_on.new.self c.in_ok-go_on.ensures
