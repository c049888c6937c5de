use Rattle.std.proofs.Common.{◌≡◌, ℕ, ◌<◌, length, slice_get, slice_index_or, Some, sym, subst}
use Rattle.redo_table.specs.Schedule.{ScheduleView}
use Rattle.redo_table.specs.declared.schedule.Schedule.TheInside.{Inside}
use Rattle.redo_table.proofs.ListedLemmas.{take-listed}
use Rattle.redo_table.proofs.TargetLemmas.{read-there}
use Rattle.redo_table.proofs.schedule.Schedule.take.Goals as goal

at-index : (t : Inside) (v : ScheduleView) (which at : ℕ) → record { stages = t.waits.stages; ready = t.ready.items } ≡ v → which < length v.ready →
    at ≡ slice_index_or t.ready.items which at → slice_get t.ready.items which ≡ Some at
at-index t v which at is lt read = read-there t.ready.items which at (subst (λ (u : ScheduleView). which < length u.ready) (sym is) lt) read

pub invariant_of-self : goal.invariant_of-self
invariant_of-self c =
    let t = c.self.inside in
    rw (c.put.ensures, c.in-Some.ensures.items) (take-listed t.waits.stages t.ready.items t.newly_ready.items t.due.keys t.out c.self.invariant
    c.in-Some.at c.args.which (at-index t c.args.self.now c.args.which c.in-Some.at c.self.view_is c.requires c.in-Some.ensures.value))

pub returns-clause-number : goal.returns-clause-number
returns-clause-number c =
    subst (λ (v : ScheduleView). slice_get v.ready c.args.which ≡ Some c.in-Some.at) c.self.view_is
    (at-index c.self.inside c.args.self.now c.args.which c.in-Some.at c.self.view_is c.requires c.in-Some.ensures.value)
