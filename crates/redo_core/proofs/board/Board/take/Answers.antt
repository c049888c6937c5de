use Rattle.std.proofs.Common.{◌≡◌, ◌<◌, cond, map, is_some, length, slice_get, Some, sym, ap, subst, ◌∙◌, refl}
use Rattle.redo_table.specs.Schedule.{ScheduleView}
use Rattle.redo_core.specs.inside.Slots.{IsKept, path_at, state_of}
use Rattle.redo_table.proofs.TargetLemmas.{read-there}
use Rattle.redo_core.proofs.TakeLemmas.{found_job, taken_state, work_taken, running}
use Rattle.redo_core.proofs.TakeLemmas.{kept-taken, below_items, staged-below, turn_small, part-inside}
use Rattle.redo_core.specs.Views.{BoardView, WorkView, IsWorkTaken, jobs_out}
use Rattle.redo_build.specs.Schedule.{IsOutAt}
use Rattle.redo_build.specs.TakesLeft.{takes_left}
use Rattle.redo_core.proofs.BoardCountLemmas.{work_out, one_more, left_less}
use Rattle.redo_core.proofs.board.Board.take.Goals as goal
use Rattle.redo_core.proofs.board.Board.take.Goals.{After-replace}

count : (c : After-replace) → c.args.which < cond (is_some c.self.inside.stopped) 0 (length (map (path_at c.self.inside.table.targets) c.self.inside.table.schedule.ready))
count c = rw (← c.self.view_is) at c.requires

kept : (c : After-replace) → IsKept c.self.inside
kept c = c.self.invariant.kept (running c.self.inside.stopped _ c.args.which (count c))

there : (c : After-replace) → slice_get c.self.inside.table.slots.items c.take-at.result ≡ Some c.index_mut-slot.result.now
there c = read-there c.self.inside.table.slots.items c.take-at.result c.index_mut-slot.result.now
    (staged-below c.self.inside (kept c) c.take-at.result c.take-at.ensures.was) c.index_mut-slot.ensures.value

below : (c : After-replace) → c.args.which < length (state_of c.self.inside).ready
below c = rw (running c.self.inside.stopped _ c.args.which (count c)) at (count c)

pub unreachable-requires : goal.unreachable-requires
unreachable-requires c =
    let d = (goal.at-unreachable-requires c).After-replace in
    let job = found_job d.self.inside (kept d) d.args.which d.take-at.result d.index_mut-slot.result.now d.take-at.ensures.number d.take-at.ensures.was (there d) in
    c.in_default.not-Ready job.0 (c.replace.ensures.value ∙ job.1)

pub returns-clause-work : goal.returns-clause-work
returns-clause-work c =
    let d = (goal.at-returns-clause-work c).After-replace in
    let b = d.self.inside in
    let P : BoardView → Type 0 = λ v. IsWorkTaken v d.args.which c.in-Ready.work in
    let W : WorkView → Type 0 = IsWorkTaken c.args.self.now c.args.which in
    subst W (sym c.numbered.ensures.same) (subst P c.self.view_is
    (work_taken b (kept d) d.args.which d.take-at.result d.index_mut-slot.result.now d.take-at.ensures.number d.take-at.ensures.was (there d)
    _ refl refl c.in-Ready.work (sym c.replace.ensures.value ∙ c.in-Ready.is) c.numbered.ensures.holds))

pub invariant_of-self : goal.invariant_of-self
invariant_of-self c =
    let d = (goal.at-invariant_of-self c).After-replace in
    let b = d.self.inside in
    record {
      kept = λ on. rw c.replace.ensures.after
          (kept-taken b (kept d) d.args.which d.take-at.result d.index_mut-slot.result.now d.take-at.ensures.number d.take-at.ensures.was (there d)
          (below_items b d.args.which (count d)) _ c.take-at.new.self refl c.take-at.ensures.taken c.is_queue.ensures);
      too_many = c.self.invariant.too_many;
    }

pub returns-clause-ok : goal.returns-clause-ok
returns-clause-ok c =
    let d = (goal.at-returns-clause-ok c).After-replace in
    let b = d.self.inside in
    let ready = ap (λ (x : ScheduleView). x.ready) c.take-at.ensures.taken in
    rw (← c.self.view_is) (rw (c.replace.ensures.after, ready)
    (ap (λ s. record { given = b.build; state = s; stopped = b.stopped })
    (taken_state b (kept d) d.args.which d.take-at.result d.index_mut-slot.result.now d.take-at.ensures.number d.take-at.ensures.was (there d))))

pub returns-clause-turn : goal.returns-clause-turn
returns-clause-turn c =
    let d = (goal.at-returns-clause-turn c).After-replace in
    let b = d.self.inside in
    let P : BoardView → Type 0 = λ v. c.in-Ready.work.turn < v.given.limits.targets in
    let W : WorkView → Type 0 = λ w. w.turn < c.args.self.now.given.limits.targets in
    subst W (sym c.numbered.ensures.same) (subst P c.self.view_is
    (turn_small b (kept d) d.args.which d.take-at.result d.index_mut-slot.result.now d.take-at.ensures.number d.take-at.ensures.was (there d)
    c.in-Ready.work (sym c.replace.ensures.value ∙ c.in-Ready.is)))

pub returns-clause-part : goal.returns-clause-part
returns-clause-part c =
    let d = (goal.at-returns-clause-part c).After-replace in
    part-inside _ ((invariant_of-self c).kept (running d.self.inside.stopped _ d.args.which (count d)))

pub returns-clause-is_out : goal.returns-clause-is_out
returns-clause-is_out c =
    let d = (goal.at-returns-clause-is_out c).After-replace in
    let P : BoardView → Type 0 = λ v. IsOutAt v.state c.numbered.result.target c.numbered.result.turn in
    subst P (sym (returns-clause-ok c)) (work_out d.self.inside (kept d) (running d.self.inside.stopped _ d.args.which (count d)) d.args.which (below d) _ d.self.view_is c.numbered.result (returns-clause-work c))

pub returns-clause-one_more : goal.returns-clause-one_more
returns-clause-one_more c =
    let d = (goal.at-returns-clause-one_more c).After-replace in
    ap jobs_out (returns-clause-ok c) ∙ one_more d.self.inside (kept d) (running d.self.inside.stopped _ d.args.which (count d)) d.args.which (below d) _ d.self.view_is

pub returns-clause-left : goal.returns-clause-left
returns-clause-left c =
    let d = (goal.at-returns-clause-left c).After-replace in
    let P : BoardView → Type 0 = λ v. takes_left v.given.limits.targets v.state < takes_left c.args.self.now.given.limits.targets c.args.self.now.state in
    subst P (sym (returns-clause-ok c)) (left_less d.self.inside (kept d) (running d.self.inside.stopped _ d.args.which (count d)) d.args.which (below d) _ d.self.view_is)
