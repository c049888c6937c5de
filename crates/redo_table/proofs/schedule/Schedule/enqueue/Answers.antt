use Rattle.std.proofs.Common.{ap, subst, ◌∙◌, ◌++◌, refl, IsPermutation}
use Rattle.redo_table.specs.Schedule.{ScheduleView, IsEnqueued}
use Rattle.redo_table.proofs.ListedLemmas.{sorted-listed, enqueued-listed, sorted-once, sorted-ascends, are-more}
use Rattle.redo_table.proofs.schedule.Schedule.enqueue.Goals as goal

pub invariant_of-self : goal.invariant_of-self
invariant_of-self c =
    let t = c.self.inside in
    let sorted = c.sort_unstable.new.self in
    let shuffled = subst (λ xs. IsPermutation xs sorted) c.make_contiguous.ensures.value c.sort_unstable.ensures.permutation in
    let filled = c.make_contiguous.ensures.writes_back sorted (c.sort_unstable.ensures.len ∙ c.make_contiguous.ensures.len) in
    rw (c.in_err-append.ensures.items, c.in_err-append.ensures.other_items, filled)
    (sorted-listed t.waits.stages t.ready.items t.newly_ready.items t.due.keys sorted t.out c.self.invariant shuffled)

pub invariant_of-self-2 : goal.invariant_of-self-2
invariant_of-self-2 c =
    let t = c.self.inside in
    let sorted = c.sort_unstable.new.self in
    let shuffled = subst (λ xs. IsPermutation xs sorted) c.make_contiguous.ensures.value c.sort_unstable.ensures.permutation in
    let filled = c.make_contiguous.ensures.writes_back sorted (c.sort_unstable.ensures.len ∙ c.make_contiguous.ensures.len) in
    rw (c.in_ok-append.ensures.items, c.in_ok-append.ensures.other_items, filled)
    (enqueued-listed t.waits.stages t.ready.items t.newly_ready.items t.due.keys sorted t.out c.self.invariant shuffled)

pub returns : goal.returns
returns c =
    let t = c.self.inside in
    let sorted = c.sort_unstable.new.self in
    let shuffled = subst (λ xs. IsPermutation xs sorted) c.make_contiguous.ensures.value c.sort_unstable.ensures.permutation in
    let filled = c.make_contiguous.ensures.writes_back sorted (c.sort_unstable.ensures.len ∙ c.make_contiguous.ensures.len) in
    let once = sorted-once t.waits.stages t.ready.items t.newly_ready.items t.due.keys sorted t.out c.self.invariant shuffled in
    let new : ScheduleView = record { stages = t.waits.stages; ready = c.append.new.self.items } in
    let done : IsEnqueued (record { stages = t.waits.stages; ready = t.ready.items }) new = record {
      stages = refl;
      more = sorted;
      behind = c.in_ok-append.ensures.items ∙ ap (λ xs. t.ready.items ++ xs) filled;
      ascending = sorted-ascends sorted c.sort_unstable.ensures.sorted once;
      are_more = are-more t.waits.stages t.ready.items t.newly_ready.items t.due.keys sorted t.out c.self.invariant shuffled;
    } in
    subst (λ v. IsEnqueued v new) c.self.view_is done
