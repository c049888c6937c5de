use Rattle.std.proofs.Common.{◌≡◌, length, slice_get, slice_set, Some, sym, ap, subst, ◌∙◌, refl, arith}
use Rattle.redo_table.specs.Schedule.StageView.{Waiting}
use Rattle.redo_table.specs.Schedule.{is_decided}
use Rattle.redo_table.specs.inside.Targets.{WaitersView, stages_of}
use Rattle.redo_table.proofs.TargetLemmas.{read-there, target-there, stages-set, view-there, stages-length}
use Rattle.redo_table.proofs.WaitLemmas.{wait-waiters}
use Rattle.std.proofs.lemmas.Option.{slice_get_within}
use Rattle.redo_table.proofs.waits.Waiters.wait.Goals as goal

pub invariant_of-self-2 : goal.invariant_of-self-2
invariant_of-self-2 c =
    let t = c.self.inside in
    let target = c.index_mut.result.now in
    let stages = ap (λ (v : WaitersView). v.stages) c.self.view_is in
    let seen : slice_get (stages_of t.targets.items) c.args.at ≡ Some c.requires.there.stage =
    subst (λ (v : WaitersView). slice_get v.stages c.args.at ≡ Some c.requires.there.stage) (sym c.self.view_is) c.requires.there.there in
    let found = target-there t.targets.items c.args.at c.requires.there.stage seen in
    let there = read-there t.targets.items c.args.at target (slice_get_within t.targets.items c.args.at found.0 found.1) c.index_mut.ensures.value in
    let was = view-there t.targets.items c.args.at target c.requires.there.stage there seen in
    rw c.in_ok-push.ensures.items (wait-waiters t.targets.items t.pending.items c.args.at target _ c.self.invariant there
    (ap is_decided was ∙ c.requires.there.undecided) c.args.on refl refl
    (λ i n g. omega (arith, c.requires.seen i n g, ap length stages, stages-length t.targets.items)))

pub returns-clause-waits : goal.returns-clause-waits
returns-clause-waits c = stages-set c.self.inside.targets.items c.args.at _ ∙ ap (λ (v : WaitersView). slice_set v.stages c.args.at (Waiting c.args.on.items)) c.self.view_is
