use Rattle.std.proofs.Common.{◌≡◌, slice_get, slice_set, Some, sym, ap, subst, ◌∙◌, refl}
use Rattle.redo_table.specs.Schedule.{is_decided}
use Rattle.redo_table.specs.inside.Targets.{WaitersView, stages_of, view_of}
use Rattle.redo_table.proofs.TargetLemmas.{read-there, target-there, stages-set, view-there}
use Rattle.redo_table.proofs.WaitLemmas.{put-waiters, plain-open}
use Rattle.std.proofs.lemmas.Option.{slice_get_within}
use Rattle.redo_table.proofs.waits.Waiters.put.Goals as goal

pub invariant_of-self : goal.invariant_of-self
invariant_of-self c =
    let t = c.self.inside in
    let target = c.index_mut.result.now in
    let seen : slice_get (stages_of t.targets.items) c.args.at ≡ Some c.requires.there.stage =
    subst (λ (v : WaitersView). slice_get v.stages c.args.at ≡ Some c.requires.there.stage) (sym c.self.view_is) c.requires.there.there in
    let found = target-there t.targets.items c.args.at c.requires.there.stage seen in
    let there = read-there t.targets.items c.args.at target (slice_get_within t.targets.items c.args.at found.0 found.1) c.index_mut.ensures.value in
    let was = view-there t.targets.items c.args.at target c.requires.there.stage there seen in
    put-waiters t.targets.items t.pending.items c.args.at target _ c.self.invariant there (ap is_decided was ∙ c.requires.there.undecided)
    c.requires.plain (plain-open c.args.stage c.requires.plain) refl

pub returns : goal.returns
returns c = stages-set c.self.inside.targets.items c.args.at _ ∙ ap (λ (v : WaitersView). slice_set v.stages c.args.at (view_of c.args.stage)) c.self.view_is
