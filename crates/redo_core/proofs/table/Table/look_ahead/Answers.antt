use Rattle.std.proofs.Common.{refl}
use Rattle.redo_core.specs.inside.Slots.{IsDrawnFrom}
use Rattle.redo_core.proofs.LookLemmas.{looked-less, looked-more}
use Rattle.redo_core.proofs.table.Table.look_ahead.Goals as goal

pub look-requires : goal.look-requires
look-requires c = (
  c.loop-at.self,
  record {
    at_rest = c.loop-at.invariant.at_rest;
    first = c.in-Some.ensures.some.0;
    targets = refl;
    slots = refl;
    schedule = c.in-Some.ensures.some.1;
  },
)

pub loop-at-smaller : goal.loop-at-smaller
loop-at-smaller c =
    let drawn : IsDrawnFrom c.args.build.now c.loop-at.self _ c.in-Some.at = record {
      at_rest = c.loop-at.invariant.at_rest;
      first = c.in-Some.ensures.some.0;
      targets = refl;
      slots = refl;
      schedule = c.in-Some.ensures.some.1;
    } in
    looked-less c.args.build.now c.loop-at.self _ c.look.new.self c.in-Some.at drawn c.in_ok-look.ensures.ok

pub loop-at-preserved : goal.loop-at-preserved
loop-at-preserved c =
    let drawn : IsDrawnFrom c.args.build.now c.loop-at.self _ c.in-Some.at = record {
      at_rest = c.loop-at.invariant.at_rest;
      first = c.in-Some.ensures.some.0;
      targets = refl;
      slots = refl;
      schedule = c.in-Some.ensures.some.1;
    } in
    looked-more c.args.build.now c.args.self.now c.loop-at.self _ c.look.new.self c.in-Some.at c.loop-at.invariant
    drawn c.in_ok-look.ensures.ok
