use Rattle.std.proofs.Common.{sym}
use Rattle.redo_step.proofs.RoundLemmas.{rounds_begin, next_round, round_takes, last_round, rounds_over}
use Rattle.redo_step.proofs.printf.print.Goals as goal

pub loop-left-init : goal.loop-left-init
loop-left-init c = rounds_begin _ _ _ _ _ c.requires c.in_ok-left.ensures

pub loop-left-smaller : goal.loop-left-smaller
loop-left-smaller c = round_takes _ _ _ _ _ c.loop-left.left.now c.in_ok-left-2.left.now (sym c.loop-left-test.ensures) c.loop-left.invariant c.in_ok-left-2.ensures

pub loop-left-preserved : goal.loop-left-preserved
loop-left-preserved c = next_round _ _ _ _ _ c.loop-left.left.now _ (sym c.loop-left-test.ensures) c.loop-left.invariant c.in_ok-left-2.ensures

pub returns-else-not-sink : goal.returns-else-not-sink
returns-else-not-sink c = rounds_over _ _ _ _ _ c.if-not-sink.false c.loop-left.invariant

pub returns-after-loop-left : goal.returns-after-loop-left
returns-after-loop-left c = last_round _ _ _ _ c.loop-left.left.now (sym c.loop-left-test.ensures) c.loop-left.invariant
