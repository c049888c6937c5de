use Rattle.std.proofs.Common.{◌≤◌, arith}
use Rattle.redo_script.proofs.MarkLemmas.{order_one, ends_one, lines_one}
use Rattle.redo_script.proofs.places.in_order.Goals as goal

pub loop-word-preserved : goal.loop-word-preserved
loop-word-preserved c =
    let behind : c.loop-word.past ≤ c.clipped-span.result.start = (let starts = c.clipped-span.ensures.starts in let past = c.if-word-past.false in omega (arith, starts, past)) in
    record {
      lines = rw c.in_ok-push.ensures.items (lines_one c.args.text.now c.loop-word.kept.items c.clipped-span.result _ c.loop-word.invariant.lines c.clipped-span.ensures.line);
      order = rw c.in_ok-push.ensures.items (order_one c.loop-word.kept.items c.clipped-span.result c.loop-word.past c.loop-word.invariant.order c.loop-word.invariant.past behind);
      past = rw c.in_ok-push.ensures.items (ends_one c.loop-word.kept.items c.clipped-span.result);
    }
