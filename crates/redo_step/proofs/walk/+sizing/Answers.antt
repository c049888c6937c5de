use Rattle.std.proofs.Common.{rules, arith, sym}
use Rattle.redo_step.proofs.WeightLemmas.{weight_item}
use Rattle.redo_step.proofs.WalkLemmas.{size_next}
use Rattle.redo_step.proofs.walk.+sizing.Goals as goal

pub size_of-size_of_one-requires : goal.size_of-size_of_one-requires
size_of-size_of_one-requires t c =
    let less = rw (sym c.stmt-item.is) at (weight_item c.args.stmts.now c.loop-stmt.stmt-index c.stmt-item.result c.loop-stmt-test.true) in
    (omega arith, search rules)

pub size_of-loop-stmt-preserved : goal.size_of-loop-stmt-preserved
size_of-loop-stmt-preserved t c =
    let more = size_next c.args.stmts.now c.loop-stmt.stmt-index c.stmt-item.result c.loop-stmt-test.true c.stmt-item.is in
    omega (arith, c.loop-stmt.invariant, c.in_ok-count.ensures, c.in_ok-size_of_one.ensures, more)
