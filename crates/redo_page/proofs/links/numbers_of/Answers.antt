use Rattle.std.proofs.Common.{arith}
use Rattle.redo_page.proofs.LinkLemmas.{number-new, number-old}
use Rattle.redo_page.proofs.links.numbers_of.Goals as goal
use Rattle.redo_page.proofs.links.numbers_of.Goals.{then-not-has_row+in_ok-clone+in_ok-insert, else-not-has_row}

pub loop-number-preserved : goal.loop-number-preserved
loop-number-preserved c = λ q.
    let rows = c.args.rows.now in
    let i = c.loop-number.number in
    let x = c.index-rows-number.result in
    elim c.if-not-has_row.branch [
      | then-not-has_row+in_ok-clone+in_ok-insert w ↦
          rw w.numbers-is
          (number-new rows i x c.loop-number.numbers w.insert.new.self w.in_ok-clone.field-0 c.has_row.result
          (omega (arith, c.loop-number-test.true, c.loop-number.auto.number-end)) c.index-rows-number.is
          c.loop-number.invariant c.has_row.ensures w.if-not-has_row.true w.in_ok-clone.ensures.cases
          w.in_ok-insert.ensures.updates q)
      | else-not-has_row w ↦
          rw w.numbers-is
          (number-old rows i x c.loop-number.numbers c.has_row.result
          (omega (arith, c.loop-number-test.true, c.loop-number.auto.number-end)) c.index-rows-number.is
          c.loop-number.invariant c.has_row.ensures w.if-not-has_row.false q)
    ]
