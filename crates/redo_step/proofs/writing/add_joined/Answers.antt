use Rattle.std.proofs.Common.{◌≡◌, ◌+◌, [], ◌∷◌, drop, sym}
use Rattle.redo_step.proofs.AddingLemmas.{adds-trans, adds-same}
use Rattle.redo_step.proofs.RoundLemmas.{drop_split, drop_end, joined-spaced, spaced, spaced_goes, spaced_done}
use Rattle.redo_step.proofs.writing.add_joined.Goals as goal

pub loop-text-preserved : goal.loop-text-preserved
loop-text-preserved c =
    let split : drop c.loop-text.text-index c.in-Some.others.now ≡ c.text-item.result ∷ drop (c.loop-text.text-index + 1) c.in-Some.others.now = drop_split c.in-Some.others.now c.loop-text.text-index c.text-item.result c.loop-text-test.true c.text-item.is in
    let before = rw split at c.loop-text.invariant in
    let adds = rw c.bytes-in-loop-text.ensures at c.in_ok-add-3.ensures in
    spaced_goes c.text-item.result (drop (c.loop-text.text-index + 1) c.in-Some.others.now) _ _ c.loop-text.sink _ _ before c.in_ok-add-2.ensures adds

pub returns : goal.returns
returns c =
    let end : drop c.loop-text.text-index c.in-Some.others.now ≡ [] = drop_end c.in-Some.others.now c.loop-text.text-index c.loop-text-test.false in
    let others = spaced_done _ _ _ (rw end at c.loop-text.invariant) in
    let first = rw c.bytes.ensures at c.in_ok-add.ensures in
    rw c.in-Some.ensures.cases.0 (adds-same _ _ _ _ (sym (joined-spaced c.in-Some.first.now c.in-Some.others.now)) (adds-trans c.in-Some.first.now (spaced c.in-Some.others.now) _ _ _ first others))
