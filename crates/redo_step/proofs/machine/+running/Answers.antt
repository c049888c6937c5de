use Rattle.std.proofs.Common.{rules, arith, sym, refl}
use Rattle.redo_step.proofs.ComesLemmas.{passes_goes, passes_stop, passes_check, passes_first, passes_second}
use Rattle.redo_step.proofs.ComesLemmas.{passes_turns, passes_words, turn_finished, turn_stopped}
use Rattle.redo_step.proofs.ComesLemmas.{item_comes, all_passed, comes_default, if_ok_map}
use Rattle.redo_step.proofs.WeightLemmas.{weight_first, weight_item}
use Rattle.redo_step.proofs.machine.+running.Goals as goal

pub run_stmt-run_from-requires : goal.run_stmt-run_from-requires
run_stmt-run_from-requires g t c κs within =
    let less = weight_first c.args.stmt.now c.in-If.line c.in-If.condition c.in-If.first c.in-If.second c.deref.result.now c.in-If.is c.deref.ensures.value in
    (omega arith, search rules)

pub run_from-run_stmt-requires : goal.run_from-run_stmt-requires
run_from-run_stmt-requires g t c κs within =
    let less = rw (sym c.index-stmts-index.is) at (weight_item c.args.stmts.now c.loop-index.index c.index-stmts-index.result c.loop-index-test.true) in
    (omega arith, search rules)

pub run_from-loop-index-preserved : goal.run_from-loop-index-preserved
run_from-loop-index-preserved g t c =
    rw c.in-Finished.is at (item_comes _ _ c.args.stmts.now c.args.first c.loop-index.index c.index-stmts-index.result _ _ _ c.in_ok-progress.progress c.loop-index-test.true c.index-stmts-index.is c.loop-index.invariant c.in_ok-progress.ensures)

pub run_from-returns-in_default : goal.run_from-returns-in_default
run_from-returns-in_default g t c =
    comes_default _ _ _ _ _ _ _ _ c.in_ok-progress.progress c.in_default.not-Finished (item_comes _ _ c.args.stmts.now c.args.first c.loop-index.index c.index-stmts-index.result _ _ _ c.in_ok-progress.progress c.loop-index-test.true c.index-stmts-index.is c.loop-index.invariant c.in_ok-progress.ensures)

pub run_from-returns : goal.run_from-returns
run_from-returns g t c = all_passed _ _ c.args.stmts.now c.args.first c.loop-index.index _ _ c.loop-index-test.false c.loop-index.invariant

pub run_stmt-returns-in-Ok : goal.run_stmt-returns-in-Ok
run_stmt-returns-in-Ok g t c = passes_goes _ _ c.args.stmt.now c.in-Simple.line c.in-Simple.command c.args.index _ _ c.in-Simple.is c.in-Ok.ensures.run

pub run_stmt-returns-in-Err : goal.run_stmt-returns-in-Err
run_stmt-returns-in-Err g t c =
    if_ok_map c.stop_before.result (λ p is. passes_stop _ _ c.args.stmt.now c.in-Simple.line c.in-Simple.command c.args.index _ _ c.in-Err.stop p c.in-Simple.is c.in-Err.ensures.run c.in-Err.ensures.keeps is) c.stop_before.ensures

pub run_stmt-returns-in_ok-progress-in-Ok-true : goal.run_stmt-returns-in_ok-progress-in-Ok-true
run_stmt-returns-in_ok-progress-in-Ok-true g t c =
    let holds = rw c.in-Ok-true.field-0-test at c.in-Ok-true.ensures.holds in
    if_ok_map c.within.result (λ outer w. passes_first _ _ c.args.stmt.now c.in-If.line c.in-If.condition c.in-If.first c.in-If.second c.deref.result.now c.args.index _ _ c.in_ok-progress-in-Ok-true.progress outer c.in-If.is holds c.deref.ensures.value c.in_ok-progress-in-Ok-true.ensures w) c.within.ensures

pub run_stmt-returns-in_ok-progress-in-Ok-false : goal.run_stmt-returns-in_ok-progress-in-Ok-false
run_stmt-returns-in_ok-progress-in-Ok-false g t c =
    let holds = rw c.in-Ok-false.field-0-test at c.in-Ok-false.ensures.holds in
    if_ok_map c.within-in-Ok-false.result (λ outer w. passes_second _ _ c.args.stmt.now c.in-If.line c.in-If.condition c.in-If.first c.in-If.second c.deref-in-Ok-false.result.now c.args.index _ _ c.in_ok-progress-in-Ok-false.progress outer c.in-If.is holds c.deref-in-Ok-false.ensures.value c.in_ok-progress-in-Ok-false.ensures w) c.within-in-Ok-false.ensures

pub run_stmt-returns-in-Err-condition : goal.run_stmt-returns-in-Err-condition
run_stmt-returns-in-Err-condition g t c =
    if_ok_map c.stop_before-in-Err-condition.result (λ p is. passes_check _ _ c.args.stmt.now c.in-If.line c.in-If.condition c.in-If.first c.in-If.second c.args.index _ c.in-Err-condition.stop p c.in-If.is c.in-Err-condition.ensures.holds c.in-Err-condition.ensures.keeps is) c.stop_before-in-Err-condition.ensures

pub run_stmt-returns-in-Ok-values : goal.run_stmt-returns-in-Ok-values
run_stmt-returns-in-Ok-values g t c =
    let values = rw c.deref-in-Loop.ensures.value at c.in-Ok-values.ensures.values in
    if_ok_map c.run_turns.result (λ p ran. passes_turns _ _ c.args.stmt.now c.in-Loop.line c.in-Loop.name c.in-Loop.words c.in-Loop.body _ c.args.index _ _ p c.in-Loop.is values refl c.deref-in-Ok-values.ensures.value refl ran) c.run_turns.ensures

pub run_stmt-returns-in-Err-values : goal.run_stmt-returns-in-Err-values
run_stmt-returns-in-Err-values g t c =
    let stops = rw c.deref-in-Loop.ensures.value at c.in-Err-values.ensures.values in
    if_ok_map c.stop_before-in-Err-values.result (λ p is. passes_words _ _ c.args.stmt.now c.in-Loop.line c.in-Loop.name c.in-Loop.words c.in-Loop.body c.args.index _ c.in-Err-values.stop p c.in-Loop.is stops c.in-Err-values.ensures.keeps is) c.stop_before-in-Err-values.ensures

pub run_turns-returns-in_default : goal.run_turns-returns-in_default
run_turns-returns-in_default g t c =
    if_ok_map c.in_turn.result (λ outer w. turn_stopped _ _ c.args.turns.now c.args.first c.loop-turn.turn _ _ _ _ c.in_ok-progress.progress outer c.in_ok-scene.ensures c.loop-turn.invariant c.in_default.not-Finished c.in_ok-progress.ensures w) c.in_turn.ensures

pub run_turns-loop-turn-preserved : goal.run_turns-loop-turn-preserved
run_turns-loop-turn-preserved g t c =
    let ran = rw c.in-Finished.is at c.in_ok-progress.ensures in
    turn_finished _ _ c.args.turns.now c.args.first c.loop-turn.turn _ _ _ _ c.in_ok-scene.ensures c.loop-turn.invariant ran
