use Rattle.std.proofs.Common.{◌≡◌, List, rules, arith, sym, refl, ap, ◌∙◌}
use Rattle.redo_script.specs.declared.ast.Stmt.{Stmt}
use Rattle.redo_script.specs.View.{script_of}
use Rattle.redo_step.specs.Ends.{size}
use Rattle.redo_step.specs.inside.Operands.{seen}
use Rattle.redo_step.specs.inside.Machine.{state_of}
use Rattle.redo_step.specs.inside.Scene.{scene_setting}
use Rattle.redo_step.proofs.ComesLemmas.{if_ok_map}
use Rattle.redo_step.proofs.WeightLemmas.{weight_item}
use Rattle.redo_step.proofs.WalkLemmas.{past_none, past_next, past_all, past_ends, simple_goes, simple_halts}
use Rattle.redo_step.proofs.WalkLemmas.{first_passes, second_passes, condition_halts, words_halt, loop_passes}
use Rattle.redo_step.proofs.WalkLemmas.{turn_goes, turn_ends, further_twice}
use Rattle.redo_step.proofs.walk.+walking.Goals as goal

pub walk-loop-index-init : goal.walk-loop-index-init
walk-loop-index-init g t c = past_none (scene_setting c.args.shell.now.scene) (g.A.Answers.ask c.args.shell.now.answers.now) c.args.stmts.now (state_of c.args.effects.now)

pub walk-walk_stmt-requires : goal.walk-walk_stmt-requires
walk-walk_stmt-requires g t c κs within =
    let less = rw (sym c.index-stmts-index.is) at (weight_item c.args.stmts.now c.loop-index.index c.index-stmts-index.result c.loop-index-test.true) in
    (omega arith, search rules)

pub walk-returns-in_default : goal.walk-returns-in_default
walk-returns-in_default g t c =
    if_ok_map c.further.result (λ outer further. past_ends _ _ c.args.stmts.now c.loop-index.index c.in_ok-size_of-in_default.field-0 c.index-stmts-index.result _ _ _ c.in_ok-walked.walked outer c.loop-index-test.true c.index-stmts-index.is c.loop-index.invariant c.in_ok-size_of-in_default.ensures c.in_default.not-Past c.in_ok-walked.ensures further) c.further.ensures

pub walk-loop-index-preserved : goal.walk-loop-index-preserved
walk-loop-index-preserved g t c =
    past_next _ _ c.args.stmts.now c.loop-index.index c.index-stmts-index.result _ _ _ c.loop-index-test.true c.index-stmts-index.is c.loop-index.invariant (rw c.in-Past.is at c.in_ok-walked.ensures)

pub walk-returns : goal.walk-returns
walk-returns g t c = past_all _ _ c.args.stmts.now c.loop-index.index _ _ c.loop-index-test.false c.loop-index.invariant

pub walk_stmt-returns-in-Ok : goal.walk_stmt-returns-in-Ok
walk_stmt-returns-in-Ok g t c = simple_goes _ _ c.args.stmt.now c.in-Simple.line c.in-Simple.command _ _ c.in-Simple.is c.in-Ok.ensures.run

pub walk_stmt-returns-in_ok-operands-in-Err : goal.walk_stmt-returns-in_ok-operands-in-Err
walk_stmt-returns-in_ok-operands-in-Err g t c =
    let same = ap seen c.deref.ensures.value ∙ c.in_ok-operands-in-Err.ensures in
    if_ok_map c.halted.result (λ w halted. simple_halts _ _ c.args.stmt.now c.in-Simple.line c.in-Simple.command _ _ c.in-Err.halt w c.in-Simple.is c.in-Err.ensures.run _ same halted) c.halted.ensures

pub walk_stmt-returns-in_ok-walk-in-Ok-true : goal.walk_stmt-returns-in_ok-walk-in-Ok-true
walk_stmt-returns-in_ok-walk-in-Ok-true g t c =
    let holds = rw c.in-Ok-true.field-0-test at c.in-Ok-true.ensures.holds in
    if_ok_map c.further.result (λ outer further. first_passes _ _ c.args.stmt.now c.in-If.line c.in-If.condition c.in-If.first c.in-If.second c.deref-in-Ok-true.result.now _ _ c.in_ok-walk-in-Ok-true.field-0 outer c.in-If.is holds c.deref-in-Ok-true.ensures.value c.in_ok-walk-in-Ok-true.ensures further) c.further.ensures

pub walk_stmt-returns-in_ok-further-in-Ok-false : goal.walk_stmt-returns-in_ok-further-in-Ok-false
walk_stmt-returns-in_ok-further-in-Ok-false g t c =
    let holds = rw c.in-Ok-false.field-0-test at c.in-Ok-false.ensures.holds in
    let counts : c.in_ok-size_of-in-Ok-false.field-0 ≡ size (script_of c.in-If.first.items) = c.in_ok-size_of-in-Ok-false.ensures ∙ ap (λ (xs : List Stmt). size (script_of xs)) c.deref-in-Ok-false-2.ensures.value in
    let first = rw counts at c.in_ok-further-in-Ok-false.ensures in
    if_ok_map c.further-in-Ok-false-2.result (λ outer further. second_passes _ _ c.args.stmt.now c.in-If.line c.in-If.condition c.in-If.first c.in-If.second c.deref-in-Ok-false.result.now _ _ c.in_ok-walked-in-Ok-false.walked outer c.in-If.is holds c.deref-in-Ok-false.ensures.value c.in_ok-walked-in-Ok-false.ensures (further_twice c.in_ok-walked-in-Ok-false.walked c.in_ok-further-in-Ok-false.field-0 outer (size (script_of c.in-If.first.items)) 1 first further)) c.further-in-Ok-false-2.ensures

pub walk_stmt-returns-in_ok-operands-in-Err-condition : goal.walk_stmt-returns-in_ok-operands-in-Err-condition
walk_stmt-returns-in_ok-operands-in-Err-condition g t c =
    let same = ap seen c.deref-in-Err-condition.ensures.value ∙ c.in_ok-operands-in-Err-condition.ensures in
    if_ok_map c.halted-in-Err-condition.result (λ w halted. condition_halts _ _ c.args.stmt.now c.in-If.line c.in-If.condition c.in-If.first c.in-If.second _ c.in-Err-condition.halt w c.in-If.is c.in-Err-condition.ensures.holds _ same halted) c.halted-in-Err-condition.ensures

pub walk_stmt-returns-in_ok-walk_turns-in-Ok-values : goal.walk_stmt-returns-in_ok-walk_turns-in-Ok-values
walk_stmt-returns-in_ok-walk_turns-in-Ok-values g t c =
    let values = rw c.deref-in-Loop.ensures.value at c.in-Ok-values.ensures.values in
    if_ok_map c.further-in-Ok-values.result (λ outer further. loop_passes _ _ c.args.stmt.now c.in-Loop.line c.in-Loop.name c.in-Loop.words c.in-Loop.body _ c.in-Loop.is values refl c.deref-in-Ok-values.ensures.value _ _ c.in_ok-walk_turns-in-Ok-values.field-0 outer c.in_ok-walk_turns-in-Ok-values.ensures further) c.further-in-Ok-values.ensures

pub walk_stmt-returns-in_ok-operands-in-Err-values : goal.walk_stmt-returns-in_ok-operands-in-Err-values
walk_stmt-returns-in_ok-operands-in-Err-values g t c =
    let stops = rw c.deref-in-Loop.ensures.value at c.in-Err-values.ensures.values in
    let words = rw c.deref-in-Err-values.ensures.value at c.in_ok-operands-in-Err-values.ensures in
    let same = ap seen c.deref-in-Err-values-2.ensures.value ∙ words in
    if_ok_map c.halted-in-Err-values.result (λ w halted. words_halt _ _ c.args.stmt.now c.in-Loop.line c.in-Loop.name c.in-Loop.words c.in-Loop.body _ c.in-Err-values.halt w c.in-Loop.is stops _ same halted) c.halted-in-Err-values.ensures

pub walk_turns-returns-in_default : goal.walk_turns-returns-in_default
walk_turns-returns-in_default g t c =
    let is = rw c.as_slice-value-items.ensures at c.value-item.is in
    let less = rw c.as_slice-value-items.ensures at c.loop-value-test.true in
    turn_ends _ _ c.args.round.now c.loop-value.value-index c.value-item.result _ _ _ _ c.in_ok-walked.walked less is c.in_ok-with_value.ensures c.loop-value.invariant c.in_default.not-Past c.in_ok-walked.ensures

pub walk_turns-loop-value-preserved : goal.walk_turns-loop-value-preserved
walk_turns-loop-value-preserved g t c =
    let is = rw c.as_slice-value-items.ensures at c.value-item.is in
    let less = rw c.as_slice-value-items.ensures at c.loop-value-test.true in
    turn_goes _ _ c.args.round.now c.loop-value.value-index c.value-item.result _ _ _ _ less is c.in_ok-with_value.ensures c.loop-value.invariant (rw c.in-Past.is at c.in_ok-walked.ensures)
