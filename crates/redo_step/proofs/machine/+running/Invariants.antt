use Rattle.std.proofs.Common.{◌+◌, ◌*◌}
use Rattle.redo_script.specs.Syntax.{finish}
use Rattle.redo_script.specs.View.{script_of, before}
use Rattle.redo_step.proofs.WeightLemmas.{weight}
use Rattle.redo_step.specs.Place.{all_of, skip}
use Rattle.redo_step.specs.Reach.{Reaches}
use Rattle.redo_step.specs.inside.Machine.{state_of, turns_from}
use Rattle.redo_step.specs.inside.Scene.{scene_setting}
use Rattle.redo_step.proofs.machine.+running.Given as goal

abbrev pub invariant-run_from-loop-index : goal.invariant-run_from-loop-index
invariant-run_from-loop-index g l =
    Reaches (scene_setting l.shell.scene) (g.A.Answers.ask l.shell.answers.now) (all_of (scene_setting l.shell.scene) (skip l.first (script_of l.stmts))) (state_of l.initial.effects) (all_of (scene_setting l.shell.scene) (skip l.index (script_of l.stmts))) (state_of l.effects)

abbrev pub decreases-run_from : goal.decreases-run_from
decreases-run_from g l = 3 * weight (script_of l.stmts.now) + 1

abbrev pub decreases-run_stmt : goal.decreases-run_stmt
decreases-run_stmt g l = 3 * weight (before l.stmt.now finish)

abbrev pub invariant-run_turns-loop-turn : goal.invariant-run_turns-loop-turn
invariant-run_turns-loop-turn g l =
    Reaches (scene_setting l.shell.scene) (g.A.Answers.ask l.shell.answers.now) (turns_from (scene_setting l.shell.scene) l.turns l.first) (state_of l.initial.effects) (turns_from (scene_setting l.shell.scene) l.turns l.turn) (state_of l.effects)

abbrev pub decreases-run_turns : goal.decreases-run_turns
decreases-run_turns g l = 3 * weight (script_of l.turns.now.body.now) + 2
