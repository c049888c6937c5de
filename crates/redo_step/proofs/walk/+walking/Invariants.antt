use Rattle.std.proofs.Common.{◌≡◌, ◌+◌, ◌*◌, take}
use Rattle.redo_script.specs.Syntax.{finish}
use Rattle.redo_script.specs.View.{script_of, before}
use Rattle.redo_step.proofs.WeightLemmas.{weight}
use Rattle.redo_step.proofs.WalkLemmas.{IsPast}
use Rattle.redo_step.specs.Runs.{goes}
use Rattle.redo_step.specs.inside.Machine.{state_of}
use Rattle.redo_step.specs.inside.Scene.{scene_setting}
use Rattle.redo_step.specs.inside.Walk.{round_turns}
use Rattle.redo_step.proofs.walk.+walking.Given as goal

abbrev pub decreases-walk : goal.decreases-walk
decreases-walk g l = 3 * weight (script_of l.stmts.now) + 1

abbrev pub decreases-walk_stmt : goal.decreases-walk_stmt
decreases-walk_stmt g l = 3 * weight (before l.stmt.now finish)

abbrev pub decreases-walk_turns : goal.decreases-walk_turns
decreases-walk_turns g l = 3 * weight (script_of l.round.now.body.now) + 2

abbrev pub invariant-walk-loop-index : goal.invariant-walk-loop-index
invariant-walk-loop-index g l = IsPast (scene_setting l.shell.scene) (g.A.Answers.ask l.shell.answers.now) l.stmts l.index (state_of l.initial.effects) (state_of l.effects)

abbrev pub invariant-walk_turns-loop-value : goal.invariant-walk_turns-loop-value
invariant-walk_turns-loop-value g l = round_turns (scene_setting l.shell.scene) (g.A.Answers.ask l.shell.answers.now) l.round (take l.value-index l.round.values.now) (state_of l.initial.effects) ≡ goes (state_of l.effects)
