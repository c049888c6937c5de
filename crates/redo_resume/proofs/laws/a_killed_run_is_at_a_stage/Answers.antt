use Rattle.redo_resume.proofs.KilledLemmas.{stage-of-run}
use Rattle.redo_resume.proofs.laws.a_killed_run_is_at_a_stage.Goals as goal

pub returns : goal.returns
returns c = λ loaded mended options report book exit built is_tree mends start clear others named found front rest cut now holds.
    stage-of-run c.each_step_is_a_stage.ensures.clearing c.each_step_is_a_stage.ensures.storing loaded mended options
    report book exit built is_tree mends start clear others named found front rest cut now holds
