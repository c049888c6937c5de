use Rattle.redo_step.proofs.AdvanceLemmas.{begun_fits}
use Rattle.redo_step.proofs.job.Job.begin.Goals as goal

pub returns-clause-fits : goal.returns-clause-fits
returns-clause-fits c = λ ask. rw (c.in_ok-state.ensures.ok, c.new.ensures.items, c.new-2.ensures) (begun_fits _ ask c.args.inputs.parsed.value)
