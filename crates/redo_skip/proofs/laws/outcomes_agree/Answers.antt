use Rattle.redo_skip.proofs.SkipLemmas.{outcomes-agree}
use Rattle.redo_skip.proofs.laws.outcomes_agree.Goals as goal

pub returns : goal.returns
returns c = λ s k lawful are request limit few honest p m. outcomes-agree s k lawful are request limit few honest p m
