use Rattle.redo_build.proofs.DepthLemmas.{settled}
use Rattle.redo_build.proofs.laws.depth_is_enough.Goals as goal

pub returns : goal.returns
returns c = λ r lawful request limit few. settled r lawful request limit few
