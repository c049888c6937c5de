use Rattle.redo_skip.proofs.SkipLemmas.{skips}
use Rattle.redo_skip.proofs.laws.skipping_is_sound.Goals as goal

pub returns : goal.returns
returns c = λ s k lawful are request limit few decided honest. skips s k lawful are request limit few honest decided
