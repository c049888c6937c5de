use Rattle.redo_step.proofs.AgreeingLemmas.{script_follows}
use Rattle.redo_step.proofs.laws.followed_records.Goals as goal

pub returns : goal.returns
returns c = λ one two a b deps parsed alike. script_follows one two a b alike deps parsed
