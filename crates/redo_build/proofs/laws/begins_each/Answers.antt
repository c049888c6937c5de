use Rattle.redo_build.proofs.BegunLemmas.{begun-needed}
use Rattle.redo_build.proofs.laws.begins_each.Goals as goal

pub returns : goal.returns
returns c = λ r lawful request limit events all_open quiet looked few p.
    begun-needed r lawful request events all_open quiet looked limit few p
