use Rattle.redo_rules.specs.Build.{rules_of}
use Rattle.redo_build.specs.Outcomes.{outcome_at}
use Rattle.redo_build.specs.Schedule.{run, opening}
use Rattle.redo_build.proofs.DepthLemmas.{settled}
use Rattle.redo_build.proofs.SoundLemmas.{opening-sound, run-sound}
use Rattle.redo_build.proofs.LookingLemmas.{nothing-due}
use Rattle.redo_build.proofs.QuietLemmas.{is_part, shows}
use Rattle.redo_build.proofs.BegunLemmas.{begun-needed}
use Rattle.redo_build.proofs.OnceLemmas.{takes-once}
use Rattle.redo_rules.proofs.LawfulTreeLemmas.{rules_keep_nothing, rules_lawful}
use Rattle.redo_rules.proofs.laws.builds_of_trees.Goals as goal

pub returns-clause-depth : goal.returns-clause-depth
returns-clause-depth c = λ tree limits request limit few. settled (rules_of tree limits) (rules_lawful tree limits) request limit few

pub returns-clause-part : goal.returns-clause-part
returns-clause-part c = λ tree limits request limit events all_open.
    let r = rules_of tree limits in
    let lawful = rules_lawful tree limits in
    let sound = run-sound r lawful request (opening r request) events (opening-sound r lawful request) all_open in
    is_part r lawful request (run r events (opening r request)) sound limit

pub returns-clause-quiet : goal.returns-clause-quiet
returns-clause-quiet c = λ tree limits request limit events all_open quiet few.
    let r = rules_of tree limits in
    let lawful = rules_lawful tree limits in
    let sound = run-sound r lawful request (opening r request) events (opening-sound r lawful request) all_open in
    let looked = nothing-due r (rules_keep_nothing tree limits) (run r events (opening r request)) in
    shows r lawful request (run r events (opening r request)) sound limit quiet looked few

pub returns-clause-once : goal.returns-clause-once
returns-clause-once c = λ tree limits request events all_open.
    let r = rules_of tree limits in
    let lawful = rules_lawful tree limits in
    takes-once r lawful request events (opening r request) (opening-sound r lawful request) all_open

pub returns-clause-begun : goal.returns-clause-begun
returns-clause-begun c = λ tree limits request limit events all_open quiet few.
    let r = rules_of tree limits in
    let looked = nothing-due r (rules_keep_nothing tree limits) (run r events (opening r request)) in
    λ p.
    let begun = begun-needed r (rules_lawful tree limits) request events all_open quiet looked limit few p in (
      λ taken. let all = begun.0 taken in (all.0, all.1),
      λ both. begun.1 (both.0, both.1, rules_keep_nothing tree limits p (outcome_at r limit)),
    )
