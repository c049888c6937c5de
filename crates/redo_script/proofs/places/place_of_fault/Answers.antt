use Rattle.std.proofs.Common.{◌∙◌}
use Rattle.redo_script.proofs.places.place_of_fault.Goals as goal

pub returns-in-Some-clause-tokens : goal.returns-in-Some-clause-tokens
returns-in-Some-clause-tokens c h =
    let stop = rw c.in-Some.is at c.in_ok-stop.ensures in
    c.stop_place.ensures.starts ∙ stop.0.place
