use Rattle.std.proofs.Common.{◌≡◌, ◌++◌, drop, flat_map}
use Rattle.redo_page.specs.Pages.{diagnosis_pieces}
use Rattle.redo_page.specs.Parts.{text_of}
use Rattle.redo_page.specs.inside.Links.{known_by}
use Rattle.redo_page.proofs.failures.push_diagnoses.Given as goal

-- what was added, with what is left, is all
abbrev pub invariant-loop-diagnosis : goal.invariant-loop-diagnosis
invariant-loop-diagnosis l =
    l.out ++ text_of (flat_map (λ d. diagnosis_pieces ((known_by l.links).row_of d.target) d) (drop l.diagnosis-index l.diagnoses))
    ≡ l.initial.out
    ++ text_of (flat_map (λ d. diagnosis_pieces ((known_by l.links).row_of d.target) d) l.diagnoses)
