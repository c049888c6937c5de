use Rattle.std.proofs.Common.{◌≡◌, ◌++◌, drop}
use Rattle.redo_page.specs.Data.{series}
use Rattle.redo_page.specs.Lists.{datum_pieces}
use Rattle.redo_page.specs.Parts.{text_of}
use Rattle.redo_page.proofs.list.push_each.Given as goal

-- what was added, with what is left, is all
abbrev pub invariant-loop-place : goal.invariant-loop-place
invariant-loop-place l =
    l.out ++ text_of (series (λ _ listed. datum_pieces listed) l.place (drop l.place l.targets))
    ≡ l.initial.out ++ text_of (series (λ _ listed. datum_pieces listed) 0 l.targets)
