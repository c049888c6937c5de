use Rattle.std.proofs.Common.{◌≡◌, ◌++◌, drop, flat_map}
use Rattle.redo_page.specs.Lists.{listed_pieces}
use Rattle.redo_page.specs.Parts.{text_of}
use Rattle.redo_page.proofs.list.push_all.Given as goal

-- what was added, with what is left, is all
abbrev pub invariant-loop-target : goal.invariant-loop-target
invariant-loop-target l =
    l.out ++ text_of (flat_map listed_pieces (drop l.target-index l.targets))
    ≡ l.initial.out ++ text_of (flat_map listed_pieces l.targets)
