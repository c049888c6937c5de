use Rattle.std.proofs.Common.{◌≡◌, ◌++◌, drop, flat_map}
use Rattle.redo_page.specs.Pages.{requested_pieces}
use Rattle.redo_page.specs.Parts.{text_of}
use Rattle.redo_page.proofs.runs.push_requested.Given as goal

-- what was added, with what is left, is all
abbrev pub invariant-loop-path : goal.invariant-loop-path
invariant-loop-path l =
    l.out ++ text_of (flat_map requested_pieces (drop l.path-index l.request))
    ≡ l.initial.out ++ text_of (flat_map requested_pieces l.request)
