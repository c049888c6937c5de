use Rattle.std.proofs.Common.{◌≡◌, ◌++◌, drop, flat_map}
use Rattle.redo_page.specs.Pages.{ring_pieces}
use Rattle.redo_page.specs.Parts.{text_of}
use Rattle.redo_page.specs.inside.Links.{known_by}
use Rattle.redo_page.proofs.rings.push_each.Given as goal

-- what was added, with what is left, is all
abbrev pub invariant-loop-ring : goal.invariant-loop-ring
invariant-loop-ring l =
    l.out ++ text_of (flat_map (ring_pieces (known_by l.links)) (drop l.ring-index l.rings))
    ≡ l.initial.out ++ text_of (flat_map (ring_pieces (known_by l.links)) l.rings)
