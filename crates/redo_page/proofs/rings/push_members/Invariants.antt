use Rattle.std.proofs.Common.{◌≡◌, ◌++◌, drop, flat_map}
use Rattle.redo_page.specs.Pages.{member_pieces}
use Rattle.redo_page.specs.Parts.{text_of}
use Rattle.redo_page.specs.inside.Links.{known_by}
use Rattle.redo_page.proofs.rings.push_members.Given as goal

-- what was added, with what is left, is all
abbrev pub invariant-loop-member : goal.invariant-loop-member
invariant-loop-member l =
    l.out ++ text_of (flat_map (member_pieces (known_by l.links)) (drop l.member-index l.members))
    ≡ l.initial.out ++ text_of (flat_map (member_pieces (known_by l.links)) l.members)
