use Rattle.std.proofs.Common.{◌≡◌, ◌++◌, drop}
use Rattle.redo_page.specs.Data.{member_pieces, series}
use Rattle.redo_page.specs.Parts.{text_of}
use Rattle.redo_page.specs.inside.Grouping.{numbers_in}
use Rattle.redo_page.specs.inside.Links.{known_by}
use Rattle.redo_page.proofs.data_block.push_members.Given as goal

-- what was added, with what is left, is all
abbrev pub invariant-loop-number : goal.invariant-loop-number
invariant-loop-number l =
    l.out ++ text_of (series (member_pieces (known_by l.told.named.now.links.now) (numbers_in l.told)) l.number (drop l.number l.rows))
    ≡ l.initial.out ++ text_of (series (member_pieces (known_by l.told.named.now.links.now) (numbers_in l.told)) 0 l.rows)
