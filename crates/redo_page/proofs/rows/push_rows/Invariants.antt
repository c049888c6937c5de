use Rattle.std.proofs.Common.{◌≡◌, ◌++◌, drop}
use Rattle.redo_page.specs.Pages.{rows_pieces}
use Rattle.redo_page.specs.Parts.{text_of}
use Rattle.redo_page.specs.inside.Links.{known_by}
use Rattle.redo_page.proofs.rows.push_rows.Given as goal

-- what was added, with what is left, is all
abbrev pub invariant-loop-number : goal.invariant-loop-number
invariant-loop-number l =
    l.out ++ text_of (rows_pieces (known_by l.links) l.all l.number (drop l.number l.rows))
    ≡ l.initial.out ++ text_of (rows_pieces (known_by l.links) l.all 0 l.rows)
