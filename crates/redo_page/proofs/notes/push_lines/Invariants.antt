use Rattle.std.proofs.Common.{◌≡◌, ◌++◌, flat_map}
use Rattle.redo_page.specs.Pages.{line_pieces, lines_in}
use Rattle.redo_page.specs.Parts.{text_of}
use Rattle.redo_page.proofs.notes.push_lines.Given as goal

-- what was added, with what is left, is all
abbrev pub invariant-loop-line : goal.invariant-loop-line
invariant-loop-line l =
    l.out ++ text_of (flat_map line_pieces l.line-iterator)
    ≡ l.initial.out ++ text_of (flat_map line_pieces (lines_in l.fn.text))
