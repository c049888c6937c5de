use Rattle.std.proofs.Common.{◌≡◌, ◌++◌, drop, flat_map}
use Rattle.redo_page.specs.Pages.{entry_pieces}
use Rattle.redo_page.specs.Parts.{text_of}
use Rattle.redo_page.specs.inside.Links.{known_by}
use Rattle.redo_page.proofs.rows.push_entries.Given as goal

-- what was added, with what is left, is all
abbrev pub invariant-loop-entry : goal.invariant-loop-entry
invariant-loop-entry l =
    l.out ++ text_of (flat_map (entry_pieces (known_by l.links)) (drop l.entry-index l.entries))
    ≡ l.initial.out ++ text_of (flat_map (entry_pieces (known_by l.links)) l.entries)
