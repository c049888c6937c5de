use Rattle.std.proofs.Common.{◌≡◌, ◌++◌, drop, filter_map}
use Rattle.redo_record.specs.Progress.{changes}
use Rattle.redo_page.specs.inside.Links.{known_by}
use Rattle.redo_page.proofs.grouping.needs_of.Given as goal

-- the numbers so far, with those of the entries that are left, are all
abbrev pub invariant-loop-entry : goal.invariant-loop-entry
invariant-loop-entry l =
    l.needs.items ++ filter_map (known_by l.links).row_of (changes (drop l.entry-index l.entries))
    ≡ filter_map (known_by l.links).row_of (changes l.entries)
