use Rattle.std.proofs.Common.{◌≡◌, ◌++◌, drop}
use Rattle.redo_page.specs.Data.{requested_in}
use Rattle.redo_page.specs.inside.Links.{known_by}
use Rattle.redo_page.proofs.data_block.requested.Given as goal

-- the numbers so far, with those of the paths that are left, are all
abbrev pub invariant-loop-path : goal.invariant-loop-path
invariant-loop-path l =
    l.numbers.items ++ requested_in (known_by l.links) (drop l.path-index l.request)
    ≡ requested_in (known_by l.links) l.request
