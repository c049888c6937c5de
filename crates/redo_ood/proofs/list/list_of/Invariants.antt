use Rattle.std.proofs.Common.{◌≡◌, map, take}
use Rattle.std.specs.Prelude.{flat_map}
use Rattle.redo_list.specs.Lists.{listed_view}
use Rattle.redo_ood.specs.Listing.{listed_at}
use Rattle.redo_ood.specs.inside.Outlooks.{InEachRun}
use Rattle.redo_ood.proofs.list.list_of.Given as goal

-- what is listed of the paths so far
abbrev pub invariant-loop-path : goal.invariant-loop-path
invariant-loop-path l =
    InEachRun l.outlook.past.now l.outlook.requested.now (λ given.
    map listed_view l.listed.items ≡ flat_map (listed_at given) (take l.path-index l.asked))
