use Rattle.std.proofs.Common.{◌≡◌, ◌++◌, All, drop}
use Rattle.redo_core.specs.inside.Reported.{listed_paths, sources_among, IsNumberOf}
use Rattle.redo_core.proofs.finish.add_sources.Given as goal

-- the paths so far, with those that are left, are all
abbrev pub invariant-loop-path : goal.invariant-loop-path
invariant-loop-path l = record {
  paths : listed_paths l.listed.items ++ sources_among l.tree (drop l.path-index l.request) ≡ listed_paths l.fn.listed.items ++ sources_among l.tree l.request;
  numbers : All (λ e. IsNumberOf l.targets e.0.now e.1) l.listed.items;
}
