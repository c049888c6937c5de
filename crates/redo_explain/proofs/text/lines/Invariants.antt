use Rattle.std.proofs.Common.{◌≡◌, ◌++◌, drop, flat_map, map}
use Rattle.redo_which.specs.Rule.{found_of}
use Rattle.redo_explain.specs.Views.{begun_view}
use Rattle.redo_explain.specs.Words.{reason_line}
use Rattle.redo_explain.proofs.text.lines.Given as goal

-- the lines so far, with those that are left, are all
abbrev pub invariant-loop-script : goal.invariant-loop-script
invariant-loop-script l =
    l.text.items ++ flat_map (reason_line (found_of l.sources)) (map begun_view (drop l.script-index l.begun))
    ≡ flat_map (reason_line (found_of l.sources)) (map begun_view l.begun)
