use Rattle.std.proofs.Common.{map, take}
use Rattle.redo_explain.specs.Views.{begun_view}
use Rattle.redo_json.specs.inside.Known.{AreReasonsOf}
use Rattle.redo_json.proofs.known.reasons_of.Given as goal

-- the reasons so far
abbrev pub invariant-loop-script : goal.invariant-loop-script
invariant-loop-script l = AreReasonsOf (map begun_view (take l.script-index l.begun)) l.reasons
