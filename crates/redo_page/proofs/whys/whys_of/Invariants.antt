use Rattle.std.proofs.Common.{map, take}
use Rattle.redo_explain.specs.Views.{begun_view}
use Rattle.redo_page.specs.inside.Whys.{AreWhys}
use Rattle.redo_page.proofs.whys.whys_of.Given as goal

-- the words of the scripts so far
abbrev pub invariant-loop-script : goal.invariant-loop-script
invariant-loop-script l = AreWhys l.sources (map begun_view (take l.script-index l.begun)) l.whys
