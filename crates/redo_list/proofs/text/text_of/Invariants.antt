use Rattle.std.proofs.Common.{◌≡◌, map, take}
use Rattle.redo_list.specs.Lists.{list_text, listed_view}
use Rattle.redo_list.proofs.text.text_of.Given as goal

-- the lines so far are those of the targets so far
abbrev pub invariant-loop-target : goal.invariant-loop-target
invariant-loop-target l = l.text.items ≡ list_text (map listed_view (take l.target-index l.targets))
