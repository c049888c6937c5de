use Rattle.std.proofs.Common.{◌≡◌, ◌++◌, take}
use Rattle.std.specs.Prelude.{flat_map}
use Rattle.redo_notes.specs.Texts.{unmade_line}
use Rattle.redo_notes.proofs.text.push_all_unmade.Given as goal

-- the lines so far
abbrev pub invariant-loop-path : goal.invariant-loop-path
invariant-loop-path l = l.text.items ≡ l.fn.text.items ++ flat_map unmade_line (take l.path-index l.paths)
