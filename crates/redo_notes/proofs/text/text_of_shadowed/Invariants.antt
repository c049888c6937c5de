use Rattle.std.proofs.Common.{◌≡◌, take}
use Rattle.std.specs.Prelude.{flat_map}
use Rattle.redo_notes.specs.Texts.{shadowed_line}
use Rattle.redo_notes.proofs.text.text_of_shadowed.Given as goal

-- the lines of the paths so far
abbrev pub invariant-loop-path : goal.invariant-loop-path
invariant-loop-path l = l.text.items ≡ flat_map shadowed_line (take l.path-index l.paths)
