use Rattle.std.proofs.Common.{◌≡◌, ◌++◌, take}
use Rattle.std.specs.Prelude.{flat_map}
use Rattle.redo_notes.specs.Texts.{unbuilt_line}
use Rattle.redo_notes.proofs.text.push_all_unbuilt.Given as goal

-- the lines so far
abbrev pub invariant-loop-note : goal.invariant-loop-note
invariant-loop-note l = l.text.items ≡ l.fn.text.items ++ flat_map unbuilt_line (take l.note-index l.notes)
