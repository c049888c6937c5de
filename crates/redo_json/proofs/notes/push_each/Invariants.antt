use Rattle.std.proofs.Common.{◌≡◌, ◌++◌, drop, flat_map}
use Rattle.redo_json.specs.Members.{unbuilt_tokens}
use Rattle.redo_json.proofs.notes.push_each.Given as goal

-- the notes so far, with those that are left, are all
abbrev pub invariant-loop-note : goal.invariant-loop-note
invariant-loop-note l =
    l.out ++ flat_map unbuilt_tokens (drop l.note-index l.notes) ≡ l.initial.out ++ flat_map unbuilt_tokens l.notes
