use Rattle.std.proofs.Common.{◌≡◌, ◌||◌, ℕ, List, take}
use Rattle.redo_names.specs.Paths.{is_among}
use Rattle.redo_record.specs.Progress.{changes}
use Rattle.redo_notes.proofs.asked.add_changes.Given as goal

-- the paths that were there, and those of the change entries so far
abbrev pub invariant-loop-dep : goal.invariant-loop-dep
invariant-loop-dep l =
    (path : List ℕ) → is_among l.asked path ≡ (is_among l.fn.asked path || is_among (changes (take l.dep-index l.deps)) path)
