use Rattle.std.proofs.Common.{take, ◌∷◌, []}
use Rattle.std.specs.Prelude.{flat_map}
use Rattle.redo_dir.specs.Loaded.{wants}
use Rattle.redo_reads.specs.Reads.{Covers}
use Rattle.redo_run.proofs.coverage.places_are_read.Given as goal

-- the first ones were read
abbrev pub invariant-loop-file : goal.invariant-loop-file
invariant-loop-file l = Covers (wants l.wanted) l.tree (flat_map (λ f. f.0 ∷ []) (take l.file-index l.files))
