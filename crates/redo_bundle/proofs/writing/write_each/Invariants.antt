use Rattle.std.proofs.Common.{◌≡◌, ◌++◌, List, ℕ, drop, false}
use Rattle.std.specs.Prelude.{flat_map}
use Rattle.std.specs.Io.KnownBytes.{Appends}
use Rattle.redo_bundle.proofs.writing.write_each.Given as goal

-- the parts so far were written, and those that are left follow them
abbrev pub invariant-loop-part : goal.invariant-loop-part
invariant-loop-part g l = record {
  works : g.W.ByteOut.has_failed l.writer ≡ false;
  done : List ℕ;
  split : flat_map (λ part. part.now) l.fn.parts ≡ done ++ flat_map (λ part. part.now) (drop l.part-index l.fn.parts);
  gone : Appends (g.W.ByteOut.held l.fn.writer) (g.W.ByteOut.held l.writer) done;
}
