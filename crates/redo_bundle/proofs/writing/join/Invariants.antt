use Rattle.std.proofs.Common.{◌≡◌, ◌≤◌, ◌++◌, length, take, drop}
use Rattle.std.specs.Prelude.{flat_map}
use Rattle.redo_bundle.proofs.writing.join.Given as goal

-- the parts so far are at the front of the line, and those that are left follow them
abbrev pub invariant-loop-part : goal.invariant-loop-part
invariant-loop-part l = record {
  len : length l.line ≡ length l.fn.line;
  fits : l.size ≤ length l.line;
  split : flat_map (λ part. part.now) l.fn.parts ≡ take l.size l.line ++ flat_map (λ part. part.now) (drop l.part-index l.fn.parts);
}
