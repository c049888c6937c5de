use Rattle.std.proofs.Common.{◌≡◌, length}
use Rattle.redo_dir.specs.inside.Batches.{IsFront, asked}
use Rattle.redo_dir.proofs.storing.drafts_of.Given as goal

-- the files so far are drafted
abbrev pub invariant-loop-path : goal.invariant-loop-path
invariant-loop-path g l = record {
  count : length l.drafts.items ≡ l.path-index;
  front : IsFront l.tree l.files (asked l.drafts.items);
}
