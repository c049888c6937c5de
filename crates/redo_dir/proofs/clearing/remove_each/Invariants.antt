use Rattle.std.proofs.Common.{◌≡◌, ◌++◌, ◌∷◌, [], ℕ, List, map, take}
use Rattle.redo_which.specs.Candidates.{journal_path}
use Rattle.redo_dir.specs.Stored.{Removes}
use Rattle.redo_dir.specs.Storing.{IsSettled}
use Rattle.redo_dir.proofs.clearing.remove_each.Given as goal

-- the first of the files are removed; and where the last of these is the journal, what it tells of was settled
abbrev pub invariant-loop-path : goal.invariant-loop-path
invariant-loop-path g l = record {
  removed : g.D.WorkDir.done l.dir ≡ g.D.WorkDir.done l.fn.dir ++ map Removes (take l.path-index l.left.own.items);
  settled : (others : List (List ℕ)) → take l.path-index l.left.own.items ≡ others ++ journal_path ∷ [] →
      IsSettled g.D.WorkDir.done g.D.WorkDir.settled l.left.to_settle.items (g.D.WorkDir.done l.dir);
}
