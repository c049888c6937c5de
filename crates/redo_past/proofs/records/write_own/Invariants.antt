use Rattle.std.proofs.Common.{◌≡◌, ◌++◌, List, ℕ, drop, false}
use Rattle.std.specs.Prelude.{flat_map}
use Rattle.std.specs.Io.KnownBytes.{Appends}
use Rattle.redo_past.proofs.NotedLemmas.{dep_text}
use Rattle.redo_past.proofs.records.write_own.Given as goal

-- the entries so far were written, and those that are left follow them
abbrev pub invariant-loop-dep : goal.invariant-loop-dep
invariant-loop-dep g l = record {
  works : g.W.ByteOut.has_failed l.out ≡ false;
  done : List ℕ;
  split : flat_map (dep_text l.fn.states) l.fn.own ≡ done ++ flat_map (dep_text l.fn.states) (drop l.dep-index l.fn.own);
  gone : Appends (g.W.ByteOut.held l.fn.out) (g.W.ByteOut.held l.out) done;
  same : l.states ≡ l.fn.states;
}
