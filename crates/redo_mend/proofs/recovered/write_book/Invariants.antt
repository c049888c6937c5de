use Rattle.std.proofs.Common.{◌≡◌, ◌++◌, List, ℕ, drop, false}
use Rattle.std.specs.Prelude.{flat_map}
use Rattle.std.specs.Io.KnownBytes.{Appends}
use Rattle.redo_mend.proofs.FoundLemmas.{record_text}
use Rattle.redo_mend.proofs.recovered.write_book.Given as goal

-- the records so far were written, and those that are left follow them
abbrev pub invariant-loop-made : goal.invariant-loop-made
invariant-loop-made g l = record {
  works : g.W.ByteOut.has_failed l.out ≡ false;
  done : List ℕ;
  split : flat_map record_text l.fn.records ≡ done ++ flat_map record_text (drop l.made-index l.fn.records);
  gone : Appends (g.W.ByteOut.held l.fn.out) (g.W.ByteOut.held l.out) done;
}
