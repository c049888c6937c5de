use Rattle.std.proofs.Common.{◌≡◌, ◌++◌, List, ℕ, drop, false}
use Rattle.std.specs.Prelude.{flat_map}
use Rattle.std.specs.Io.KnownBytes.{Appends}
use Rattle.redo_book.proofs.WriteLemmas.{entry_text}
use Rattle.redo_book.proofs.writing.write_entries.Given as goal

-- the lines so far were written, and those that are left follow them
abbrev pub invariant-loop-entry : goal.invariant-loop-entry
invariant-loop-entry g l = record {
  works : g.W.ByteOut.has_failed l.out ≡ false;
  done : List ℕ;
  split : flat_map entry_text l.fn.entries ≡ done ++ flat_map entry_text (drop l.entry-index l.fn.entries);
  gone : Appends (g.W.ByteOut.held l.fn.out) (g.W.ByteOut.held l.out) done;
}
