use Rattle.std.proofs.Common.{◌≡◌, List, ℕ, drop, map}
use Rattle.std.specs.Option.{option_or}
use Rattle.redo_book.specs.Book.{IsBook, record_of}
use Rattle.redo_mend.specs.Recovered.{said_at}
use Rattle.redo_mend.specs.inside.Found.{AreFound, found_at}
use Rattle.redo_mend.proofs.FoundLemmas.{seen}
use Rattle.redo_mend.proofs.recovered.put_said.Given as goal

-- what the records that are left say, over what is found, is what all of them say over what was found
abbrev pub invariant-loop-made : goal.invariant-loop-made
invariant-loop-made l = record {
  found : AreFound (seen l.found.entries);
  left : IsBook (map record_of (drop l.made-index l.records));
  said :
      (p : List ℕ) → option_or (said_at l.tree (map record_of (drop l.made-index l.records)) p) (found_at (seen l.found.entries) p)
      ≡ option_or (said_at l.tree (map record_of l.records) p) (found_at (seen l.fn.found.entries) p);
}
