use Rattle.std.proofs.Common.{◌≡◌, ◌++◌, drop, flat_map}
use Rattle.redo_json.specs.Members.{entry_tokens}
use Rattle.redo_json.proofs.entries.push_entries.Given as goal

-- the entries so far, with those that are left, are all
abbrev pub invariant-loop-entry : goal.invariant-loop-entry
invariant-loop-entry l =
    l.out ++ flat_map entry_tokens (drop l.entry-index l.entries) ≡ l.initial.out ++ flat_map entry_tokens l.entries
