use Rattle.std.proofs.Common.{◌≡◌, Some, drop}
use Rattle.redo_record.specs.Entries.{search_entries}
use Rattle.redo_record.proofs.SearchLemmas.{any_found}
use Rattle.redo_record.proofs.record.without_found.Given as goal

-- whether one of those that are left is found
abbrev pub invariant-loop-dep : goal.invariant-loop-dep
invariant-loop-dep l =
    any_found (search_entries l.rule.missing (Some l.rule.do_file)) (drop l.dep-index l.dep-items)
    ≡ any_found (search_entries l.rule.missing (Some l.rule.do_file)) l.fn.declared
