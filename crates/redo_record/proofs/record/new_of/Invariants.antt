use Rattle.std.proofs.Common.{◌≡◌, ◌++◌, Some, drop}
use Rattle.redo_record.specs.Entries.{search_entries, with_all}
use Rattle.redo_record.proofs.record.new_of.Given as goal

-- the entries so far, and then those that are left, are all
abbrev pub invariant-loop-dep : goal.invariant-loop-dep
invariant-loop-dep l =
    with_all (search_entries l.rule.missing (Some l.rule.do_file) ++ l.own) (drop l.dep-index l.dep-items)
    ≡ with_all (search_entries l.rule.missing (Some l.rule.do_file)) l.declared
