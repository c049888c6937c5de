use Rattle.std.proofs.Common.{◌≡◌, ◌++◌, drop}
use Rattle.redo_record.proofs.record.add_all.Given as goal

-- the entries so far, with those that are left, are all
abbrev pub invariant-loop-dep : goal.invariant-loop-dep
invariant-loop-dep l = l.list.items ++ drop l.dep-index l.own ≡ l.fn.list.items ++ l.own
