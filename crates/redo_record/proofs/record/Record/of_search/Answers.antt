use Rattle.std.proofs.Common.{[], subst, sym}
use Rattle.redo_record.specs.Entries.{AreOnce}
use Rattle.redo_record.specs.declared.deps.DepKind.TheVariants as kinds
use Rattle.redo_record.proofs.OnceLemmas.{once-entries}
use Rattle.redo_record.proofs.SearchLemmas.{search-alone}
use Rattle.redo_record.proofs.record.Record.of_search.Goals as goal

pub returns : goal.returns
returns c = search-alone c.args.missing c.new.result c.each_once.ensures c.new.ensures

pub invariant_of-result : goal.invariant_of-result
invariant_of-result c = subst AreOnce (sym (search-alone c.args.missing c.new.result c.each_once.ensures c.new.ensures)) (once-entries [] kinds.Create c.args.missing tt)
