use Rattle.std.proofs.Common.{◌∙◌, Some, sym}
use Rattle.std.proofs.lemmas.List.{at_drop_all}
use Rattle.redo_record.specs.Entries.{search_entries}
use Rattle.redo_record.proofs.SearchLemmas.{all-new, any_found}
use Rattle.redo_record.proofs.record.without_found.Goals as goal

-- none was found
pub returns : goal.returns
returns c =
    let found = search_entries c.args.rule.now.missing (Some c.args.rule.now.do_file) in
    all-new found c.args.declared c.each_once.ensures
    (sym c.loop-dep.invariant ∙ at_drop_all (any_found found) c.as_slice-dep-items.result.now c.loop-dep.dep-index c.loop-dep-test.false)
