use Rattle.std.proofs.Common.{◌++◌, ◌∙◌, Some, ap, sym}
use Rattle.redo_record.specs.Entries.{search_entries, with_entry, with_all}
use Rattle.redo_record.proofs.SearchLemmas.{entered-behind, passed-over}
use Rattle.redo_record.proofs.record.add_new.Goals as goal

pub returns-then-branch : goal.returns-then-branch
returns-then-branch c =
    λ rest. passed-over (search_entries c.args.rule.now.missing (Some c.args.rule.now.do_file)) c.args.own.now c.args.dep.now rest (sym c.in_ok-is_found.ensures ∙ c.if-branch.true)

pub returns : goal.returns
returns c =
    let found = search_entries c.args.rule.now.missing (Some c.args.rule.now.do_file) in
    let entered = (λ i. with_entry c.args.own.now (sym c.in_ok-clone.ensures.cases.0 i) (sym c.in_ok-clone.ensures.cases.1 i)) ∙ sym c.in_ok-insert.ensures.ok in
    λ rest. entered-behind found c.args.own.now c.args.dep.now rest (sym c.in_ok-is_found.ensures ∙ c.if-branch.false) ∙ ap (λ own. with_all (found ++ own) rest) entered
