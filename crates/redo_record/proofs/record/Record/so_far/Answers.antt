use Rattle.redo_record.proofs.OnceLemmas.{once-whole}
use Rattle.redo_record.proofs.SearchLemmas.{by-script}
use Rattle.redo_record.proofs.record.Record.so_far.Goals as goal

pub returns : goal.returns
returns c =
    rw (c.in_ok-missing.ensures.cases, c.in_ok-clone.ensures.cases) (by-script c.args.rule.now.missing c.args.rule.now.do_file c.in_ok-own.own c.args.declared.now c.each_once.ensures c.in_ok-own.ensures)

pub invariant_of-result : goal.invariant_of-result
invariant_of-result c =
    rw (c.in_ok-missing.ensures.cases, c.in_ok-clone.ensures.cases) (once-whole c.args.rule.now.missing c.args.rule.now.do_file c.in_ok-own.own c.args.declared.now c.each_once.ensures c.in_ok-own.ensures)
