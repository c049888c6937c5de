use Rattle.redo_record.proofs.OnceLemmas.{once-whole}
use Rattle.redo_record.proofs.SearchLemmas.{by-script}
use Rattle.redo_record.proofs.record.Record.of_script.Goals as goal

pub returns : goal.returns
returns c = by-script c.args.rule.missing c.args.rule.do_file c.in_ok-own.own c.args.declared c.each_once.ensures c.in_ok-own.ensures

pub invariant_of-result : goal.invariant_of-result
invariant_of-result c = once-whole c.args.rule.missing c.args.rule.do_file c.in_ok-own.own c.args.declared c.each_once.ensures c.in_ok-own.ensures
