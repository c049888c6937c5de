use Rattle.std.proofs.Common.{rules, arith, Ok, sym, subst, IfSome}
use Rattle.std.proofs.lemmas.Grind.{common_steps}
use Rattle.std.proofs.lemmas.Result.{err_from_is_err_and}
use Rattle.redo_bundle.specs.Bundle.{Reads}
use Rattle.redo_bundle.proofs.OnceLemmas.{reads_each}
use Rattle.redo_bundle.proofs.TurnLemmas.{Reached-first, Reached-next, longer, nothing_held, reads_all}
use Rattle.redo_bundle.proofs.TurnLemmas.{reads_fault, shows_header}
use Rattle.redo_bundle.proofs.SmallLemmas.{reached_small}
use Rattle.redo_bundle.proofs.reading.read_bundle_by_line.Goals as goal

pub loop-parser-init : goal.loop-parser-init
loop-parser-init g c = record {
  works = search rules;
  reached = Reached-first _ c.in_ok-parser.parser.held c.in_ok-parser.parser.tree c.in_ok-parser.ensures.held c.in_ok-parser.ensures.tree;
}

pub returns-in_err-read_next-clause-reads : goal.returns-in_err-read_next-clause-reads
returns-in_err-read_next-clause-reads g c =
    let p = err_from_is_err_and c.from_residual-in_err-read_next.result c.from_residual-in_err-read_next.ensures.1 in
    rw (p.1, p.2) (reads_fault _ _ _ _ _ c.loop-parser.invariant.reached c.in_err-read_next.ensures.fault)

pub returns-in_err-read_next-clause-each : goal.returns-in_err-read_next-clause-each
returns-in_err-read_next-clause-each g c =
    reads_each _ (g.R.ByteIn.left c.args.reader.now) (returns-in_err-read_next-clause-reads g c)

pub returns-in_err-read_next-clause-header : goal.returns-in_err-read_next-clause-header
returns-in_err-read_next-clause-header g c =
    let p = err_from_is_err_and c.from_residual-in_err-read_next.result c.from_residual-in_err-read_next.ensures.1 in
    rw (p.1, p.2) (shows_header _ _ _ _ _ _ c.loop-parser.invariant.reached c.in_err-read_next.ensures.fault c.in_err-read_next.ensures.header)

pub loop-parser-preserved : goal.loop-parser-preserved
loop-parser-preserved g c = record {
  works = grind (arith, common_steps);
  reached = Reached-next _ _ _ _ _ c.loop-parser.invariant.reached (c.in_ok-read_next.ensures.entry (grind (arith, common_steps)));
}

pub returns-clause-small : goal.returns-clause-small
returns-clause-small g c =
    reached_small _ _ c.loop-parser.parser.tree c.read_next.new.self.tree _ c.loop-parser.invariant.reached (c.in_ok-read_next.ensures.end (grind (arith, common_steps))).0

pub returns-clause-reads : goal.returns-clause-reads
returns-clause-reads g c =
    let before = c.loop-parser.invariant.reached in
    let (same, end, empty, past) = c.in_ok-read_next.ensures.end (grind (arith, common_steps)) in
    subst (λ t. IfSome (g.R.ByteIn.left c.args.reader.now) (λ text. Reads (Ok t) text)) (sym same) (reads_all _ _ _ c.loop-parser.parser.tree _ before end (nothing_held _ _ empty past))

pub returns-clause-each : goal.returns-clause-each
returns-clause-each g c =
    reads_each (Ok c.read_next.new.self.tree) (g.R.ByteIn.left c.args.reader.now) (returns-clause-reads g c)

pub loop-parser-smaller : goal.loop-parser-smaller
loop-parser-smaller g c =
    let more = longer _ _ c.loop-parser.parser.tree c.read_next.new.self.tree (c.in_ok-read_next.ensures.entry (grind (arith, common_steps))) in
    let small = c.in_ok-read_next.ensures.small in
    omega arith
