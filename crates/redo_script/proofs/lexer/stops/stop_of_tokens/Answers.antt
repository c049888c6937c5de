use Rattle.std.proofs.Common.{◌≡◌, ℕ, length, rules, subst, arith}
use Rattle.redo_script.specs.inside.Lexer.{reader_of}
use Rattle.redo_script.proofs.StopMarkLemmas.{Reads, reads_none, reads_next, byte_stopped, end_stopped}
use Rattle.redo_script.proofs.lexer.stops.stop_of_tokens.Goals as goal

pub loop-at-init : goal.loop-at-init
loop-at-init c = record {
  reads = rw c.new.ensures.reader (reads_none c.args.text.now);
  within = omega arith;
  line = let a = c.new.ensures.line in omega (arith, a);
}

pub returns-in-Err-clause-fault : goal.returns-in-Err-clause-fault
returns-in-Err-clause-fault c = (byte_stopped c.args.text.now c.loop-at.at c.loop-at.quoting.quote _ c.in-Err.fault c.stopped.result c.loop-at-test.true c.loop-at.invariant.reads c.in-Err.ensures.reads c.stopped.ensures).0

pub returns-in-Err-clause-place : goal.returns-in-Err-clause-place
returns-in-Err-clause-place c = (byte_stopped c.args.text.now c.loop-at.at c.loop-at.quoting.quote _ c.in-Err.fault c.stopped.result c.loop-at-test.true c.loop-at.invariant.reads c.in-Err.ensures.reads c.stopped.ensures).1

pub loop-at-preserved : goal.loop-at-preserved
loop-at-preserved c = record {
  reads = reads_next c.args.text.now c.loop-at.at c.loop-at.quoting.quote _ _ c.byte.new.self.quote c.loop-at-test.true c.loop-at.invariant.reads c.in_default.ensures.reads c.in_default.ensures.quote;
  within = let lt = c.loop-at-test.true in omega (arith, lt);
  line = search rules;
}

-- the whole text was read
abbrev whole : goal.After-ended → Type 0
whole c = Reads c.args.text.now (length c.args.text.now) (reader_of c.loop-at.quoting.lexer) c.loop-at.quoting.quote

read_whole : (c : goal.After-ended) → whole c
read_whole c =
    let past = c.loop-at-test.false in
    let within = c.loop-at.invariant.within in
    let all : c.loop-at.at ≡ length c.args.text.now = omega (arith, past, within) in
    subst (λ (n : ℕ). Reads c.args.text.now n (reader_of c.loop-at.quoting.lexer) c.loop-at.quoting.quote) all c.loop-at.invariant.reads

pub returns-clause-fault : goal.returns-clause-fault
returns-clause-fault c = (end_stopped c.args.text.now c.loop-at.quoting.quote _ c.ended.result (read_whole c) c.ended.ensures.fault c.ended.ensures.place).0

pub returns-clause-place : goal.returns-clause-place
returns-clause-place c = (end_stopped c.args.text.now c.loop-at.quoting.quote _ c.ended.result (read_whole c) c.ended.ensures.fault c.ended.ensures.place).1
