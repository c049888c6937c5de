use Rattle.std.proofs.Common.{rules, arith, ◌≡◌, ◌++◌, ◌+◌, ◌∙◌, ap, append_assoc, drop, sym}
use Rattle.std.proofs.lemmas.Grind.{common_steps}
use Rattle.std.specs.Prelude.{codes, flat_map}
use Rattle.std.proofs.KnownBytes.{Appends-trans}
use Rattle.redo_book.proofs.WriteLemmas.{split-next, writes-failed, writes-last}
use Rattle.redo_mend.proofs.FoundLemmas.{record_text, records-text}
use Rattle.redo_mend.proofs.recovered.write_book.Goals as goal

pub loop-made-preserved : goal.loop-made-preserved
loop-made-preserved g c =
    let before = c.loop-made.invariant in
    let item = c.made-item.result in
    record {
      works = grind (arith, common_steps);
      done = before.done ++ record_text item;
      split = split-next record_text c.args.records.now c.loop-made.made-index item item before.done _ (search rules) c.made-item.is before.split;
      gone = Appends-trans _ _ _ _ _ before.gone c.in_ok-write_record.ensures.writes;
    }

pub returns-in_err-write_record-clause-writes : goal.returns-in_err-write_record-clause-writes
returns-in_err-write_record-clause-writes g c =
    let before = c.loop-made.invariant in
    let item = c.made-item.result in
    let rest = flat_map record_text (drop (c.loop-made.made-index + 1) c.args.records.now) in
    writes-failed _ c.in_err-write_record.field-0.0 c.from_residual.result c.from_residual.ensures.1 _ _ _ before.done (record_text item) (rest ++ codes "end\n") _
    (records-text c.args.records.now
    ∙ ap (λ l. l ++ codes "end\n") (split-next record_text c.args.records.now c.loop-made.made-index item item before.done _ (search rules) c.made-item.is before.split)
    ∙ append_assoc (before.done ++ record_text item) rest (codes "end\n"))
    before.gone c.in_err-write_record.ensures.writes

pub returns-clause-writes : goal.returns-clause-writes
returns-clause-writes g c =
    let before = c.loop-made.invariant in
    let whole : before.done ≡ flat_map record_text c.args.records.now = let e = c.loop-made-test.false in grind (arith, common_steps) in
    writes-last c.write_end.result _ _ _ before.done (codes "end\n") _ (records-text c.args.records.now ∙ ap (λ l. l ++ codes "end\n") (sym whole)) before.gone c.write_end.ensures.writes
