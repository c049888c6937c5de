use Rattle.std.proofs.Common.{rules, arith, ◌≡◌, ◌++◌, ◌+◌, ◌∙◌, drop, subst, sym}
use Rattle.std.proofs.lemmas.Grind.{common_steps}
use Rattle.std.specs.Prelude.{flat_map}
use Rattle.std.specs.Io.KnownBytes.{Appends}
use Rattle.std.proofs.KnownBytes.{Appends-trans}
use Rattle.redo_book.proofs.WriteLemmas.{entries-text, entry_text, split-next, writes-failed}
use Rattle.redo_book.proofs.writing.write_entries.Goals as goal

pub loop-entry-preserved : goal.loop-entry-preserved
loop-entry-preserved g c =
    let before = c.loop-entry.invariant in
    let item = c.entry-item.result in
    record {
      works = grind (arith, common_steps);
      done = before.done ++ entry_text item;
      split = split-next entry_text c.args.entries.now c.loop-entry.entry-index item item before.done _ (search rules) c.entry-item.is before.split;
      gone = Appends-trans _ _ _ _ _ before.gone c.in_ok-write_entry.ensures.writes;
    }

pub returns-in_err-write_entry-clause-writes : goal.returns-in_err-write_entry-clause-writes
returns-in_err-write_entry-clause-writes g c =
    let before = c.loop-entry.invariant in
    let item = c.entry-item.result in
    let rest = flat_map entry_text (drop (c.loop-entry.entry-index + 1) c.args.entries.now) in
    writes-failed _ c.in_err-write_entry.field-0.0 c.from_residual.result c.from_residual.ensures.1 _ _ _ before.done (entry_text item) rest _
    (entries-text c.args.entries.now ∙ split-next entry_text c.args.entries.now c.loop-entry.entry-index item item before.done _ (search rules) c.entry-item.is before.split)
    before.gone c.in_err-write_entry.ensures.writes

pub returns-clause-writes : goal.returns-clause-writes
returns-clause-writes g c =
    let before = c.loop-entry.invariant in
    let whole : before.done ≡ flat_map entry_text c.args.entries.now = let e = c.loop-entry-test.false in grind (arith, common_steps) in
    subst (Appends _ _) (whole ∙ sym (entries-text c.args.entries.now)) before.gone
