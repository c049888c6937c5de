use Rattle.std.proofs.Common.{sym, ap, ◌∙◌}
use Rattle.std.proofs.lemmas.List.{drop_all}
use Rattle.redo_record.specs.Entries.{with_all}
use Rattle.redo_record.proofs.StoredLemmas.{put-in}
use Rattle.redo_record.proofs.deps.copied.Goals as goal

pub returns : goal.returns
returns c =
    let entries = c.args.entries.now in
    sym (ap (with_all c.loop-entry.many) (drop_all c.loop-entry.entry-index entries c.loop-entry-test.false)) ∙ c.loop-entry.invariant ∙ put-in entries c.requires
