use Rattle.std.proofs.Common.{◌≡◌, ◌∙◌, ◌||◌, ap, rules, sym}
use Rattle.std.specs.Arc.{arc_value}
use Rattle.std.specs.Prelude.{option_copied}
use Rattle.redo_names.specs.Paths.{is_among}
use Rattle.redo_names.proofs.PathLemmas.{or-assoc}
use Rattle.redo_record.specs.Entries.{change_of, entries_of}
use Rattle.redo_record.specs.Progress.{changes}
use Rattle.redo_notes.proofs.AskedLemmas.{record-asks}
use Rattle.redo_notes.proofs.asked.add_row.Goals as goal

pub returns : goal.returns
returns c = λ p.
    let parts = c.parts-parts.result in
    let missing = parts.missing.now in
    let file = option_copied parts.do_file in
    let own = parts.own.now in
    let old = is_among c.args.asked.now p in
    let told : arc_value c.args.row.now.deps ≡ entries_of missing file own = search rules in
    c.in_ok-add_changes.ensures p ∙ ap (λ b. b || is_among (changes own) p) (c.in_ok-add_do_file.ensures p)
    ∙ or-assoc old (is_among (changes (change_of file)) p) (is_among (changes own) p)
    ∙ ap (λ b. old || b) (sym (ap (λ deps. is_among (changes deps) p) told ∙ record-asks missing file own p))
