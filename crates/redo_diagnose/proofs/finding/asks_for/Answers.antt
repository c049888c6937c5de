use Rattle.std.proofs.Common.{◌≡◌, ◌∙◌, rules, sym}
use Rattle.std.specs.Arc.{arc_value}
use Rattle.std.specs.Prelude.{option_copied}
use Rattle.std.proofs.lemmas.Slice.Eq.{bytes_eq-Decides}
use Rattle.redo_record.specs.Entries.{entries_of}
use Rattle.redo_record.specs.declared.deps.DepKind.TheVariants.{Change}
use Rattle.redo_diagnose.proofs.AskLemmas.{own-change}
use Rattle.redo_diagnose.proofs.finding.asks_for.Goals as goal

pub returns-then-eq : goal.returns-then-eq
returns-then-eq c = λ told.
    let deps = arc_value c.args.row.now.deps in
    let parts = c.parts.result in
    let own = parts.own.now in
    let dep = c.dep-item.result in
    let path = c.args.path.now in
    let whole : deps ≡ entries_of parts.missing.now (option_copied parts.do_file) own = search rules in
    let change : dep.kind ≡ Change = search rules in
    let same = (bytes_eq-Decides dep.path path).0 (sym c.eq.ensures ∙ c.if-eq.true) in
    own-change deps own parts.missing.now (option_copied parts.do_file) c.loop-dep.dep-index dep path whole
    c.loop-dep-test.true c.dep-item.is change same
