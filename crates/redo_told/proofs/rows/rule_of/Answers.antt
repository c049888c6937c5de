use Rattle.std.proofs.Common.{◌≡◌, ◌∙◌, None, Some, ap, rules, sym}
use Rattle.std.specs.Prelude.{option_copied}
use Rattle.redo_record.specs.Entries.{entries_of}
use Rattle.redo_told.proofs.RuleLemmas.{with-file, without-file}
use Rattle.redo_told.specs.Rows.{first_change}
use Rattle.redo_told.proofs.rows.rule_of.Goals as goal

pub returns-in-Some : goal.returns-in-Some
returns-in-Some c =
    let parts = c.parts-parts.result in
    let file = c.in-Some.file.now in
    let is : option_copied parts.do_file ≡ Some file = search rules in
    sym (with-file parts.missing.now file parts.own.now)
    ∙ sym (ap first_change (c.parts-parts.ensures ∙ ap (λ f. entries_of parts.missing.now f parts.own.now) is))

pub returns-in-None : goal.returns-in-None
returns-in-None c =
    let parts = c.parts-parts.result in
    let is : option_copied parts.do_file ≡ None = search rules in
    c.first_of.ensures ∙ sym (without-file parts.missing.now parts.own.now)
    ∙ sym (ap first_change (c.parts-parts.ensures ∙ ap (λ f. entries_of parts.missing.now f parts.own.now) is))
