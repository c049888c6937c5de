use Rattle.std.proofs.Common.{◌∙◌, ◌<◌, length, ap, sym, subst}
use Rattle.redo_core.proofs.CheckSteps.{read-record}
use Rattle.redo_core.proofs.check.record_of.Goals as goal

pub returns-clause-is_record : goal.returns-clause-is_record
returns-clause-is_record c =
    let within = subst (λ b. c.args.number < length b) (sym (c.book.ensures.book ∙ ap (λ v. v.book) c.past.ensures)) c.requires in
    read-record c.records.result.now c.book.result.now c.args.number c.index-records-number.result c.records.ensures.records c.records.ensures.book within c.index-records-number.is
