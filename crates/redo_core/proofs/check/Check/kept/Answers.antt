use Rattle.std.proofs.Common.{◌≡◌, ◌∙◌, Some, [], ap, map, sym}
use Rattle.redo_record.specs.declared.outcome.Outcome.TheVariants.{Built}
use Rattle.redo_record.specs.Entries.{with_all}
use Rattle.redo_tree.specs.Tree.{file_at}
use Rattle.redo_book.specs.Book.{record_of}
use Rattle.redo_skip.specs.Checks.{shown}
use Rattle.redo_core.specs.inside.Checking.{entries_of_record}
use Rattle.redo_core.proofs.CheckingLemmas.{file-is}
use Rattle.redo_core.proofs.CheckSteps.{shown-all}
use Rattle.redo_core.proofs.check.Check.kept.Goals as goal

pub returns-clause-outcome : goal.returns-clause-outcome
returns-clause-outcome c = λ p k.
    let given = c.args.given.now in
    let r = record_of c.record_of-made.result.now in
    let both : Some r ≡ Some k.made = sym c.record_of-made.ensures.there ∙ k.there in
    let same : r ≡ k.made = cc in
    ap Built (c.in_ok-file_as_read.ensures ∙ ap (λ x. file_at given.past.tree x.target) same ∙ file-is given p c.args.self.now.number k)

pub returns-clause-record : goal.returns-clause-record
returns-clause-record c =
    let es = c.record_of-made.result.now.entries.items in
    c.of_entries.ensures ∙ c.in_ok-deps.ensures ∙ ap (λ l. with_all [] (map shown l)) c.deref.ensures.value ∙
    shown-all es c.record_of-made.ensures.is_record.once ∙ ap (λ o. map shown (entries_of_record o)) (sym c.record_of-made.ensures.there)
