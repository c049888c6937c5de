use Rattle.std.proofs.Common.{Bor, ◌≡◌, ◌∙◌, List, [], ℕ, ap, map, rules, subst, sym}
use Rattle.std.proofs.lemmas.Iterator.{items_from_collect}
use Rattle.std.proofs.lemmas.Iterator.Consumers.{YieldsList-at, YieldsList-from_copied, YieldsList-from_rest}
use Rattle.std.proofs.lemmas.Result.{IfOk-weaker}
use Rattle.std.specs.Map.{values_of}
use Rattle.std.specs.Option.{option_or}
use Rattle.redo_book.specs.declared.book.BookRecord.{BookRecord}
use Rattle.redo_book.specs.Book.{record_of}
use Rattle.redo_mend.specs.Recovered.{IsRecovered, said_at}
use Rattle.redo_mend.specs.inside.Found.{found_at}
use Rattle.redo_mend.proofs.FoundLemmas.{recovered-all, seen}
use Rattle.redo_mend.proofs.recovered.recovered_records.Goals as goal

pub returns : goal.returns
returns c =
    let tree = c.args.tree.now in
    let one = c.put_said.new.found.entries in
    let two = c.put_said-2.new.found.entries in
    let none : c.new-found.result.entries ≡ [] = search rules in
    let all = recovered-all tree c.args.journal.now c.args.old.now one two c.in_ok-put_said-2.ensures.found c.values.ensures.ordered
    (λ p. c.in_ok-put_said.ensures.said p
    ∙ ap (λ rs. option_or (said_at tree rs p) (found_at (seen c.new-found.result.entries) p)) c.records.ensures.records
    ∙ ap (λ (es : List (Bor (List ℕ) × Bor BookRecord)). option_or (said_at tree c.args.old.now p) (found_at (seen es) p)) none)
    (λ p. c.in_ok-put_said-2.ensures.said p ∙ ap (λ rs. option_or (said_at tree rs p) (found_at (seen one) p)) c.records-2.ensures.records) in
    IfOk-weaker c.collect.result _ _
    (λ records e. subst (λ rs. IsRecovered tree c.args.journal.now c.args.old.now (map (λ r. record_of r.now) rs)) (sym e) all)
    (items_from_collect c.collect.result c.collect.ensures.ran
    (YieldsList-from_copied (YieldsList-at c.copied.ensures.source (YieldsList-from_rest (values_of two) c.values.ensures.rest))))
