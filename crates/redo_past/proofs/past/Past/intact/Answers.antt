use Rattle.std.proofs.Common.{rules, ◌≡◌, ◌∙◌, Some, true, false, sym, is_some, slice_get}
use Rattle.redo_tree.specs.Tree.{IsTree, file_at}
use Rattle.redo_book.specs.Book.{Record, record_at, record_of}
use Rattle.redo_past.specs.Past.{set_aside}
use Rattle.redo_past.specs.inside.Books.{same_answer}
use Rattle.redo_past.proofs.CarryLemmas.{Without, is-found, none-found, rule-file, was-read, same-beq}
use Rattle.redo_past.proofs.PastLemmas.{past_book}
use Rattle.redo_past.proofs.past.Past.intact.Goals as goal

pub returns-then-is_some-clause-found : goal.returns-then-is_some-clause-found
returns-then-is_some-clause-found c =
    let past = c.args.self.now in
    let t = c.args.target.now in
    let law : Without past = λ p. let is : IsTree past.tree = search rules in c.no_other_file_is_taken_out.ensures past.tree (set_aside past.tree past.book) p is in
    let r : Record = record_of c.index-records-number.result in
    let n = c.in_ok-number.number in
    let here : slice_get past.book n ≡ Some r =
    was-read c.records-records.result.now past.book n c.index-records-number.result (c.records-records.ensures.records ∙ c.book.ensures.book) c.in_ok-number.ensures.within c.index-records-number.is in
    let at : record_at past.book t ≡ Some r = sym c.in_ok-number.ensures.found ∙ here in
    let file : is_some (file_at past.tree t) ≡ c.is_some-2.result = sym (rule-file past.tree past.sources (set_aside past.tree past.book) t c.tree.ensures.past.sources c.requires.rule) ∙ search rules in
    let state : is_some r.state ≡ c.is_some.result = search rules in
    let same : same_answer (is_some r.state) (is_some (file_at past.tree t)) ≡ true = same-beq _ _ _ _ state file ∙ c.if-is_some.true in
    here ∙ sym (is-found past t c.tree.ensures.past (past_book past c.tree.ensures.past).sorted law c.requires.rule r at same)

pub returns-else-is_some-clause-found : goal.returns-else-is_some-clause-found
returns-else-is_some-clause-found c =
    let past = c.args.self.now in
    let t = c.args.target.now in
    let law : Without past = λ p. let is : IsTree past.tree = search rules in c.no_other_file_is_taken_out.ensures past.tree (set_aside past.tree past.book) p is in
    let r : Record = record_of c.index-records-number.result in
    let n = c.in_ok-number.number in
    let here : slice_get past.book n ≡ Some r =
    was-read c.records-records.result.now past.book n c.index-records-number.result (c.records-records.ensures.records ∙ c.book.ensures.book) c.in_ok-number.ensures.within c.index-records-number.is in
    let at : record_at past.book t ≡ Some r = sym c.in_ok-number.ensures.found ∙ here in
    let file : is_some (file_at past.tree t) ≡ c.is_some-2.result = sym (rule-file past.tree past.sources (set_aside past.tree past.book) t c.tree.ensures.past.sources c.requires.rule) ∙ search rules in
    let state : is_some r.state ≡ c.is_some.result = search rules in
    let same : same_answer (is_some r.state) (is_some (file_at past.tree t)) ≡ false = same-beq _ _ _ _ state file ∙ c.if-is_some.false in
    sym (none-found past t c.tree.ensures.past (past_book past c.tree.ensures.past).sorted law c.requires.rule r at same)
