use Rattle.std.proofs.Common.{◌≡◌, bytes_eq, Option, Some, refl, sym, ap, ◌∙◌}
use Rattle.std.specs.Prelude.{option_map}
use Rattle.std.specs.Map.{lookup}
use Rattle.redo_record.specs.declared.outcome.Outcome.{Outcome}
use Rattle.redo_core.specs.Views.{FactView}
use Rattle.redo_core.specs.inside.Works.{told_in, few_known, entries_known, more_known}
use Rattle.redo_core.proofs.FactLemmas.{first_of, lookup-append, lookup-known}
use Rattle.redo_core.proofs.facts.FactsAnswers.answer.Goals as goal
use Rattle.redo_core.proofs.facts.FactsAnswers.answer.Goals.{After-get}

-- the hashed facts answer, and then the few
past : (c : After-get) → told_in c.args.self.now c.args.path.now ≡
    first_of (option_map (λ f. f.value.outcome) (lookup (bytes_eq c.args.path.now) c.deref.result.now)) (lookup (bytes_eq c.args.path.now) (few_known c.args.self.now.few.items))
past c =
    let few = few_known c.args.self.now.few.items in
    let known : more_known c.args.self.now.more ≡ entries_known c.deref.result.now = rw c.in-Some.is (rw c.deref.ensures refl) in
    lookup-append (bytes_eq c.args.path.now) (more_known c.args.self.now.more) few ∙
    ap (λ xs. first_of (lookup (bytes_eq c.args.path.now) xs) (lookup (bytes_eq c.args.path.now) few)) known ∙
    ap (λ o. first_of o (lookup (bytes_eq c.args.path.now) few)) (lookup-known c.deref.result.now c.args.path.now)

pub returns-in-Some-get : goal.returns-in-Some-get
returns-in-Some-get c =
    let d = (goal.at-returns-in-Some-get c).After-get in
    let S : Outcome → Option Outcome = λ o. Some o in
    let rest = lookup (bytes_eq c.args.path.now) (few_known c.args.self.now.few.items) in
    ap S (c.outcome.ensures ∙ ap (λ (f : FactView). f.outcome) c.read.ensures) ∙
    ap (λ o. first_of o rest) (ap (option_map (λ f. f.value.outcome)) c.in-Some-get.ensures) ∙ sym (past d)

pub returns-in-None-get : goal.returns-in-None-get
returns-in-None-get c =
    let d = (goal.at-returns-in-None-get c).After-get in
    let rest = lookup (bytes_eq c.args.path.now) (few_known c.args.self.now.few.items) in
    c.told_of.ensures ∙ ap (λ xs. lookup (bytes_eq c.args.path.now) (few_known xs)) c.deref-in-None-get.ensures.value ∙
    ap (λ o. first_of o rest) (ap (option_map (λ f. f.value.outcome)) c.in-None-get.ensures) ∙ sym (past d)
