use Rattle.std.proofs.Common.{rules, ◌∙◌, ap, sym, subst}
use Rattle.std.proofs.lemmas.Fn.{always_returns_same}
use Rattle.std.specs.List.{AllByRecursion}
use Rattle.redo_path.specs.Names.{IsName, IsPart, names}
use Rattle.redo_path.specs.Resolve.{walk}
use Rattle.redo_path.proofs.FileNameLemmas.{Answers-file}
use Rattle.redo_path.proofs.CutLemmas.{parts_left, parts_left-next, parts_left-start, parts_left-done, IsPart-parts}
use Rattle.redo_path.proofs.CutLemmas.{printable-word, walk-next, walk-refused, resolved-walk, resolved-end}
use Rattle.redo_path.proofs.CutLemmas.{Answers-refused}
use Rattle.std.proofs.lemmas.Result.{err_from_is_err_and}
use Rattle.std.specs.Prelude.{Err}
use Rattle.redo_path.proofs.words.follow_word.Goals as goal

pub loop-part-init : goal.loop-part-init
loop-part-init c =
    let copied = c.in_ok-text.ensures ∙ c.text.ensures.text in
    let started = ap parts_left c.into_iter-part-iterator.ensures.into_iter_gives ∙ parts_left-start c.split-part-items.result c.args.word.now c.split-part-items.ensures.rest c.split-part-items.ensures.done in
    record {
      named = subst (λ t. AllByRecursion IsName (names t)) (sym copied) c.text.ensures.path.each;
      cut = subst (AllByRecursion IsPart) (sym started) (IsPart-parts c.args.word.now (printable-word c.args.word.now c.requires));
      leads = (λ i. walk (names (copied i)) (started i));
    }

pub follow-requires-clause-part : goal.follow-requires-clause-part
follow-requires-clause-part c =
    let next = parts_left-next _ c.loop-part.part-iterator c.next.new.self c.in-Some.part (always_returns_same _ _ _ (λ a r q k. search rules)) c.in-Some.ensures.steps in
    (subst (AllByRecursion IsPart) next c.loop-part.invariant.cut).0

pub loop-part-preserved : goal.loop-part-preserved
loop-part-preserved c =
    let next = parts_left-next _ c.loop-part.part-iterator c.next.new.self c.in-Some.part (always_returns_same _ _ _ (λ a r q k. search rules)) c.in-Some.ensures.steps in
    record {
      named = c.in_ok-follow.ensures.names;
      cut = (subst (AllByRecursion IsPart) next c.loop-part.invariant.cut).1;
      leads = sym (walk-next _ _ _ _ _ next c.in_ok-follow.ensures.step) ∙ c.loop-part.invariant.leads;
    }

pub returns-in_err-follow : goal.returns-in_err-follow
returns-in_err-follow c =
    let next = parts_left-next _ c.loop-part.part-iterator c.next.new.self c.in-Some.part (always_returns_same _ _ _ (λ a r q k. search rules)) c.in-Some.ensures.steps in
    let p = err_from_is_err_and c.from_residual-in_err-follow.result c.from_residual-in_err-follow.ensures.1 in
    rw (p.1, p.2) (Answers-refused _ _ _ _ c.in_err-follow.ensures.step (λ e.
    resolved-walk c.args.base.now c.args.word.now (Err c.in_err-follow.field-0.0) c.requires (sym c.loop-part.invariant.leads ∙ walk-refused _ _ _ _ _ next e)))

pub finish-requires : goal.finish-requires
finish-requires c = c.loop-part.invariant.named

pub returns : goal.returns
returns c =
    let over = parts_left-done c.loop-part.part-iterator c.in-None.ensures.steps.0 in
    Answers-file _ _ _ (resolved-end c.args.base.now c.args.word.now c.loop-part.text.items _ c.requires over c.loop-part.invariant.leads) c.finish.ensures
