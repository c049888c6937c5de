use Rattle.std.proofs.Common.{rules, ◌∙◌, ap, sym, subst}
use Rattle.std.proofs.lemmas.Fn.{always_returns_same}
use Rattle.std.specs.List.{AllByRecursion}
use Rattle.redo_path.specs.Names.{IsName, IsPart}
use Rattle.redo_path.proofs.CutLemmas.{parts_left, parts_left-next, parts_left-start, IsPart-parts, printable-word}
use Rattle.redo_path.proofs.words.are_names.Goals as goal

pub loop-part-init : goal.loop-part-init
loop-part-init c =
    let started = ap parts_left c.into_iter-part-iterator.ensures.into_iter_gives ∙ parts_left-start c.split-part-items.result c.args.word.now c.split-part-items.ensures.rest c.split-part-items.ensures.done in
    record {
      cut = subst (AllByRecursion IsPart) (sym started) (IsPart-parts c.args.word.now (printable-word c.args.word.now c.requires));
      to_whole = subst (AllByRecursion IsName) started;
      from_whole = subst (AllByRecursion IsName) (sym started);
    }

pub is_name-requires : goal.is_name-requires
is_name-requires c =
    let next = parts_left-next _ c.loop-part.part-iterator c.next.new.self c.in-Some.part (always_returns_same _ _ _ (λ a r q k. search rules)) c.in-Some.ensures.steps in
    (subst (AllByRecursion IsPart) next c.loop-part.invariant.cut).0

pub returns-then-not-is_name : goal.returns-then-not-is_name
returns-then-not-is_name c =
    let next = parts_left-next _ c.loop-part.part-iterator c.next.new.self c.in-Some.part (always_returns_same _ _ _ (λ a r q k. search rules)) c.in-Some.ensures.steps in
    (λ yes. absurd cc, λ all. sym c.if-not-is_name.true ∙ c.is_name.ensures.1 (subst (AllByRecursion IsName) next (c.loop-part.invariant.from_whole all)).0)

pub loop-part-preserved : goal.loop-part-preserved
loop-part-preserved c =
    let next = parts_left-next _ c.loop-part.part-iterator c.next.new.self c.in-Some.part (always_returns_same _ _ _ (λ a r q k. search rules)) c.in-Some.ensures.steps in
    let named = c.is_name.ensures.0 c.if-not-is_name.false in
    record {
      cut = (subst (AllByRecursion IsPart) next c.loop-part.invariant.cut).1;
      to_whole = λ rest. c.loop-part.invariant.to_whole (subst (AllByRecursion IsName) (sym next) (named, rest));
      from_whole = λ all. (subst (AllByRecursion IsName) next (c.loop-part.invariant.from_whole all)).1;
    }
