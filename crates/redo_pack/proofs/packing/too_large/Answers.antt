use Rattle.std.proofs.Common.{rules, ◌≡◌, ℕ, List, ◌++◌, ◌∷◌, [], ◌∙◌, ap, sym, subst, append-nil, append_assoc, false}
use Rattle.redo_tree.specs.Tree.{Node, file_at, node_of}
use Rattle.redo_pack.specs.Packs.{IsTooLarge}
use Rattle.redo_pack.specs.inside.Large.{is_large}
use Rattle.redo_pack.proofs.LargeLemmas.{all-last, is_too_large, none_large, seen}
use Rattle.redo_pack.proofs.packing.too_large.Goals as goal

pub loop-path-init : goal.loop-path-init
loop-path-init c =
    let all = ap seen c.into_iter-entries.ensures.into_iter_gives.0 ∙ c.in_ok-in_order.ensures.entries in
    record {
      done = [];
      split = sym all ∙ ap seen (sym c.into_iter-path-iterator.ensures.into_iter_gives);
      small = tt;
    }

pub returns-then-is_large : goal.returns-then-is_large
returns-then-is_large c =
    let same : c.in_ok-clone.field-0 ≡ c.in-Some.path.now = search rules in
    subst (IsTooLarge c.args.tree.now) (sym same) (is_too_large c.args.tree.now c.in-Some.path.now (sym c.is_large.ensures ∙ c.if-is_large.true))

pub loop-path-preserved : goal.loop-path-preserved
loop-path-preserved c =
    let before = c.loop-path.invariant in
    let e : List ℕ × Node = (c.in-Some.path.now, node_of c.in-Some._entry.now) in
    let next : seen c.loop-path.path-iterator ≡ e ∷ seen c.next.new.self = search rules in
    record {
      done = before.done ++ e ∷ [];
      split = before.split ∙ ap (λ l. before.done ++ l) next ∙ sym (append_assoc before.done (e ∷ []) (seen c.next.new.self));
      small = all-last (λ x. is_large (file_at c.args.tree.now x.0) ≡ false) before.done e before.small (sym c.is_large.ensures ∙ c.if-is_large.false);
    }

pub returns : goal.returns
returns c =
    let before = c.loop-path.invariant in
    let none : seen c.loop-path.path-iterator ≡ [] = search rules in
    none_large c.args.tree.now before.done (before.split ∙ ap (λ l. before.done ++ l) none ∙ append-nil before.done) before.small
