use Rattle.std.proofs.Common.{rules, ◌≡◌, ℕ, List, ◌++◌, ◌∷◌, [], ◌∙◌, ap, sym, subst, append-nil, append_assoc}
use Rattle.std.specs.Prelude.{IsUtf8}
use Rattle.redo_tree.specs.Tree.{Node, node_of}
use Rattle.redo_pack.specs.Unpacks.{HasTexts}
use Rattle.redo_pack.proofs.LargeLemmas.{all-last, seen}
use Rattle.redo_pack.proofs.unpacking.first_no_text.Goals as goal

pub loop-path-init : goal.loop-path-init
loop-path-init c =
    let all = ap seen c.into_iter-entries.ensures.into_iter_gives.0 ∙ c.in_ok-in_order.ensures.entries in
    record {
      done = [];
      split = sym all ∙ ap seen (sym c.into_iter-path-iterator.ensures.into_iter_gives);
      texts = tt;
    }

pub loop-path-preserved : goal.loop-path-preserved
loop-path-preserved c =
    let before = c.loop-path.invariant in
    let e : List ℕ × Node = (c.in-Some.path.now, node_of c.in-Some._entry.now) in
    let next : seen c.loop-path.path-iterator ≡ e ∷ seen c.next.new.self = search rules in
    record {
      done = before.done ++ e ∷ [];
      split = before.split ∙ ap (λ l. before.done ++ l) next ∙ sym (append_assoc before.done (e ∷ []) (seen c.next.new.self));
      texts = all-last (λ x. IsUtf8 x.0) before.done e before.texts (search rules);
    }

pub returns : goal.returns
returns c =
    let before = c.loop-path.invariant in
    let none : seen c.loop-path.path-iterator ≡ [] = search rules in
    subst HasTexts (sym (before.split ∙ ap (λ l. before.done ++ l) none ∙ append-nil before.done)) before.texts
