use Rattle.std.proofs.Common.{rules, arith, ◌≡◌, ◌++◌, [], ◌∙◌, ap, sym, subst, append-nil, append_assoc, drop}
use Rattle.std.proofs.lemmas.Grind.{common_steps}
use Rattle.std.proofs.lemmas.Result.{err_from_is_err_and}
use Rattle.std.specs.Prelude.{Err, codes}
use Rattle.std.specs.Io.KnownBytes.{Appends}
use Rattle.std.proofs.KnownBytes.{Appends-nil, Appends-trans}
use Rattle.redo_tree.specs.Tree.{node_of}
use Rattle.redo_bundle.specs.Bundle.{body_of, spelling}
use Rattle.redo_tree.proofs.NodeLemmas.{behind_first, seen}
use Rattle.redo_bundle.proofs.PieceLemmas.{Writes-then, Writes-cut, bundle-cut, bundle-end}
use Rattle.redo_bundle.proofs.WrittenLemmas.{read_back}
use Rattle.redo_bundle.proofs.writing.write_bundle.Goals as goal

pub loop-path-init : goal.loop-path-init
loop-path-init g c =
    let all = ap seen c.into_iter-entries.ensures.into_iter_gives.0 ∙ c.in_ok-in_order.ensures.entries in
    record {
      works = c.requires.works;
      done = [];
      split = ap (λ tree. body_of (drop 1 tree)) (sym all)
          ∙ ap body_of (behind_first c.next-root.result c.into_iter-entries.result c.next-root.new.self c.next-root.ensures.steps)
          ∙ ap (λ es. body_of (seen es)) (sym c.into_iter-path-iterator.ensures.into_iter_gives);
      gone = Appends-nil _;
    }

pub loop-path-preserved : goal.loop-path-preserved
loop-path-preserved g c =
    let before = c.loop-path.invariant in
    let text = spelling (c.in-Some.path.now, node_of c.in-Some.entry.now) in
    let next : body_of (seen c.loop-path.path-iterator) ≡ text ++ body_of (seen c.next.new.self) = search rules in
    record {
      works = grind (arith, common_steps);
      done = before.done ++ text;
      split = before.split ∙ ap (λ l. before.done ++ l) next ∙ sym (append_assoc before.done text (body_of (seen c.next.new.self)));
      gone = Appends-trans _ _ _ _ _ before.gone c.in_ok-write_entry.ensures.writes;
    }

pub returns-in_err-write_entry-clause-writes : goal.returns-in_err-write_entry-clause-writes
returns-in_err-write_entry-clause-writes g c =
    let before = c.loop-path.invariant in
    let text = spelling (c.in-Some.path.now, node_of c.in-Some.entry.now) in
    let next : body_of (seen c.loop-path.path-iterator) ≡ text ++ body_of (seen c.next.new.self) = search rules in
    let f = c.in_err-write_entry.field-0.0 in
    let p = err_from_is_err_and c.from_residual-in_err-write_entry.result c.from_residual-in_err-write_entry.ensures.1 in
    rw p.1 (Writes-cut f p.0 _ _ (before.done ++ text) (body_of (seen c.next.new.self) ++ codes "end\n") _ (bundle-cut (body_of (drop 1 c.args.tree.now)) before.done _ text (body_of (seen c.next.new.self)) (codes "end\n") before.split next)
    (Writes-then (Err f) _ _ _ before.done text before.gone c.in_err-write_entry.ensures.writes))

pub returns-in_err-write_all-clause-writes : goal.returns-in_err-write_all-clause-writes
returns-in_err-write_all-clause-writes g c =
    let before = c.loop-path.invariant in
    let none : body_of (seen c.loop-path.path-iterator) ≡ [] = search rules in
    let f = c.in_err-write_all.field-0.0 in
    let p = err_from_is_err_and c.from_residual-in_err-write_all.result c.from_residual-in_err-write_all.ensures.1 in
    rw p.1 (Writes-cut f p.0 _ _ (before.done ++ codes "end\n") [] _ (bundle-end (body_of (drop 1 c.args.tree.now)) before.done _ (codes "end\n") before.split none ∙ sym (append-nil _))
    (Writes-then (Err f) _ _ _ before.done (codes "end\n") before.gone c.in_err-write_all.ensures.writes))

pub returns-clause-writes : goal.returns-clause-writes
returns-clause-writes g c =
    let before = c.loop-path.invariant in
    let none : body_of (seen c.loop-path.path-iterator) ≡ [] = search rules in
    subst (Appends _ _) (sym (bundle-end (body_of (drop 1 c.args.tree.now)) before.done _ (codes "end\n") before.split none)) (Appends-trans _ _ _ _ _ before.gone c.in_ok-write_all.ensures.writes)

pub returns-in_err-write_entry-clause-readable : goal.returns-in_err-write_entry-clause-readable
returns-in_err-write_entry-clause-readable g c = read_back c.args.tree.now c.in_order.ensures.tree c.requires.small

pub returns-in_err-write_all-clause-readable : goal.returns-in_err-write_all-clause-readable
returns-in_err-write_all-clause-readable g c = read_back c.args.tree.now c.in_order.ensures.tree c.requires.small

pub returns-clause-readable : goal.returns-clause-readable
returns-clause-readable g c = read_back c.args.tree.now c.in_order.ensures.tree c.requires.small

pub returns-in_err-in_order-clause-readable : goal.returns-in_err-in_order-clause-readable
returns-in_err-in_order-clause-readable g c = read_back c.args.tree.now c.in_order.ensures.tree c.requires.small
