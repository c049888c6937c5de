use Rattle.std.proofs.Common.{rules, arith, ◌≡◌, ◌++◌, ◌+◌, ◌∙◌, drop, subst}
use Rattle.std.proofs.lemmas.Grind.{common_steps}
use Rattle.std.specs.Prelude.{Err, flat_map}
use Rattle.std.specs.Io.KnownBytes.{Appends}
use Rattle.std.proofs.KnownBytes.{Appends-trans}
use Rattle.redo_bundle.specs.Bundle.{Writes}
use Rattle.redo_bundle.specs.declared.ends.Broken.{Broken}
use Rattle.redo_report.proofs.WritingLemmas.{split-next, writes-failed}
use Rattle.redo_past.specs.inside.Books.{item_text}
use Rattle.redo_past.proofs.records.write_items.Goals as goal

pub loop-item-preserved : goal.loop-item-preserved
loop-item-preserved g c =
    let before = c.loop-item.invariant in
    let item = c.item-item.result in
    let f = item_text c.args.states.now in
    record {
      works = grind (arith, common_steps);
      front = c.in_ok-write_item.ensures.front ∙ before.front;
      done = before.done ++ f item;
      split = split-next f c.args.items.now c.loop-item.item-index item item before.done _ (search rules) c.item-item.is before.split;
      gone = Appends-trans _ _ _ _ _ before.gone (subst (λ s. Appends (g.W.ByteOut.held c.loop-item.out) (g.W.ByteOut.held c.write_item.new.out) (item_text s item)) before.same c.in_ok-write_item.ensures.writes);
      same = c.in_ok-write_item.ensures.same ∙ before.same;
    }

pub returns-in_err-write_item-clause-writes : goal.returns-in_err-write_item-clause-writes
returns-in_err-write_item-clause-writes g c =
    let before = c.loop-item.invariant in
    let item = c.item-item.result in
    let f = item_text c.args.states.now in
    let rest = flat_map f (drop (c.loop-item.item-index + 1) c.args.items.now) in
    writes-failed _ c.in_err-write_item.field-0.0 c.from_residual.result c.from_residual.ensures.1 _ _ _ before.done (f item) rest _
    (split-next f c.args.items.now c.loop-item.item-index item item before.done _ (search rules) c.item-item.is before.split)
    before.gone (subst (λ s. Writes {E = Broken} (g.W.ByteOut.held c.loop-item.out) (g.W.ByteOut.held c.write_item.new.out) (Err c.in_err-write_item.field-0.0) (item_text s item)) before.same c.in_err-write_item.ensures.writes)

pub returns-clause-writes : goal.returns-clause-writes
returns-clause-writes g c =
    let before = c.loop-item.invariant in
    let whole : before.done ≡ flat_map (item_text c.args.states.now) c.args.items.now = let e = c.loop-item-test.false in grind (arith, common_steps) in
    subst (Appends _ _) whole before.gone
