use Rattle.std.proofs.Common.{rules, ◌≡◌, ℕ, List, ◌++◌, ◌∷◌, [], ◌∙◌, ap, sym, subst, append-nil, append_assoc, false}
use Rattle.std.specs.declared.io.ErrorKind.{ErrorKind}
use Rattle.redo_tree.specs.Tree.{Node, Tree, node_of}
use Rattle.redo_pack.specs.Unpacks.{Halts, others}
use Rattle.redo_pack.proofs.LargeLemmas.{seen}
use Rattle.redo_pack.proofs.UnpackLemmas.{halts_at, others-book, others-more, others-top}
use Rattle.redo_pack.proofs.unpacking.make_others.Goals as goal
use Rattle.redo_pack.proofs.unpacking.make_others.Goals.{then-is_top-via-then-is_top, then-is_top-via-else-is_top+then-is_book}

pub loop-path-init : goal.loop-path-init
loop-path-init g c =
    let all = ap seen c.into_iter-entries.ensures.into_iter_gives.0 ∙ c.in_ok-in_order.ensures.entries in
    record {
      done = [];
      split = sym all ∙ ap seen (sym c.into_iter-path-iterator.ensures.into_iter_gives);
      made = sym (append-nil (g.D.Making.made c.args.dir.now));
    }

-- the top directory stands already, and the book is left for later
pub loop-path-preserved-then-is_top : goal.loop-path-preserved-then-is_top
loop-path-preserved-then-is_top g c =
    let before = c.loop-path.invariant in
    let e : List ℕ × Node = (c.in-Some.path.now, node_of c.in-Some.entry.now) in
    let next : seen c.loop-path.path-iterator ≡ e ∷ seen c.next.new.self = search rules in
    let same : others (before.done ++ e ∷ []) ≡ others before.done = elim c.then-is_top.branch [
      | then-is_top-via-then-is_top w ↦ others-top before.done e (sym c.is_top.ensures ∙ w.if-is_top.true)
      | then-is_top-via-else-is_top+then-is_book w ↦ others-book before.done e (sym c.is_top.ensures ∙ w.if-is_top.false) (sym w.is_book.ensures ∙ w.if-is_book.true)
    ] in
    record {
      done = before.done ++ e ∷ [];
      split = before.split ∙ ap (λ l. before.done ++ l) next ∙ sym (append_assoc before.done (e ∷ []) (seen c.next.new.self));
      made = before.made ∙ ap (λ l. g.D.Making.made c.args.dir.now ++ l) (sym same);
    }

-- one more entry was made
pub loop-path-preserved : goal.loop-path-preserved
loop-path-preserved g c =
    let before = c.loop-path.invariant in
    let e : List ℕ × Node = (c.in-Some.path.now, node_of c.in-Some.entry.now) in
    let next : seen c.loop-path.path-iterator ≡ e ∷ seen c.next.new.self = search rules in
    let more = others-more before.done e (sym c.is_top.ensures ∙ c.if-is_top.false) (sym c.is_book.ensures ∙ c.if-is_book.false) in
    let old : Tree = g.D.Making.made c.args.dir.now in
    let made : g.D.Making.made c.make.new.dir ≡ g.D.Making.made c.loop-path.dir ++ e ∷ [] = search rules in
    record {
      done = before.done ++ e ∷ [];
      split = before.split ∙ ap (λ l. before.done ++ l) next ∙ sym (append_assoc before.done (e ∷ []) (seen c.next.new.self));
      made = made ∙ ap (λ l. l ++ e ∷ []) before.made ∙ append_assoc old (others before.done) (e ∷ []) ∙ ap (λ l. old ++ l) (sym more);
    }

-- the next one was refused
pub returns-in-Err-clause-stops : goal.returns-in-Err-clause-stops
returns-in-Err-clause-stops g c =
    let before = c.loop-path.invariant in
    let e : List ℕ × Node = (c.in-Some.path.now, node_of c.in-Some.entry.now) in
    let next : seen c.loop-path.path-iterator ≡ e ∷ seen c.next.new.self = search rules in
    let refused : List ℕ → ErrorKind → Type 0 = λ path kind. (d : g.row.D.Denot) × g.D.Making.refuses d path kind in
    let old : Tree = g.D.Making.made c.args.dir.now in let new : Tree = g.D.Making.made c.make.new.dir in
    let whole : c.args.tree.now ≡ before.done ++ e ∷ seen c.next.new.self = before.split ∙ ap (λ l. before.done ++ l) next in
    let kept : new ≡ g.D.Making.made c.loop-path.dir = search rules in
    let P : Tree → Type 0 = λ t. Halts refused (others t) old new c.unmade.result in
    subst P (sym whole) (halts_at refused before.done (seen c.next.new.self) e _ old new c.unmade.result
    (sym c.is_top.ensures ∙ c.if-is_top.false) (sym c.is_book.ensures ∙ c.if-is_book.false) (kept ∙ before.made) c.unmade.ensures (c.loop-path.dir, (search rules)))
