use Rattle.std.proofs.Common.{◌∙◌, ◌++◌, ◌∷◌, [], ap, append_assoc, map, sym, take}
use Rattle.std.specs.List.{cons_option}
use Rattle.std.specs.Prelude.{filter_map}
use Rattle.redo_past.proofs.LoopLemmas.{made-more}
use Rattle.redo_query.specs.Names.{path_in}
use Rattle.redo_query.proofs.users.add_names.Goals as goal

pub loop-entry-preserved : goal.loop-entry-preserved
loop-entry-preserved c =
    let before = map (λ p. p.now) c.args.known.now.items ++ c.args.made.now.target ∷ [] in
    let items = c.deref-entry-items.result.now in
    let i = c.loop-entry.entry-index in
    let e = c.entry-item.result in
    let more = made-more path_in items i e c.loop-entry-test.true c.entry-item.is in
    c.in_ok-add_name.ensures ∙ ap (λ ps. ps ++ cons_option (path_in e) []) c.loop-entry.invariant
    ∙ append_assoc (map (λ p. p.now) c.args.known.now.items) (c.args.made.now.target ∷ filter_map path_in (take i items)) (cons_option (path_in e) [])
    ∙ ap (λ ps. map (λ p. p.now) c.args.known.now.items ++ c.args.made.now.target ∷ ps) (sym more)
