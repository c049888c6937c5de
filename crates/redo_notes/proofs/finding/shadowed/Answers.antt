use Rattle.std.proofs.Common.{◌≡◌, ◌∙◌, ℕ, List, ◌++◌, ◌∷◌, [], Option, ap, append_assoc, rules, sym}
use Rattle.std.specs.List.{cons_option}
use Rattle.std.specs.Prelude.{filter_map}
use Rattle.redo_tree.specs.Tree.{Node, node_of}
use Rattle.redo_notes.specs.Notes.{shadowed_at}
use Rattle.redo_notes.proofs.NoteLemmas.{note-more, seen}
use Rattle.redo_notes.proofs.finding.shadowed.Goals as goal

pub loop-path-preserved : goal.loop-path-preserved
loop-path-preserved c =
    let before = c.loop-path.invariant in
    let e : List ℕ × Node = (c.in-Some.path.now, node_of c.in-Some.entry.now) in
    let next : seen c.loop-path.path-iterator ≡ e ∷ seen c.next.new.self = search rules in
    let f = shadowed_at c.args.past.now.sources in
    let put = λ (o : Option (List ℕ)). filter_map f before.done ++ cons_option o [] in
    let note : c.in_ok-found.found ≡ f e = search rules in
    record {
      done = before.done ++ e ∷ [];
      split = before.split ∙ ap (λ l. before.done ++ l) next ∙ sym (append_assoc before.done (e ∷ []) (seen c.next.new.self));
      found = c.in_ok-add_path.ensures ∙ ap (λ ns. ns ++ cons_option c.in_ok-found.found []) before.found ∙ ap put note ∙ sym (note-more f before.done e);
    }
