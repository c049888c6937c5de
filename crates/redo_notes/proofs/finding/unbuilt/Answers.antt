use Rattle.std.proofs.Common.{◌≡◌, ◌∙◌, ℕ, List, ◌++◌, ◌∷◌, [], Option, ap, append_assoc, rules, sym}
use Rattle.std.specs.List.{cons_option}
use Rattle.std.specs.Prelude.{filter_map}
use Rattle.redo_names.specs.Paths.{is_among}
use Rattle.redo_tree.specs.Tree.{Node, node_of}
use Rattle.redo_notes.specs.Notes.{has_record, is_asked, unbuilt_at}
use Rattle.redo_notes.specs.declared.kinds.Unbuilt.{Unbuilt}
use Rattle.redo_notes.proofs.NoteLemmas.{note-more, same-note, seen}
use Rattle.redo_notes.proofs.finding.unbuilt.Goals as goal

pub loop-path-preserved : goal.loop-path-preserved
loop-path-preserved c =
    let before = c.loop-path.invariant in
    let e : List ℕ × Node = (c.in-Some.path.now, node_of c.in-Some.entry.now) in
    let next : seen c.loop-path.path-iterator ≡ e ∷ seen c.next.new.self = search rules in
    let sources = c.args.past.now.sources in
    let request = c.args.request.now in
    let asked = is_asked request c.args.report.now.rows.items in
    let kept = has_record c.args.past.now.book in
    let f = unbuilt_at sources asked kept in
    let known = is_among c.in_ok-asked.asked in
    let told : known e.0 ≡ asked e.0 = c.in_ok-asked.ensures e.0 ∙ ap (λ rows. is_asked request rows e.0) c.deref.ensures.value in
    let note = c.in_ok-note.ensures ∙ same-note sources known asked kept e told in
    let put = λ (o : Option Unbuilt). filter_map f before.done ++ cons_option o [] in
    record {
      done = before.done ++ e ∷ [];
      split = before.split ∙ ap (λ l. before.done ++ l) next ∙ sym (append_assoc before.done (e ∷ []) (seen c.next.new.self));
      found = c.in_ok-add_note.ensures ∙ ap (λ ns. ns ++ cons_option c.in_ok-note.note []) before.found ∙ ap put note ∙ sym (note-more f before.done e);
    }
