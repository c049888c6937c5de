use Rattle.std.proofs.Common.{◌≡◌, ◌∙◌, ℕ, List, ◌&&◌, ◌++◌, ◌∷◌, [], ap, append_assoc, map, rules, sym, true, false}
use Rattle.std.proofs.lemmas.List.{map-append}
use Rattle.std.specs.List.{list_any}
use Rattle.std.specs.Prelude.{is_some}
use Rattle.redo_book.specs.Book.{record_of}
use Rattle.redo_tree.specs.Tree.{Node, bytes_of, node_of}
use Rattle.redo_query.specs.Names.{is_named_file, names, standing}
use Rattle.redo_query.proofs.SourceLemmas.{left-out, put-in, seen}
use Rattle.redo_query.proofs.standing.sources.Goals as goal

pub loop-path-preserved-in_ok-push : goal.loop-path-preserved-in_ok-push
loop-path-preserved-in_ok-push c =
    let before = c.loop-path.invariant in
    let e : List ℕ × Node = (c.in-Some.path.now, node_of c.in-Some.entry.now) in
    let next : seen c.loop-path.path-iterator ≡ e ∷ seen c.next.new.self = search rules in
    let named = c.in_ok-named.ensures e.0 ∙ ap (λ ms. list_any (names e.0) (map (λ made. record_of made.now) ms)) c.deref.ensures.value ∙ ap (list_any (names e.0)) c.in_ok-standing.ensures in
    let is : is_named_file (standing c.args.past.now) e ≡ true =
    ap (λ b. is_some (bytes_of e.1) && b) (sym named) ∙ sym c.is_named_file.ensures ∙ c.if-is_named_file.true in
    let pushed = ap (map (λ path. path.now)) c.in_ok-push.ensures.items ∙ map-append (λ path. path.now) c.loop-path.paths.items (c.in-Some.path ∷ []) in
    record {
      done = before.done ++ e ∷ [];
      split = before.split ∙ ap (λ l. before.done ++ l) next ∙ sym (append_assoc before.done (e ∷ []) (seen c.next.new.self));
      named = pushed ∙ ap (λ ps. ps ++ e.0 ∷ []) before.named ∙ sym (put-in (is_named_file (standing c.args.past.now)) before.done e is);
    }

pub loop-path-preserved : goal.loop-path-preserved
loop-path-preserved c =
    let before = c.loop-path.invariant in
    let e : List ℕ × Node = (c.in-Some.path.now, node_of c.in-Some.entry.now) in
    let next : seen c.loop-path.path-iterator ≡ e ∷ seen c.next.new.self = search rules in
    let named = c.in_ok-named.ensures e.0 ∙ ap (λ ms. list_any (names e.0) (map (λ made. record_of made.now) ms)) c.deref.ensures.value ∙ ap (list_any (names e.0)) c.in_ok-standing.ensures in
    let is : is_named_file (standing c.args.past.now) e ≡ false =
    ap (λ b. is_some (bytes_of e.1) && b) (sym named) ∙ sym c.is_named_file.ensures ∙ c.if-is_named_file.false in
    record {
      done = before.done ++ e ∷ [];
      split = before.split ∙ ap (λ l. before.done ++ l) next ∙ sym (append_assoc before.done (e ∷ []) (seen c.next.new.self));
      named = before.named ∙ sym (left-out (is_named_file (standing c.args.past.now)) before.done e is);
    }
