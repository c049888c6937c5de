use Rattle.std.proofs.Common.{rules, ◌≡◌, ◌++◌, ◌∷◌, ◌∙◌, [], ap, sym, append_assoc, take}
use Rattle.std.specs.Iterator.Adapters.{take_count, take_source}
use Rattle.redo_which.specs.Lines.{lines_of}
use Rattle.redo_which.proofs.lines.spelled.Goals as goal

pub loop-candidate-preserved : goal.loop-candidate-preserved
loop-candidate-preserved c =
    let front = c.args.front.now in
    let text = front ++ c.in-Some.candidate.do_file ++ 10 ∷ [] in
    let left = lines_of front (take (take_count c.next.new.self) (take_source c.next.new.self)) in
    let next : lines_of front (take (take_count c.loop-candidate.candidate-iterator) (take_source c.loop-candidate.candidate-iterator)) ≡ text ++ left = search rules in
    ap (λ l. l ++ left) c.in_ok-add_line.ensures ∙ append_assoc c.loop-candidate.text.items text left ∙ ap (λ l. c.loop-candidate.text.items ++ l) (sym next) ∙ c.loop-candidate.invariant
