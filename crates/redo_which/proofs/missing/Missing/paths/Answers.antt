use Rattle.std.proofs.Common.{rules, ◌≡◌, ◌++◌, ◌∷◌, ◌∙◌, [], ap, map, append_assoc, take}
use Rattle.std.specs.Iterator.Adapters.{take_count, take_source}
use Rattle.redo_which.proofs.missing.Missing.paths.Goals as goal

pub loop-candidate-preserved : goal.loop-candidate-preserved
loop-candidate-preserved c =
    let path = c.in-Some.candidate.do_file in
    let left = map (λ p. p.do_file) (take (take_count c.next.new.self) (take_source c.next.new.self)) in
    let next : path ∷ left ≡ map (λ p. p.do_file) (take (take_count c.loop-candidate.candidate-iterator) (take_source c.loop-candidate.candidate-iterator)) = search rules in
    let more : c.push.new.self.items ≡ c.loop-candidate.paths.items ++ path ∷ [] = search rules in
    ap (λ l. l ++ left) more ∙ append_assoc c.loop-candidate.paths.items (path ∷ []) left ∙ ap (λ l. c.loop-candidate.paths.items ++ l) next ∙ c.loop-candidate.invariant
