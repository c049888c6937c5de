use Rattle.std.proofs.Common.{◌≡◌, ◌∙◌, length, drop, arith}
use Rattle.std.proofs.lemmas.Grind.{common_steps}
use Rattle.redo_script.specs.Texts.{first_line}
use Rattle.redo_script.proofs.MarkLemmas.{cut, rest_line}
use Rattle.redo_script.proofs.places.lines.clipped.Goals as goal

pub overflow_add-result : goal.overflow_add-result
overflow_add-result c = grind (arith, common_steps)

pub returns-clause-line : goal.returns-clause-line
returns-clause-line c =
    let room : c.line_len.result ≡ length (first_line (drop c.args.start c.args.text.now)) = c.line_len.ensures.is ∙ rest_line c.args.text.now c.args.start in
    let least = c.min-len.ensures in
    let some = c.requires.some in
    cut c.args.text.now c.args.start c.min-len.result c.requires.within (omega (arith, room, least)) (λ none. omega (arith, room, least, none, some))
