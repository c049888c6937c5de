use Rattle.std.proofs.Common.{◌≡◌, ◌∙◌, ◌+◌, length, drop, arith}
use Rattle.redo_script.specs.Texts.{first_line}
use Rattle.redo_script.proofs.MarkLemmas.{rest_line, still_in}
use Rattle.redo_script.proofs.places.lines.in_line.Goals as goal

pub returns-then-wished : goal.returns-then-wished
returns-then-wished c has =
    let room : c.line_len-len.result ≡ length (first_line (drop c.line_start-start.result c.args.text.now)) = c.line_len-len.ensures.is ∙ rest_line c.args.text.now c.line_start-start.result in
    let from = c.if-start-wished.true in
    let inside = c.if-wished-start.true in
    still_in c.args.text.now c.args.line c.line_start-start.result c.args.wished.start _ c.line_start-start.ensures.within (c.line_start-start.ensures.line has) (omega (arith, from)) (omega (arith, room, from, inside)) c.clipped.ensures.line

pub returns : goal.returns
returns c has =
    let room : c.line_len-len.result ≡ length (first_line (drop c.line_start-start.result c.args.text.now)) = c.line_len-len.ensures.is ∙ rest_line c.args.text.now c.line_start-start.result in
    let least = c.min.ensures in
    still_in c.args.text.now c.args.line c.line_start-start.result (c.line_start-start.result + c.min.result) _ c.line_start-start.ensures.within (c.line_start-start.ensures.line has) (omega arith) (omega (arith, room, least)) c.clipped-2.ensures.line
