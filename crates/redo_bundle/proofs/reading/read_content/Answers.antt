use Rattle.std.proofs.Common.{◌≡◌, ◌++◌, ◌∙◌, ap, arith, subst, sym, take, take-append-drop}
use Rattle.std.proofs.lemmas.Grind.{common_steps}
use Rattle.std.specs.Io.KnownBytes.{Consumes, prepend_known}
use Rattle.redo_bundle.proofs.LineLemmas.{Consumes-front}
use Rattle.redo_bundle.proofs.reading.read_content.Goals as goal

pub returns-then-size-bytes-clause-bytes : goal.returns-then-size-bytes-clause-bytes
returns-then-size-bytes-clause-bytes g c =
    let held = c.args.held.now in
    let new = c.skip.new.self in
    let left = g.R.ByteIn.left c.args.reader.now in
    let copied : c.in_ok-content.content ≡ take c.args.size held = grind (arith, common_steps) in
    let cut : held ≡ take c.args.size held ++ new = sym (take-append-drop c.args.size held) ∙ ap (λ l. take c.args.size held ++ l) (sym c.skip.ensures) in
    subst (Consumes (prepend_known held left) (prepend_known new left)) (sym copied) (Consumes-front left held new (take c.args.size held) cut)
