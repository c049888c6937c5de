use Rattle.std.proofs.Common.{◌∙◌, ap, arith}
use Rattle.redo_names.specs.Paths.{is_among, with_path}
use Rattle.redo_dot.proofs.AmongLemmas.{listed-more}
use Rattle.redo_dot.proofs.list.set_of.Goals as goal

pub loop-listed-preserved : goal.loop-listed-preserved
loop-listed-preserved c = λ p.
    let ts = c.args.targets.now in
    let i = c.loop-listed.listed-index in
    let x = c.listed-item.result in
    ap (λ s. is_among s p) (c.in_ok-insert.ensures.paths ∙ ap (with_path c.loop-listed.set) c.in_ok-clone.ensures.cases) ∙
    listed-more ts c.loop-listed.set i x p (omega (arith, c.loop-listed-test.true)) c.listed-item.is (c.loop-listed.invariant p)
