use Rattle.std.proofs.Common.{◌≡◌, ◌∙◌, [], drop, ap, sym, arith}
use Rattle.std.proofs.lemmas.List.{drop_all}
use Rattle.redo_names.specs.Paths.{is_among, with_new}
use Rattle.redo_names.proofs.PathLemmas.{is_among-new}
use Rattle.redo_names.proofs.set.PathSet.of_paths.Goals as goal

pub returns-clause-among : goal.returns-clause-among
returns-clause-among c = λ p.
    let none : drop c.loop-path.path-index c.args.paths.now ≡ [] =
    drop_all c.loop-path.path-index c.args.paths.now (omega (arith, c.loop-path-test.false)) in
    ap (λ s. is_among s p) (ap (with_new c.loop-path.set) (sym none) ∙ c.loop-path.invariant)
    ∙ is_among-new [] c.args.paths.now p
