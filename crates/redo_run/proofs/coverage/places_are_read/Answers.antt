use Rattle.std.proofs.Common.{◌≡◌, ◌∷◌, [], true, rules}
use Rattle.redo_dir.specs.Loaded.{wants}
use Rattle.std.proofs.Common.{List, ℕ}
use Rattle.redo_run.proofs.CoverageLemmas.{covers-more, covers-one}
use Rattle.redo_run.proofs.coverage.places_are_read.Goals as goal

pub loop-file-preserved : goal.loop-file-preserved
loop-file-preserved c =
    let yes : c.is_read.result ≡ true = search rules in
    let file : List ℕ × List ℕ = c.file-item.result in
    covers-more (wants c.args.wanted.now) c.args.tree.now (λ (f : List ℕ × List ℕ). f.0 ∷ []) c.args.files.now c.loop-file.file-index
    file c.loop-file-test.true c.file-item.is c.loop-file.invariant
    (covers-one (wants c.args.wanted.now) c.args.tree.now file.0 [] (c.is_read.ensures yes) (λ p m. absurd m))
