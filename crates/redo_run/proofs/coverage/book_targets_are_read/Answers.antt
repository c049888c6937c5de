use Rattle.std.proofs.Common.{◌∙◌, ◌∷◌, [], List, ap, subst, ℕ}
use Rattle.std.specs.Prelude.{flat_map}
use Rattle.redo_book.specs.Book.{Record, record_of}
use Rattle.redo_dir.specs.Loaded.{wants}
use Rattle.redo_reads.specs.Reads.{Covers}
use Rattle.redo_run.proofs.CoverageLemmas.{each-of-map, one-each}
use Rattle.redo_run.proofs.coverage.book_targets_are_read.Goals as goal

pub returns : goal.returns
returns c are =
    let target : Record → List (List ℕ) = λ r. r.target ∷ [] in
    let same = each-of-map record_of target c.records.result.now ∙ ap (flat_map target) c.records.ensures.records
    ∙ one-each (λ (r : Record). r.target) c.args.book.now in
    subst (λ (ps : List (List ℕ)). Covers (wants c.args.wanted.now) c.args.tree.now ps) same (c.targets_are_read.ensures are)
