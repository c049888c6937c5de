use Rattle.std.proofs.Common.{◌∙◌, List, ap, subst, ℕ}
use Rattle.std.specs.Prelude.{flat_map}
use Rattle.redo_book.specs.Book.{record_of}
use Rattle.redo_dir.specs.Loaded.{wants}
use Rattle.redo_reads.specs.Reads.{Covers, named_by}
use Rattle.redo_run.proofs.CoverageLemmas.{covers-one, each-of-map}
use Rattle.redo_run.proofs.coverage.book_is_read.Goals as goal

pub returns-then-is_read : goal.returns-then-is_read
returns-then-is_read c are =
    let paths = wants c.args.wanted.now in let tree = c.args.tree.now in
    let same = each-of-map record_of named_by c.records.result.now ∙ ap (flat_map named_by) c.records.ensures.records in
    covers-one paths tree c.args.place.now (flat_map named_by c.args.book.now) (c.is_read.ensures c.if-is_read.true)
    (subst (λ (ps : List (List ℕ)). Covers paths tree ps) same (c.records_are_read.ensures are))
