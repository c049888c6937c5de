use Rattle.std.proofs.Common.{◌++◌, subst, sym}
use Rattle.std.specs.Prelude.{option_copied}
use Rattle.redo_record.specs.Entries.{change_of, creates}
use Rattle.redo_past.specs.inside.Books.{AreSized}
use Rattle.redo_past.proofs.LoopLemmas.{if-so}
use Rattle.redo_past.proofs.NotedLemmas.{more-sized}
use Rattle.redo_past.proofs.sizes.entries_size.Goals as goal

pub returns-clause-size : goal.returns-clause-size
returns-clause-size c =
    let files = c.args.files.now in
    let parts = c.parts-parts.result in
    let missing = creates parts.missing.now in
    let do_file = change_of (option_copied parts.do_file) in
    let searched : AreSized files (missing ++ do_file) c.in_ok-searched.searched =
    more-sized files missing do_file c.in_ok-candidates_size.field-0 c.do_file_size.result c.in_ok-searched.searched
    (c.in_ok-candidates_size.ensures.size files) c.do_file_size.ensures c.in_ok-searched.ensures.sum in
    if-so _ _ c.add_sizes-2.result (λ n is. subst (λ ds. AreSized files ds n) (sym c.parts-parts.ensures)
    (more-sized files (missing ++ do_file) parts.own.now c.in_ok-searched.searched c.in_ok-own_size.field-0 n searched c.in_ok-own_size.ensures is)) c.add_sizes-2.ensures.sum
