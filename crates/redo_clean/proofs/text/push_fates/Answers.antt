use Rattle.std.proofs.Common.{◌∙◌, ◌++◌, ap, append-nil, sym}
use Rattle.std.proofs.lemmas.Slice.Zip.{either_empty_from_Zip}
use Rattle.std.specs.Iterator.Adapters.{zip_first, zip_second}
use Rattle.std.specs.Slice.Iter.{iter_rest}
use Rattle.redo_clean.proofs.TextLemmas.{none-left}
use Rattle.redo_clean.proofs.text.push_fates.Goals as goal

pub returns : goal.returns
returns c =
    let it = c.loop-file.file-iterator in
    let empty = none-left (iter_rest (zip_first it)) (iter_rest (zip_second it)) (either_empty_from_Zip it c.next.new.self c.next.result c.in-None.is c.next.ensures.steps) in
    sym (append-nil c.loop-file.text.items) ∙ ap (λ l. c.loop-file.text.items ++ l) (sym empty) ∙ c.loop-file.invariant
