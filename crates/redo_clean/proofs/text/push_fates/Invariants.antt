use Rattle.std.proofs.Common.{◌≡◌, ◌++◌, map}
use Rattle.std.specs.Iterator.Adapters.{zip_first, zip_second}
use Rattle.std.specs.Slice.Iter.{iter_rest}
use Rattle.redo_clean.specs.Texts.{fate_lines}
use Rattle.redo_clean.proofs.text.push_fates.Given as goal

-- the lines so far, with those that are left, are all
abbrev pub invariant-loop-file : goal.invariant-loop-file
invariant-loop-file l =
    l.text.items ++ fate_lines (map (λ f. f.0) (iter_rest (zip_first l.file-iterator))) (iter_rest (zip_second l.file-iterator))
    ≡ l.fn.text.items ++ fate_lines (map (λ f. f.0) l.files) l.fates
