use Rattle.std.proofs.Common.{◌≡◌, ◌++◌, ◌∷◌, [], drop}
use Rattle.redo_page.specs.Data.{series}
use Rattle.redo_page.specs.Parts.{Quoted, text_of}
use Rattle.redo_page.proofs.data_block.push_row_paths.Given as goal

-- what was added, with what is left, is all
abbrev pub invariant-loop-place : goal.invariant-loop-place
invariant-loop-place l =
    l.out ++ text_of (series (λ _ row. Quoted row.path ∷ []) l.place (drop l.place l.rows))
    ≡ l.initial.out ++ text_of (series (λ _ row. Quoted row.path ∷ []) 0 l.rows)
