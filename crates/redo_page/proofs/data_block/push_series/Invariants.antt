use Rattle.std.proofs.Common.{◌≡◌, ◌++◌, ◌∷◌, [], drop}
use Rattle.redo_page.specs.Data.{series}
use Rattle.redo_page.specs.Parts.{Number, text_of}
use Rattle.redo_page.proofs.data_block.push_series.Given as goal

-- what was added, with what is left, is all
abbrev pub invariant-loop-place : goal.invariant-loop-place
invariant-loop-place l =
    l.out ++ text_of (series (λ _ n. Number n ∷ []) l.place (drop l.place l.numbers))
    ≡ l.initial.out ++ text_of (series (λ _ n. Number n ∷ []) 0 l.numbers)
