use Rattle.std.proofs.Common.{◌≡◌, ◌++◌, ◌∷◌, [], drop, flat_map}
use Rattle.std.specs.Map.{keys_of}
use Rattle.redo_page.specs.Parts.{Quoted, of_data, text_of}
use Rattle.redo_page.specs.declared.parts.DataPart.TheVariants as data_parts
use Rattle.redo_page.proofs.data_block.push_other_paths.Given as goal

-- what was added, with what is left, is all
abbrev pub invariant-loop-place : goal.invariant-loop-place
invariant-loop-place l =
    l.out ++ text_of (flat_map (λ path. of_data data_parts.Comma ∷ Quoted path ∷ []) (drop l.place (keys_of l.others)))
    ≡ l.initial.out ++ text_of (flat_map (λ path. of_data data_parts.Comma ∷ Quoted path ∷ []) (keys_of l.others))
