use Rattle.std.proofs.Common.{◌≡◌, ◌++◌, ◌∷◌, drop, flat_map}
use Rattle.redo_page.specs.Pages.{user_pieces}
use Rattle.redo_page.specs.Parts.{a_tag, text_of}
use Rattle.redo_page.specs.declared.parts.Tag.TheVariants as tags
use Rattle.redo_page.proofs.rows.push_others.Given as goal

-- what was added, with what is left, is all
abbrev pub invariant-loop-number : goal.invariant-loop-number
invariant-loop-number l =
    l.out ++ text_of (flat_map (λ n. a_tag tags.Blank ∷ user_pieces l.rows n) (drop l.number-index l.numbers))
    ≡ l.initial.out ++ text_of (flat_map (λ n. a_tag tags.Blank ∷ user_pieces l.rows n) l.numbers)
