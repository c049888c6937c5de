-- The lines of all notes.
use Rattle.std.proofs.Common.{◌≡◌, ◌∙◌, ◌≤◌, ◌-◌, ◌++◌, ℕ, List, append-nil, arith, ap, flat_map, length, max}
use Rattle.std.proofs.Math.Nat.{le-max_left, le-max_right}
use Rattle.std.proofs.lemmas.List.{take_all}
use Rattle.redo_notes.specs.Texts.{more_line, ruleless_line, some_lines, unbuilt_line, unmade_line, note_lines}
use Rattle.redo_notes.specs.declared.kinds.Notes.{Notes}
use Rattle.redo_page.specs.Pages.{all_lines}

-- no note is left out where there are at most so many
all-of : {A : Type 0} (line : A → List ℕ) (most : ℕ) (notes : List A) → length notes ≤ most →
    some_lines line most notes ≡ flat_map line notes
all-of {A} line most notes within =
    let none : length notes - most ≡ 0 = omega (arith, within) in
    ap (λ (l : List A). flat_map line l ++ more_line (length notes - most)) (take_all most notes within)
    ∙ ap (λ (n : ℕ). flat_map line notes ++ more_line n) none
    ∙ append-nil (flat_map line notes)

-- and none of any kind
all-of-each : (notes : Notes) (most : ℕ) → length notes.unbuilt.items ≤ most → length notes.unmade.items ≤ most →
    length notes.ruleless.items ≤ most → note_lines notes most ≡ all_lines notes
all-of-each notes most unbuilt unmade ruleless =
    ap (λ (text : List ℕ). text ++ some_lines unmade_line most notes.unmade.items
    ++ some_lines ruleless_line most notes.ruleless.items) (all-of unbuilt_line most notes.unbuilt.items unbuilt)
    ∙ ap (λ (text : List ℕ). flat_map unbuilt_line notes.unbuilt.items ++ text
    ++ some_lines ruleless_line most notes.ruleless.items) (all-of unmade_line most notes.unmade.items unmade)
    ∙ ap (λ (text : List ℕ). flat_map unbuilt_line notes.unbuilt.items ++ flat_map unmade_line notes.unmade.items
    ++ text) (all-of ruleless_line most notes.ruleless.items ruleless)

-- where so many are wanted as there are of the kind that has most
pub all-of-most : (notes : Notes) (unbuilt unmade ruleless first most : ℕ) → unbuilt ≡ length notes.unbuilt.items →
    unmade ≡ length notes.unmade.items → ruleless ≡ length notes.ruleless.items → first ≡ max unbuilt unmade →
    most ≡ max first ruleless → note_lines notes most ≡ all_lines notes
all-of-most notes unbuilt unmade ruleless first most a b c two three =
    all-of-each notes most (omega (arith, a, two, three, le-max_left unbuilt unmade, le-max_left first ruleless))
    (omega (arith, b, two, three, le-max_right unbuilt unmade, le-max_left first ruleless))
    (omega (arith, c, three, le-max_right first ruleless))
