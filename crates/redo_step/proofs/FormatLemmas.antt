-- The pieces of a format, one after the other.
use Rattle.std.proofs.Common.{◌≡◌, ℕ, List, [], ◌∷◌, ◌++◌, Option, Some, None, refl, sym, ap, ◌∙◌, append_assoc}
use Rattle.redo_step.specs.declared.printf.FormatPart.{FormatPart}
use Rattle.redo_step.specs.Formats.{with_piece, pieces_of}

abbrev pub with_pieces : List FormatPart → Option (List FormatPart) → Option (List FormatPart)
with_pieces front None = None
with_pieces front (Some ps) = Some (front ++ ps)

pub none_before : (r : Option (List FormatPart)) → with_pieces [] r ≡ r
none_before None = refl
none_before (Some ps) = refl

pub one_more : (front : List FormatPart) (p : FormatPart) (r : Option (List FormatPart)) → with_pieces front (with_piece (Some p) r) ≡ with_pieces (front ++ p ∷ []) r
one_more front p None = refl
one_more front p (Some ps) = ap Some (sym (append_assoc front (p ∷ []) ps))

pub piece_goes : (front new : List FormatPart) (p : FormatPart) (rest after : List ℕ) (total : Option (List FormatPart)) → with_pieces front (pieces_of rest) ≡ total → pieces_of rest ≡ with_piece (Some p) (pieces_of after) → new ≡ front ++ p ∷ [] → with_pieces new (pieces_of after) ≡ total
piece_goes front new p rest after total before here n = rw n (sym (ap (with_pieces front) here ∙ one_more front p (pieces_of after)) ∙ before)
