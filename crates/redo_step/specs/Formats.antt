-- What printf prints.
use Rattle.std.specs.Prelude.{ℕ, zero, suc, Bool, true, false, ◌&&◌, ◌||◌, ◌==◌, List, [], ◌∷◌, ◌++◌, length, Option}
use Rattle.std.specs.Prelude.{Some, None, if◌then◌else◌}
use Rattle.redo_step.specs.declared.printf.FormatPart.{FormatPart}
use Rattle.redo_step.specs.declared.printf.FormatPart.TheVariants.{Literal, Operand}

-- what a sequence of two bytes stands for; the first is a percent sign or a backslash
abbrev pub sequence_of : ℕ → ℕ → Option FormatPart
sequence_of first second =
    if (first == 37) && (second == 115) then Some Operand
    else if (first == 37) && (second == 37) then Some (Literal 37)
    else if (first == 92) && (second == 110) then Some (Literal 10)
    else if (first == 92) && (second == 116) then Some (Literal 9)
    else if (first == 92) && (second == 92) then Some (Literal 92)
    else None

-- a piece in front of others, if there are both
abbrev pub with_piece : Option FormatPart → Option (List FormatPart) → Option (List FormatPart)
with_piece None pieces = None
with_piece (Some p) None = None
with_piece (Some p) (Some ps) = Some (p ∷ ps)

-- the pieces of a format; none if it has any other sequence
abbrev pub pieces_of : List ℕ → Option (List FormatPart)
pieces_of [] = Some []
pieces_of (b ∷ []) = if (b == 37) || (b == 92) then None else Some (Literal b ∷ [])
pieces_of (b ∷ c ∷ bs) =
    if (b == 37) || (b == 92) then with_piece (sequence_of b c) (pieces_of bs)
    else with_piece (Some (Literal b)) (pieces_of (c ∷ bs))

-- whether a format has a place for an operand
abbrev pub takes_operands : List FormatPart → Bool
takes_operands [] = false
takes_operands (Literal b ∷ ps) = takes_operands ps
takes_operands (Operand ∷ ps) = true

-- one round of the format, and the operands that are left
abbrev pub once : List FormatPart → List (List ℕ) → List ℕ × List (List ℕ)
once [] texts = ([], texts)
once (Literal b ∷ ps) texts = let rest = once ps texts in (b ∷ rest.0, rest.1)
once (Operand ∷ ps) [] = once ps []
once (Operand ∷ ps) (text ∷ texts) = let rest = once ps texts in (text ++ rest.0, rest.1)

-- rounds of the format while operands are left, at most n
abbrev pub again : ℕ → List FormatPart → List (List ℕ) → List ℕ
again zero ps texts = []
again (suc n) ps [] = []
again (suc n) ps (text ∷ texts) = let part = once ps (text ∷ texts) in part.0 ++ again n ps part.1

-- what a format makes of operands; none if there are operands but no place for one
abbrev pub formatted : List FormatPart → List (List ℕ) → Option (List ℕ)
formatted ps [] = Some (once ps []).0
formatted ps (text ∷ texts) = if takes_operands ps then Some (again (length (text ∷ texts)) ps (text ∷ texts)) else None

-- what printf prints; none if its format isn't served
abbrev pub print_of : List ℕ → List (List ℕ) → Option (List ℕ)
print_of format texts = elim (pieces_of format) [ None ↦ None | Some ps ↦ formatted ps texts ]
