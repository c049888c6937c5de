-- What a page of targets that are out of date has, piece by piece.
use Rattle.std.specs.Prelude.{ℕ, List, [], ◌∷◌, ◌++◌, flat_map, length, take}
use Rattle.redo_list.specs.Lists.{state_word}
use Rattle.redo_list.specs.declared.listed.Listed.{Listed}
use Rattle.redo_page.specs.Data.{series, table_script_pieces}
use Rattle.redo_page.specs.Pages.{begin_pieces, more_pieces, most_rows}
use Rattle.redo_page.specs.Parts.{Piece, Fixed, Number, Quoted, Text, a_tag, of_data, of_list}
use Rattle.redo_page.specs.declared.parts.DataPart.TheVariants as data_parts
use Rattle.redo_page.specs.declared.parts.ListPart.TheVariants as list_parts
use Rattle.redo_page.specs.declared.parts.Part.TheVariants as parts
use Rattle.redo_page.specs.declared.parts.Tag.TheVariants as tags

-- a row of the table: a target's path, its state and why
abbrev pub listed_pieces : Listed → List Piece
listed_pieces listed =
    of_list list_parts.Row ∷ Text listed.target ∷ of_list list_parts.State ∷ Fixed (parts.State listed.state)
    ∷ a_tag tags.Cell ∷ Text listed.why.items ∷ a_tag tags.LineEnd ∷ []

-- the same in the data: a list of three strings
abbrev pub datum_pieces : Listed → List Piece
datum_pieces listed =
    of_data data_parts.Open ∷ Quoted listed.target ∷ of_data data_parts.Comma ∷ Quoted (state_word listed.state)
    ∷ of_data data_parts.Comma ∷ Quoted listed.why.items ∷ of_data data_parts.Close ∷ []

-- the exit status, how many targets there are, and the head of their table
unfoldable pub heading_pieces : ℕ → ℕ → List Piece
heading_pieces status count =
    (of_list list_parts.Begin ∷ Number status ∷ of_list list_parts.Count ∷ Number count ∷ of_list list_parts.Form ∷ [])
    ++ more_pieces count ++ of_list list_parts.Heads ∷ []

-- the data, which has all targets
unfoldable pub data_pieces : List Listed → List Piece
data_pieces targets =
    (of_list list_parts.Data ∷ of_data data_parts.Open ∷ []) ++ series (λ _ listed. datum_pieces listed) 0 targets
    ++ of_data data_parts.Close ∷ []

-- the data, and the scripts
unfoldable pub ending_pieces : List Listed → List Piece
ending_pieces targets =
    data_pieces targets ++ table_script_pieces ++ Fixed parts.ListScript ∷ of_data data_parts.LastScript ∷ []

-- the first targets are rows of the table
abbrev pub list_pieces : ℕ → List Listed → List Piece
list_pieces status targets =
    begin_pieces ++ heading_pieces status (length targets) ++ flat_map listed_pieces (take most_rows targets)
    ++ ending_pieces targets
