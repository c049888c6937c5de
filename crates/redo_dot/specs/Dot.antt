-- A report as a graph, in the language of graphviz.
use Rattle.std.specs.Prelude.{Bool, true, false, ℕ, List, [], ◌∷◌, ◌++◌, ◌==◌, ◌&&◌, not, codes, decimal, flat_map, nat_lt}
use Rattle.std.specs.Prelude.{if◌then◌else◌}
use Rattle.std.specs.Arc.{arc_value}
use Rattle.std.specs.Str.{is_utf8}
use Rattle.redo_names.specs.Paths.{is_among}
use Rattle.redo_record.specs.declared.deps.Dep.{Dep}
use Rattle.redo_record.specs.declared.deps.DepKind.{DepKind}
use Rattle.redo_record.specs.declared.deps.DepKind.TheVariants.{Change, Create, Always}
use Rattle.redo_record.specs.declared.outcome.Outcome.{Outcome}
use Rattle.redo_record.specs.declared.outcome.Outcome.TheVariants.{Source, Built, Failed, Cyclic}
use Rattle.redo_report.specs.declared.report.Report.{Report}
use Rattle.redo_report.specs.declared.report.Row.{Row}
use Rattle.redo_which.specs.Candidates.{is_do_file}

-- Names

-- what stands for a byte between quotes: `"` would end the name, `\` begin an escape, and `&` an entity of the label; a
-- name that begins with `%` is drawn as another, since graphviz gives such names to nodes without one
abbrev pub plain_byte : ℕ → List ℕ
plain_byte byte =
    if byte == 34 then 92 ∷ 34 ∷ [] else
    if byte == 92 then 92 ∷ 92 ∷ [] else
    if byte == 37 then codes "&#37;" else
    if byte == 38 then codes "&amp;" else byte ∷ []

-- the entity of the character with this number
abbrev pub entity : ℕ → List ℕ
entity number = codes "&#" ++ decimal number ++ codes ";"

-- what stands for a byte of a path that isn't UTF-8: a byte from 128 stands as the entity of the character with its number
abbrev pub entity_byte : ℕ → List ℕ
entity_byte byte = if nat_lt byte 128 then plain_byte byte else entity byte

abbrev pub quoted_bytes : List ℕ → List ℕ
quoted_bytes path = if is_utf8 path then flat_map plain_byte path else flat_map entity_byte path

-- the name of a path's node
abbrev pub name_of : List ℕ → List ℕ
name_of path = codes "\"" ++ quoted_bytes path ++ codes "\""

-- Nodes

-- the look of a row's node, by what became of it and whether its script was begun
abbrev pub look_of : Outcome → Bool → List ℕ
look_of Source begun = []
look_of (Built file) true = codes " [shape=box color=black]"
look_of (Built file) false = codes " [shape=box color=grey]"
look_of (Failed why) begun = codes " [shape=box color=red]"
look_of Cyclic begun = codes " [shape=box color=orange]"

abbrev pub node_line : (List ℕ → Bool) → Row → List ℕ
node_line begun row = name_of row.path ++ look_of row.outcome (begun row.path) ++ codes ";\n"

-- Edges

-- an edge to a .do file is grey, and one to a path where nothing is dashed
abbrev pub change_look : Bool → List ℕ
change_look is_do = if is_do then codes " [color=grey];\n" else codes ";\n"

abbrev pub create_look : Bool → List ℕ
create_look is_do = if is_do then codes " [color=grey style=dashed];\n" else codes " [style=dashed];\n"

-- a .do file's node is grey; other nodes need no line
abbrev pub do_line : Bool → List ℕ → List ℕ
do_line is_do path = if is_do then name_of path ++ codes " [fontcolor=grey];\n" else []

abbrev pub edge_line : List ℕ → List ℕ → List ℕ → List ℕ
edge_line target path look = name_of target ++ codes " -> " ++ name_of path ++ look

-- an edge to .do files only if rules are wanted
abbrev pub edge_lines : Bool → List ℕ → List ℕ → List ℕ → List ℕ
edge_lines with_rules target path look =
    if is_do_file path && not with_rules then [] else
    do_line (is_do_file path) path ++ edge_line target path look

-- the lines of an entry; `always` names no path, and so has no edge
abbrev pub kind_lines : Bool → List ℕ → DepKind → List ℕ → List ℕ
kind_lines with_rules target Change path = edge_lines with_rules target path (change_look (is_do_file path))
kind_lines with_rules target Create path = edge_lines with_rules target path (create_look (is_do_file path))
kind_lines with_rules target Always path = []

abbrev pub entry_lines : Bool → List ℕ → Dep → List ℕ
entry_lines with_rules target dep = kind_lines with_rules target dep.kind dep.path

-- a row's node, and an edge for each entry of its record
abbrev pub row_lines : (List ℕ → Bool) → Bool → Row → List ℕ
row_lines begun with_rules row =
    node_line begun row ++ flat_map (entry_lines with_rules row.path) (arc_value row.deps)

-- the graph with these lines
abbrev pub graph_with : List ℕ → List ℕ
graph_with lines = codes "digraph redo {\nnode [shape=plaintext];\n" ++ lines ++ codes "}\n"

-- the graph of rows, by whether each path's script was begun; what only edges name is a node too, by the language
abbrev pub graph_of : (List ℕ → Bool) → Bool → List Row → List ℕ
graph_of begun with_rules rows = graph_with (flat_map (row_lines begun with_rules) rows)

abbrev pub graph_text : Report → Bool → List ℕ
graph_text report with_rules = graph_of (is_among report.begun.items) with_rules report.rows.items
