-- A list of targets that are out of date as a graph, in the language of graphviz.
use Rattle.std.specs.Prelude.{Bool, false, ℕ, List, [], ◌++◌, Option, Some, None, codes, flat_map, if◌then◌else◌, map}
use Rattle.redo_names.specs.Paths.{is_among}
use Rattle.redo_book.specs.Book.{Record, record_at}
use Rattle.redo_book.specs.declared.book.BookEntry.{BookEntry}
use Rattle.redo_book.specs.declared.book.BookEntry.TheVariants.{Change, Create, Always}
use Rattle.redo_list.specs.declared.listed.Listed.{Listed}
use Rattle.redo_list.specs.declared.listed.State.{State}
use Rattle.redo_list.specs.declared.listed.State.TheVariants.{Stale, Maybe, Ring, Lost, New, Unknown}
use Rattle.redo_dot.specs.Dot.{change_look, create_look, edge_line, graph_with, name_of}

-- the look of a target's node, by its state
abbrev pub look_of_state : State → List ℕ
look_of_state Stale = codes " [shape=box color=black]"
look_of_state Maybe = codes " [shape=box color=grey]"
look_of_state Ring = codes " [shape=box color=orange]"
look_of_state Lost = codes " [shape=box color=red]"
look_of_state New = codes " [shape=box color=black]"
look_of_state Unknown = codes " [shape=box color=red]"

-- the edge of a recorded entry, if it leads to a listed target
abbrev pub listed_edge : (List ℕ → Bool) → List ℕ → BookEntry → List ℕ
listed_edge listed target (Change state path) =
    if listed path then edge_line target path (change_look false) else []
listed_edge listed target (Create path) =
    if listed path then edge_line target path (create_look false) else []
listed_edge listed target Always = []

-- the edges of a record, if there is one
abbrev pub record_edges : (List ℕ → Bool) → List ℕ → Option Record → List ℕ
record_edges listed target None = []
record_edges listed target (Some made) = flat_map (listed_edge listed target) made.entries

-- a target's node, and an edge for each entry of its record in the book that leads to a listed target
abbrev pub listed_lines : (List ℕ → Bool) → List Record → Listed → List ℕ
listed_lines listed book it =
    (name_of it.target ++ look_of_state it.state ++ codes ";\n")
    ++ record_edges listed it.target (record_at book it.target)

-- the graph of targets, by whether each path is listed
abbrev pub list_graph : (List ℕ → Bool) → List Record → List Listed → List ℕ
list_graph listed book targets = graph_with (flat_map (listed_lines listed book) targets)

-- whether a path is one of these targets
abbrev pub is_listed : List Listed → List ℕ → Bool
is_listed targets path = is_among (map (λ it. it.target) targets) path

abbrev pub list_text : List Listed → List Record → List ℕ
list_text targets book = list_graph (is_listed targets) book targets
