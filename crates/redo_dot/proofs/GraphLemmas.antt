-- Graphs, by the sets that they go by: that of a report by its begun scripts, that of a list by its targets.
use Rattle.std.proofs.Common.{◌≡◌, ◌∙◌, ℕ, Bool, List, ap}
use Rattle.redo_names.specs.Paths.{is_among}
use Rattle.redo_report.specs.declared.report.Row.{Row}
use Rattle.redo_book.specs.Book.{Record}
use Rattle.redo_dot.specs.Dot.{graph_of}
use Rattle.redo_list.specs.declared.listed.Listed.{Listed}
use Rattle.redo_dot.specs.Lists.{is_listed, list_graph, list_text}

same-begun : (a b : List ℕ → Bool) (with_rules : Bool) (rows : List Row) → ((path : List ℕ) → a path ≡ b path) →
    graph_of a with_rules rows ≡ graph_of b with_rules rows
same-begun a b with_rules rows same = ap (λ (begun : List ℕ → Bool). graph_of begun with_rules rows) (λ i path. same path i)

-- the graph by the set, where what was passed is what is drawn
pub drawn : (text : List ℕ) (set given begun : List (List ℕ)) (with_rules : Bool) (these rows : List Row) →
    text ≡ graph_of (is_among set) with_rules these → ((path : List ℕ) → is_among set path ≡ is_among given path) →
    given ≡ begun → these ≡ rows → text ≡ graph_of (is_among begun) with_rules rows
drawn text set given begun with_rules these rows is has g r =
    is ∙ same-begun (is_among set) (is_among given) with_rules these has
    ∙ ap (λ ps. graph_of (is_among ps) with_rules these) g ∙ ap (λ rs. graph_of (is_among begun) with_rules rs) r

-- the graph of a list by the set of its targets
pub listed : (text : List ℕ) (set : List (List ℕ)) (targets : List Listed) (book : List Record) →
    text ≡ list_graph (is_among set) book targets →
    ((path : List ℕ) → is_among set path ≡ is_listed targets path) → text ≡ list_text targets book
listed text set targets book is has =
    is ∙ ap (λ (these : List ℕ → Bool). list_graph these book targets) (λ i path. has path i)
