-- What is stale after a build, or soon will be.
use Rattle.std.specs.Prelude.{◌&&◌, ◌||◌, Bool, true, false, ℕ, List, Option, Some, None, filter, filter_map, map}
use Rattle.std.specs.Prelude.{if◌then◌else◌, is_none, is_some, option_map}
use Rattle.std.specs.Arc.{arc_value}
use Rattle.std.specs.List.{list_any}
use Rattle.redo_path.specs.Names.{below_of}
use Rattle.redo_names.specs.Paths.{is_among}
use Rattle.redo_tree.specs.Tree.{Node, Tree, bytes_of, file_at}
use Rattle.redo_which.specs.Rule.{chosen_of}
use Rattle.redo_record.specs.Progress.{changes}
use Rattle.redo_record.specs.declared.outcome.Outcome.{Outcome}
use Rattle.redo_record.specs.declared.outcome.Outcome.TheVariants.{Source, Built, Failed, Cyclic}
use Rattle.redo_book.specs.Book.{Record, record_at, targets_of}
use Rattle.redo_report.specs.declared.report.Report.{Report}
use Rattle.redo_report.specs.declared.report.Row.{Row}
use Rattle.redo_past.specs.Past.{PastView, is_generated}
use Rattle.redo_notes.specs.declared.kinds.Unbuilt.{Unbuilt}

-- the .do file that the search for a path's rule chooses, whatever is at the path
abbrev pub do_file_of : Tree → List ℕ → Option (List ℕ)
do_file_of sources path = option_map (λ place. place.do_file) (chosen_of sources path)

-- a row's record has the path in a change entry
abbrev pub asks_for : List ℕ → Row → Bool
asks_for path row = is_among (changes (arc_value row.deps)) path

-- a path was asked for: it was requested, or a row's record has it in a change entry
abbrev pub is_asked : List (List ℕ) → List Row → List ℕ → Bool
is_asked request rows path = is_among request path || list_any (asks_for path) rows

-- a file that was asked for and has a rule, with the rule's .do file, and whether it is recorded
abbrev pub unbuilt_at : Tree → (List ℕ → Bool) → (List ℕ → Bool) → List ℕ × Node → Option Unbuilt
unbuilt_at sources asked known e =
    if is_some (bytes_of e.1) && asked e.0
    then option_map (λ file. record { path = e.0; do_file = file; recorded = known e.0 }) (do_file_of sources e.0)
    else None

-- the book has a record of a path
abbrev pub has_record : List Record → List ℕ → Bool
has_record book path = is_some (record_at book path)

-- the sources that were asked for and have a rule, in path order
abbrev pub unbuilt : PastView → List (List ℕ) → Report → List Unbuilt
unbuilt past request report =
    filter_map (unbuilt_at past.sources (is_asked request report.rows.items) (has_record past.book)) past.sources

-- a file that has a rule
abbrev pub shadowed_at : Tree → List ℕ × Node → Option (List ℕ)
shadowed_at sources e = if is_some (bytes_of e.1) && is_some (do_file_of sources e.0) then Some e.0 else None

-- all sources that have a rule, in path order, whether they are asked for or not
abbrev pub shadowed : PastView → List (List ℕ)
shadowed past = filter_map (shadowed_at past.sources) past.sources

-- a path is one of these places, or below one
abbrev pub is_within : List (List ℕ) → List ℕ → Bool
is_within places path = list_any (λ place. is_some (below_of path place)) places

-- the sources that have a rule, at these places and below them
abbrev pub shadowed_within : PastView → List (List ℕ) → List (List ℕ)
shadowed_within past places = filter (is_within places) (shadowed past)

-- built without a file
abbrev pub is_bare : Outcome → Bool
is_bare Source = false
is_bare (Built None) = true
is_bare (Built (Some bytes)) = false
is_bare (Failed why) = false
is_bare Cyclic = false

-- a row was built without a file, and the tree that was read has one at its path
abbrev pub is_unmade : Tree → Row → Bool
is_unmade tree row = is_bare row.outcome && is_some (file_at tree row.path)

-- the targets that were built without a file and whose file of an earlier run stays, in path order
abbrev pub unmade : PastView → Report → List (List ℕ)
unmade past report = map (λ row. row.path) (filter (is_unmade past.tree) report.rows.items)

-- a record's target has its generated file, and no rule
abbrev pub is_ruleless : PastView → Record → Bool
is_ruleless past r = is_generated past.tree r && is_none (do_file_of past.sources r.target)

-- the targets of the book whose generated file stays and that no rule makes, in path order
abbrev pub ruleless : PastView → List (List ℕ)
ruleless past = targets_of (filter (is_ruleless past) past.book)
