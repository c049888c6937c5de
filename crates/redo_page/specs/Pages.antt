-- What a page of a report has, piece by piece.
use Rattle.std.specs.Prelude.{ℕ, ◌+◌, ◌-◌, ◌/◌, ◌%◌, Bool, true, false, ◌==◌, List, [], ◌∷◌, ◌++◌, Option, Some, None}
use Rattle.std.specs.Prelude.{bytes_eq, drop, filter, flat_map}
use Rattle.std.specs.Prelude.{if◌then◌else◌, is_some, length, map, nat_lt, option_copied, slice_get, take}
use Rattle.std.specs.Arc.{arc_value}
use Rattle.std.specs.List.{count_by}
use Rattle.std.specs.Map.{lookup}
use Rattle.bstr.specs.Text.{lines_of, without_terminator}
use Rattle.redo_record.specs.declared.deps.Dep.{Dep}
use Rattle.redo_record.specs.declared.deps.DepKind.{DepKind}
use Rattle.redo_record.specs.declared.deps.DepKind.TheVariants as kinds
use Rattle.redo_record.specs.declared.outcome.Outcome.{Outcome}
use Rattle.redo_record.specs.declared.outcome.Outcome.TheVariants as outcomes
use Rattle.redo_record.specs.declared.outcome.Why.{Why}
use Rattle.redo_report.specs.ReportText.{why_words}
use Rattle.redo_report.specs.declared.report.Row.{Row}
use Rattle.redo_diagnose.specs.declared.diagnosis.Diagnosis.{Diagnosis}
use Rattle.redo_diagnose.specs.declared.diagnosis.Place.{Place}
use Rattle.redo_rings.specs.declared.ring.Ring.{Ring}
use Rattle.redo_tree.specs.Tree.{Tree}
use Rattle.redo_notes.specs.Texts.{ruleless_line, unbuilt_line, unmade_line}
use Rattle.redo_notes.specs.declared.kinds.Notes.{Notes}
use Rattle.redo_told.specs.Blocked.{is_blocked}
use Rattle.redo_told.specs.Rows.{is_changed}
use Rattle.redo_told.specs.declared.run.RunInfo.{RunInfo}
use Rattle.redo_page.specs.Parts.{Piece, Fixed, Number, Text, a_shown, a_tag, a_word, of_failure, of_note, of_ring}
use Rattle.redo_page.specs.Parts.{of_row, of_run, of_sum, word_bytes}
use Rattle.redo_page.specs.declared.parts.Part.TheVariants as parts
use Rattle.redo_page.specs.declared.parts.Word.{Word}
use Rattle.redo_page.specs.declared.parts.Word.TheVariants as words
use Rattle.redo_page.specs.declared.parts.Tag.TheVariants as tags
use Rattle.redo_page.specs.declared.parts.RunPart.TheVariants as run_parts
use Rattle.redo_page.specs.declared.parts.SumPart.TheVariants as sum_parts
use Rattle.redo_page.specs.declared.parts.FailurePart.TheVariants as failure_parts
use Rattle.redo_page.specs.declared.parts.RingPart.TheVariants as ring_parts
use Rattle.redo_page.specs.declared.parts.NotePart.TheVariants as note_parts
use Rattle.redo_page.specs.declared.parts.RowPart.TheVariants as row_parts
use Rattle.redo_page.specs.declared.whole.Told.{Told}

-- What the rows are known by

-- the number of the row with a path, the numbers of the rows that need a row, which targets have a diagnosis, why scripts
-- were begun, and which targets were built with other bytes than before
pub record Known : Type 0 where
  pub row_of : List ℕ → Option ℕ
  pub users : ℕ → List ℕ
  pub is_told : List ℕ → Bool
  pub why : List ℕ → Option (List ℕ)
  pub is_changed : List ℕ → Bool

-- each row's path with its number
abbrev pub numbered : ℕ → List Row → List (List ℕ × ℕ)
numbered n [] = []
numbered n (row ∷ rows) = (row.path, n) ∷ numbered (n + 1) rows

-- the number of the row with this path, from 0
abbrev pub row_of : List Row → List ℕ → Option ℕ
row_of rows path = lookup (bytes_eq path) (numbered 0 rows)

-- whether this is the number of a row that was found
abbrev pub is_number : ℕ → Option ℕ → Bool
is_number m None = false
is_number m (Some n) = n == m

-- whether an entry of this kind, whose path has the row with that number, is of row m; `always` is of none
abbrev pub is_of : ℕ → DepKind → Option ℕ → Bool
is_of m kinds.Change n = is_number m n
is_of m kinds.Create n = is_number m n
is_of m kinds.Always n = false

-- the number n once for each entry that is of row m
abbrev pub entry_users : (List ℕ → Option ℕ) → ℕ → ℕ → Dep → List ℕ
entry_users found m n dep = if is_of m dep.kind (found dep.path) then n ∷ [] else []

-- the rows from number n on whose records have an entry of row m, once for each such entry
abbrev pub users_from : (List ℕ → Option ℕ) → ℕ → ℕ → List Row → List ℕ
users_from found m n [] = []
users_from found m n (row ∷ rows) =
    flat_map (entry_users found m n) (arc_value row.deps) ++ users_from found m (n + 1) rows

-- the rows that need row m
abbrev pub users_of : List Row → ℕ → List ℕ
users_of rows m = users_from (row_of rows) m 0 rows

-- the paths of the rows whose targets were built with other bytes than this tree has
abbrev pub changed_in : Tree → List Row → List (List ℕ)
changed_in before rows = map (λ row. row.path) (filter (is_changed before) rows)

-- Links

-- a link to the row with this number
abbrev pub link_pieces : ℕ → List ℕ → List Piece
link_pieces n path = a_tag tags.Link ∷ Number n ∷ a_tag tags.LinkText ∷ Text path ∷ a_tag tags.LinkEnd ∷ []

-- a path, as a link if it has a row
abbrev pub path_pieces : Option ℕ → List ℕ → List Piece
path_pieces None path = Text path ∷ []
path_pieces (Some n) path = link_pieces n path

-- The summary

-- the word for a target that was built, by whether its script was begun and has made something else than before: one
-- that wasn't begun was kept
abbrev pub built_word : Bool → Bool → Word
built_word true true = words.Built
built_word true false = words.Same
built_word false changed = words.Kept

-- the word for what became of a path, by whether its script was begun and its bytes are others than before. Of a target
-- without a file nothing is said to be the same.
abbrev pub outcome_word : Outcome → Bool → Bool → Word
outcome_word outcomes.Source begun changed = words.Source
outcome_word (outcomes.Built None) begun changed = built_word begun true
outcome_word (outcomes.Built (Some bytes)) begun changed = built_word begun changed
outcome_word (outcomes.Failed why) begun changed =
    if is_blocked (outcomes.Failed why) then words.Blocked else words.Failed
outcome_word outcomes.Cyclic begun changed = words.Cyclic

abbrev pub row_word : Known → Row → Word
row_word known row = outcome_word row.outcome (is_some (known.why row.path)) (known.is_changed row.path)

-- whether this is the word for what became of a row
abbrev pub has_word : Known → Word → Row → Bool
has_word known it row = bytes_eq (word_bytes (row_word known row)) (word_bytes it)

-- how many rows have that word
unfoldable pub count_of : Known → List Row → Word → ℕ
count_of known rows it = count_by (has_word known it) rows

-- a count of 0 stands out by nothing
abbrev pub class_of : Word → ℕ → Word
class_of it count = if count == 0 then words.Nothing else it

abbrev pub count_pieces : Word → ℕ → List Piece
count_pieces it count =
    of_sum sum_parts.Line ∷ a_word (class_of it count) ∷ of_sum sum_parts.Name ∷ a_shown it
    ∷ of_sum sum_parts.Count ∷ Number count ∷ of_sum sum_parts.LineEnd ∷ []

-- how many rows have each of the words for targets
abbrev pub wrong_pieces : Known → List Row → List Piece
wrong_pieces known rows =
    count_pieces words.Failed (count_of known rows words.Failed)
    ++ count_pieces words.Blocked (count_of known rows words.Blocked)
    ++ count_pieces words.Cyclic (count_of known rows words.Cyclic)

abbrev pub good_pieces : Known → List Row → List Piece
good_pieces known rows =
    count_pieces words.Built (count_of known rows words.Built)
    ++ count_pieces words.Same (count_of known rows words.Same)
    ++ count_pieces words.Kept (count_of known rows words.Kept)

abbrev pub counts_pieces : Known → List Row → List Piece
counts_pieces known rows =
    wrong_pieces known rows ++ good_pieces known rows
    ++ count_pieces words.Source (count_of known rows words.Source)

unfoldable pub summary_pieces : Known → List Row → List Piece
summary_pieces known rows =
    (of_sum sum_parts.Begin ∷ []) ++ counts_pieces known rows ++ of_sum sum_parts.End ∷ []

-- The run

abbrev pub requested_pieces : List ℕ → List Piece
requested_pieces path = of_run run_parts.Path ∷ Text path ∷ of_run run_parts.PathEnd ∷ []

abbrev pub directory_pieces : Option (List ℕ) → List Piece
directory_pieces None = []
directory_pieces (Some dir) = of_run run_parts.Directory ∷ Text dir ∷ of_run run_parts.DirectoryEnd ∷ []

abbrev pub began_pieces : Option (List ℕ) → List Piece
began_pieces None = []
began_pieces (Some time) = of_run run_parts.Began ∷ Text time ∷ []

-- hundredths of a second, of which there are less than 100, as two digits
abbrev pub hundredths_pieces : ℕ → List Piece
hundredths_pieces n = (if nat_lt n 10 then of_run run_parts.Zero ∷ [] else []) ++ Number n ∷ of_run run_parts.Seconds ∷ []

-- milliseconds as seconds and hundredths
abbrev pub took_pieces : Option ℕ → List Piece
took_pieces None = []
took_pieces (Some ms) =
    (of_run run_parts.Took ∷ Number (ms / 1000) ∷ of_run run_parts.Point ∷ []) ++ hundredths_pieces (ms % 1000 / 10)

-- what was requested, where, and by how many jobs
abbrev pub asked_pieces : RunInfo → List Piece
asked_pieces run =
    (of_run run_parts.Requested ∷ []) ++ flat_map requested_pieces run.request.now
    ++ directory_pieces (option_copied run.directory) ++ of_run run_parts.Jobs ∷ Number run.jobs ∷ []

-- when, how long, and by which program
abbrev pub time_pieces : RunInfo → List Piece
time_pieces run =
    began_pieces (option_copied run.began) ++ took_pieces run.milliseconds
    ++ of_run run_parts.Version ∷ Text run.version.now ∷ []

-- the exit status, and what is told of the run
unfoldable pub run_pieces : ℕ → RunInfo → List Piece
run_pieces status run =
    (of_run run_parts.Begin ∷ Number status ∷ []) ++ asked_pieces run ++ time_pieces run ++ of_run run_parts.End ∷ []

-- Failures

-- how many bytes of a line come before what is meant
abbrev pub start_of : Place → ℕ
start_of place = place.column - 1

-- the line of a place, with what is meant marked
abbrev pub excerpt_pieces : Place → List Piece
excerpt_pieces place =
    of_failure failure_parts.Excerpt ∷ Number place.line
    ∷ of_failure failure_parts.Before ∷ Text (take (start_of place) place.text.items)
    ∷ of_failure failure_parts.Marked ∷ Text (take place.length (drop (start_of place) place.text.items))
    ∷ of_failure failure_parts.After ∷ Text (drop place.length (drop (start_of place) place.text.items))
    ∷ of_failure failure_parts.ExcerptEnd ∷ []

-- a paragraph of text
abbrev pub text_pieces : List ℕ → List Piece
text_pieces text = a_tag tags.Paragraph ∷ Text text ∷ a_tag tags.ParagraphEnd ∷ []

-- what is wrong at a place: its file, line and column, the words, and the line
abbrev pub place_pieces : Place → List ℕ → List Piece
place_pieces place message =
    (of_failure failure_parts.File ∷ Text place.file ∷ of_failure failure_parts.Line ∷ Number place.line
    ∷ of_failure failure_parts.Column ∷ Number place.column ∷ of_failure failure_parts.Message ∷ Text message
    ∷ a_tag tags.ParagraphEnd ∷ []) ++ excerpt_pieces place

-- what is wrong, and where, if there is a place
abbrev pub message_pieces : Option Place → List ℕ → List Piece
message_pieces None message = text_pieces message
message_pieces (Some place) message = place_pieces place message

-- what to do, if there are words for it
abbrev pub help_pieces : List ℕ → List Piece
help_pieces help = if length help == 0 then [] else text_pieces help

-- the path of a target that failed, as a link to its row
abbrev pub title_pieces : ℕ → List ℕ → List Piece
title_pieces n path =
    (of_failure failure_parts.Article ∷ Number n ∷ of_failure failure_parts.Name ∷ []) ++ link_pieces n path
    ++ of_failure failure_parts.NameEnd ∷ []

-- a diagnosis, by the number of its target's row; a path without a row has none
abbrev pub diagnosis_pieces : Option ℕ → Diagnosis → List Piece
diagnosis_pieces None d = []
diagnosis_pieces (Some n) d =
    title_pieces n d.target ++ message_pieces d.place d.message.items ++ help_pieces d.help.items
    ++ of_failure failure_parts.ArticleEnd ∷ []

-- the failures, if there is one
abbrev pub failures_pieces : Known → List Diagnosis → List Piece
failures_pieces known ds =
    if length ds == 0 then [] else
    (of_failure failure_parts.Begin ∷ []) ++ flat_map (λ d. diagnosis_pieces (known.row_of d.target) d) ds
    ++ a_tag tags.SectionEnd ∷ []

-- Rings

abbrev pub member_pieces : Known → List ℕ → List Piece
member_pieces known path =
    (of_ring ring_parts.Member ∷ []) ++ path_pieces (known.row_of path) path ++ a_tag tags.LineEnd ∷ []

abbrev pub ring_pieces : Known → Ring → List Piece
ring_pieces known ring =
    (of_ring ring_parts.Ring ∷ []) ++ flat_map (member_pieces known) ring.members.items
    ++ of_ring ring_parts.Waiting ∷ Number ring.waiting ∷ a_tag tags.ParagraphEnd ∷ []

-- the rings, if there is one
abbrev pub rings_pieces : Known → List Ring → List Piece
rings_pieces known rings =
    if length rings == 0 then [] else
    (of_ring ring_parts.Begin ∷ []) ++ flat_map (ring_pieces known) rings ++ a_tag tags.SectionEnd ∷ []

-- Notes

-- the lines of all notes, however many there are
abbrev pub all_lines : Notes → List ℕ
all_lines notes =
    flat_map unbuilt_line notes.unbuilt.items ++ flat_map unmade_line notes.unmade.items
    ++ flat_map ruleless_line notes.ruleless.items

-- the lines of a text, without their ends
abbrev pub lines_in : List ℕ → List (List ℕ)
lines_in text = map without_terminator (lines_of text)

abbrev pub line_pieces : List ℕ → List Piece
line_pieces line = of_note note_parts.Note ∷ Text line ∷ a_tag tags.LineEnd ∷ []

-- the notes, each a line, if there is one
abbrev pub notes_pieces : Notes → List Piece
notes_pieces notes =
    if length (all_lines notes) == 0 then [] else
    (of_note note_parts.Begin ∷ []) ++ flat_map line_pieces (lines_in (all_lines notes))
    ++ of_note note_parts.End ∷ []

-- Rows

-- an entry of a record, by the number of its path's row; `always` has no path
abbrev pub kind_pieces : DepKind → List ℕ → Option ℕ → List Piece
kind_pieces kinds.Change path n = of_row row_parts.Change ∷ path_pieces n path
kind_pieces kinds.Create path n = of_row row_parts.Create ∷ path_pieces n path
kind_pieces kinds.Always path n = of_row row_parts.Always ∷ []

abbrev pub entry_pieces : Known → Dep → List Piece
entry_pieces known dep = kind_pieces dep.kind dep.path (known.row_of dep.path)

-- a record, if it has an entry
abbrev pub record_pieces : Known → List Dep → List Piece
record_pieces known deps =
    if length deps == 0 then [] else of_row row_parts.Needs ∷ flat_map (entry_pieces known) deps

-- a link to the row with this number, if there is one
abbrev pub number_pieces : ℕ → Option Row → List Piece
number_pieces n None = []
number_pieces n (Some row) = link_pieces n row.path

abbrev pub user_pieces : List Row → ℕ → List Piece
user_pieces rows n = number_pieces n (slice_get rows n)

-- the rows that need a row, with a blank between two, if there is one
abbrev pub users_pieces : List Row → List ℕ → List Piece
users_pieces rows [] = []
users_pieces rows (n ∷ ns) =
    (of_row row_parts.NeededBy ∷ []) ++ user_pieces rows n ++ flat_map (λ m. a_tag tags.Blank ∷ user_pieces rows m) ns

-- why a target failed, in the words of a report, as a link to its diagnosis if it has one
abbrev pub reason_pieces : Bool → ℕ → Why → List Piece
reason_pieces true n why =
    of_row row_parts.Failure ∷ Number n ∷ a_tag tags.LinkText ∷ Text (why_words why) ∷ a_tag tags.LinkEnd ∷ []
reason_pieces false n why = a_tag tags.Blank ∷ Text (why_words why) ∷ []

abbrev pub failed_pieces : Bool → ℕ → Outcome → List Piece
failed_pieces is_told n outcomes.Source = []
failed_pieces is_told n (outcomes.Built file) = []
failed_pieces is_told n (outcomes.Failed why) = reason_pieces is_told n why
failed_pieces is_told n outcomes.Cyclic = []

-- how many bytes a target's file has
abbrev pub size_pieces : Outcome → List Piece
size_pieces outcomes.Source = []
size_pieces (outcomes.Built None) = a_word words.Nothing ∷ []
size_pieces (outcomes.Built (Some bytes)) = Number (length bytes) ∷ []
size_pieces (outcomes.Failed why) = []
size_pieces outcomes.Cyclic = []

-- why a script was begun, if it was
abbrev pub why_pieces : Option (List ℕ) → List Piece
why_pieces None = []
why_pieces (Some why) = Text why ∷ []

-- a row's path, and what it needs
abbrev pub front_pieces : Known → ℕ → Row → List Piece
front_pieces known n row =
    (of_row row_parts.Begin ∷ a_word (row_word known row) ∷ of_row row_parts.Path ∷ Text row.path
    ∷ of_row row_parts.Record ∷ Number n ∷ a_tag tags.LinkText ∷ []) ++ record_pieces known (arc_value row.deps)

-- what became of a row, and why, if it failed
abbrev pub outcome_pieces : Known → ℕ → Row → List Piece
outcome_pieces known n row =
    (of_row row_parts.Outcome ∷ a_shown (row_word known row) ∷ [])
    ++ failed_pieces (known.is_told row.path) n row.outcome

-- a row's last cells
abbrev pub cells_pieces : Known → Row → List Piece
cells_pieces known row =
    (a_tag tags.Cell ∷ []) ++ size_pieces row.outcome ++ (a_tag tags.Cell ∷ []) ++ why_pieces (known.why row.path)
    ++ a_tag tags.LineEnd ∷ []

-- the row with this number
abbrev pub row_pieces : Known → List Row → ℕ → Row → List Piece
row_pieces known all n row =
    front_pieces known n row ++ users_pieces all (known.users n) ++ outcome_pieces known n row
    ++ cells_pieces known row

-- rows from this number on
abbrev pub rows_pieces : Known → List Row → ℕ → List Row → List Piece
rows_pieces known all n [] = []
rows_pieces known all n (row ∷ rows) = row_pieces known all n row ++ rows_pieces known all (n + 1) rows

-- how many rows a page shows without its script
abbrev pub most_rows : ℕ
most_rows = 500

-- where there are more rows, a sentence that says so
abbrev pub more_pieces : ℕ → List Piece
more_pieces count = if nat_lt most_rows count then a_tag tags.More ∷ [] else []

-- The page

-- what each page begins with
unfoldable pub begin_pieces : List Piece
begin_pieces = Fixed parts.Head ∷ Fixed parts.Style ∷ a_tag tags.Top ∷ []

-- what comes before the table
unfoldable pub top_pieces : Known → Told → List Row → List Piece
top_pieces known told rows =
    begin_pieces ++ run_pieces told.status told.run.now ++ summary_pieces known rows
    ++ failures_pieces known told.diagnoses.now ++ rings_pieces known told.rings.now

-- the first rows, the frame of the graph, and the notes
unfoldable pub table_pieces : Known → Told → List Row → List Piece
table_pieces known told rows =
    (Fixed parts.Middle ∷ []) ++ more_pieces (length rows)
    ++ (Fixed parts.Heads ∷ []) ++ rows_pieces known rows 0 (take most_rows rows)
    ++ (Fixed parts.Frame ∷ []) ++ notes_pieces told.notes.now

-- what is shown without the script
unfoldable pub shown_pieces : Known → Told → List Row → List Piece
shown_pieces known told rows = top_pieces known told rows ++ table_pieces known told rows
