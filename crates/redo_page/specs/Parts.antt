-- The fixed parts of a page, and what else one is made of.
use Rattle.std.specs.Prelude.{ℕ, List, codes, decimal, flat_map}
use Rattle.redo_list.specs.Lists.{state_word}
use Rattle.redo_page.specs.Html.{escaped, quoted}
use Rattle.redo_page.specs.declared.graph.TheConstants.{GRAPH}
use Rattle.redo_page.specs.declared.head.TheConstants.{HEAD}
use Rattle.redo_page.specs.declared.list_script.TheConstants.{LIST_SCRIPT}
use Rattle.redo_page.specs.declared.middle.TheConstants.{FRAME, HEADS, LIST_END, LIST_FORM, LIST_HEADS, MIDDLE}
use Rattle.redo_page.specs.declared.script.TheConstants.{SCRIPT}
use Rattle.redo_page.specs.declared.style.TheConstants.{STYLE}
use Rattle.redo_page.specs.declared.table.TheConstants.{TABLE}
use Rattle.redo_page.specs.declared.parts.Part.{Part}
use Rattle.redo_page.specs.declared.parts.Part.TheVariants as parts
use Rattle.redo_page.specs.declared.parts.Word.{Word}
use Rattle.redo_page.specs.declared.parts.Word.TheVariants as words
use Rattle.redo_page.specs.declared.parts.Tag.{Tag}
use Rattle.redo_page.specs.declared.parts.Tag.TheVariants as tags
use Rattle.redo_page.specs.declared.parts.RunPart.{RunPart}
use Rattle.redo_page.specs.declared.parts.RunPart.TheVariants as run_parts
use Rattle.redo_page.specs.declared.parts.SumPart.{SumPart}
use Rattle.redo_page.specs.declared.parts.SumPart.TheVariants as sum_parts
use Rattle.redo_page.specs.declared.parts.FailurePart.{FailurePart}
use Rattle.redo_page.specs.declared.parts.FailurePart.TheVariants as failure_parts
use Rattle.redo_page.specs.declared.parts.RingPart.{RingPart}
use Rattle.redo_page.specs.declared.parts.RingPart.TheVariants as ring_parts
use Rattle.redo_page.specs.declared.parts.NotePart.{NotePart}
use Rattle.redo_page.specs.declared.parts.NotePart.TheVariants as note_parts
use Rattle.redo_page.specs.declared.parts.RowPart.{RowPart}
use Rattle.redo_page.specs.declared.parts.RowPart.TheVariants as row_parts
use Rattle.redo_page.specs.declared.parts.DataPart.{DataPart}
use Rattle.redo_page.specs.declared.parts.DataPart.TheVariants as data_parts
use Rattle.redo_page.specs.declared.parts.ListPart.{ListPart}
use Rattle.redo_page.specs.declared.parts.ListPart.TheVariants as list_parts

-- The bytes of fixed parts

abbrev pub word_bytes : Word → List ℕ
word_bytes words.Built = codes "built"
word_bytes words.Same = codes "same"
word_bytes words.Kept = codes "kept"
word_bytes words.Failed = codes "failed"
word_bytes words.Blocked = codes "blocked"
word_bytes words.Cyclic = codes "cyclic"
word_bytes words.Source = codes "source"
word_bytes words.Nothing = codes "none"

-- an outcome as it is shown
abbrev pub shown_bytes : Word → List ℕ
shown_bytes words.Same = codes "built the same"
shown_bytes it = word_bytes it

-- the number that stands for an outcome in the data
abbrev pub number_of_word : Word → ℕ
number_of_word words.Built = 0
number_of_word words.Same = 1
number_of_word words.Kept = 2
number_of_word words.Failed = 3
number_of_word words.Blocked = 4
number_of_word words.Cyclic = 5
number_of_word words.Source = 6
number_of_word words.Nothing = 6

abbrev pub tag_bytes : Tag → List ℕ
tag_bytes tags.Link = codes "<a href=\"#t"
tag_bytes tags.LinkText = codes "\">"
tag_bytes tags.LinkEnd = codes "</a>"
tag_bytes tags.Paragraph = codes "<p>"
tag_bytes tags.ParagraphEnd = codes "</p>\n"
tag_bytes tags.SectionEnd = codes "</section>\n"
tag_bytes tags.Cell = codes "<td>"
tag_bytes tags.Blank = codes " "
tag_bytes tags.LineEnd = codes "\n"
tag_bytes tags.Top = codes "</style>\n<main>\n<header>\n<h1>"
tag_bytes tags.More = codes "Without its script this page shows only the first 500."

abbrev pub run_bytes : RunPart → List ℕ
run_bytes run_parts.Begin = codes "redo report</h1>\n<p class=\"run\"><span>exit status "
run_bytes run_parts.Requested = codes "</span> <span class=\"request\">requested: "
run_bytes run_parts.Path = codes "<bdi>"
run_bytes run_parts.PathEnd = codes "</bdi> "
run_bytes run_parts.Directory = codes "</span> <span>in <bdi>"
run_bytes run_parts.DirectoryEnd = codes "</bdi>"
run_bytes run_parts.Jobs = codes "</span> <span>jobs: "
run_bytes run_parts.Began = codes "</span> <span>began "
run_bytes run_parts.Took = codes "</span> <span>took "
run_bytes run_parts.Point = codes "."
run_bytes run_parts.Zero = codes "0"
run_bytes run_parts.Seconds = codes " s"
run_bytes run_parts.Version = codes "</span> <span>redo "
run_bytes run_parts.End = codes "</span></p>\n"

abbrev pub sum_bytes : SumPart → List ℕ
sum_bytes sum_parts.Begin = codes "<dl class=\"sum\">\n"
sum_bytes sum_parts.Line = codes "<div class=\""
sum_bytes sum_parts.Name = codes "\"><dt>"
sum_bytes sum_parts.Count = codes "<dd>"
sum_bytes sum_parts.LineEnd = codes "</div>\n"
sum_bytes sum_parts.End = codes "</dl>\n<p class=\"go\"><a href=\"#targets\">To the targets</a> <a href=\"#graph\" hidden>To the graph</a></p>\n</header>\n"

abbrev pub failure_bytes : FailurePart → List ℕ
failure_bytes failure_parts.Begin = codes "<section id=\"failures\"><h2>Failures</h2>\n"
failure_bytes failure_parts.Article = codes "<article id=\"f"
failure_bytes failure_parts.Name = codes "\"><h3>"
failure_bytes failure_parts.NameEnd = codes "</h3>\n"
failure_bytes failure_parts.File = codes "<p><bdi>"
failure_bytes failure_parts.Line = codes "</bdi>:"
failure_bytes failure_parts.Column = codes ":"
failure_bytes failure_parts.Message = codes ": "
failure_bytes failure_parts.Excerpt = codes "<pre><i>"
failure_bytes failure_parts.Before = codes "</i>"
failure_bytes failure_parts.Marked = codes "<mark>"
failure_bytes failure_parts.After = codes "</mark>"
failure_bytes failure_parts.ExcerptEnd = codes "</pre>\n"
failure_bytes failure_parts.ArticleEnd = codes "</article>\n"

abbrev pub ring_bytes : RingPart → List ℕ
ring_bytes ring_parts.Begin = codes "<section id=\"rings\"><h2>Cycles</h2>\n"
ring_bytes ring_parts.Ring = codes "<ol class=\"ring\">\n"
ring_bytes ring_parts.Member = codes "<li>"
ring_bytes ring_parts.Waiting = codes "</ol>\n<p>Not in the cycle, but waiting for it: "

abbrev pub note_bytes : NotePart → List ℕ
note_bytes note_parts.Begin = codes "<section id=\"notes\"><h2>Notes</h2>\n<ul>\n"
note_bytes note_parts.Note = codes "<li>"
note_bytes note_parts.End = codes "</ul>\n</section>\n"

abbrev pub row_bytes : RowPart → List ℕ
row_bytes row_parts.Begin = codes "<tr class=\""
row_bytes row_parts.Path = codes "\"><th scope=\"row\"><details><summary>"
row_bytes row_parts.Record = codes "</summary><dl id=\"t"
row_bytes row_parts.Needs = codes "<dt>needs"
row_bytes row_parts.Change = codes "<dd>change "
row_bytes row_parts.Create = codes "<dd>create "
row_bytes row_parts.Always = codes "<dd>always"
row_bytes row_parts.NeededBy = codes "<dt>needed by<dd class=\"by\">"
row_bytes row_parts.Outcome = codes "</dl></details><td>"
row_bytes row_parts.Failure = codes " <a href=\"#f"

abbrev pub data_bytes : DataPart → List ℕ
data_bytes data_parts.Begin = codes "</main>\n<script type=\"application/json\" id=\"report\">"
data_bytes data_parts.Count = codes "{\"count\":"
data_bytes data_parts.Requested = codes ",\"requested\":["
data_bytes data_parts.Paths = codes "],\"paths\":["
data_bytes data_parts.Rows = codes "],\"rows\":["
data_bytes data_parts.End = codes "]}"
data_bytes data_parts.Scripts = codes "</script>\n<script>"
data_bytes data_parts.NextScript = codes "</script>\n<script>"
data_bytes data_parts.LastScript = codes "</script>\n"
data_bytes data_parts.Comma = codes ","
data_bytes data_parts.Open = codes "["
data_bytes data_parts.Close = codes "]"
data_bytes data_parts.Null = codes "null"

abbrev pub list_bytes : ListPart → List ℕ
list_bytes list_parts.Begin = codes "Out of date</h1>\n<dl class=\"sum\">\n<div><dt>exit status<dd>"
list_bytes list_parts.Count = codes "</div>\n<div><dt>targets<dd>"
list_bytes list_parts.Form = LIST_FORM.now
list_bytes list_parts.Heads = LIST_HEADS.now
list_bytes list_parts.Row = codes "<tr><th scope=\"row\"><bdi>"
list_bytes list_parts.State = codes "</bdi><td>"
list_bytes list_parts.Data = LIST_END.now

abbrev pub part_bytes : Part → List ℕ
part_bytes parts.Head = HEAD.now
part_bytes parts.Style = STYLE.now
part_bytes parts.Middle = MIDDLE.now
part_bytes parts.Heads = HEADS.now
part_bytes parts.Frame = FRAME.now
part_bytes parts.Table = TABLE.now
part_bytes parts.Graph = GRAPH.now
part_bytes parts.Script = SCRIPT.now
part_bytes parts.ListScript = LIST_SCRIPT.now
part_bytes (parts.Word it) = word_bytes it
part_bytes (parts.Shown it) = shown_bytes it
part_bytes (parts.Tag it) = tag_bytes it
part_bytes (parts.Run it) = run_bytes it
part_bytes (parts.Sum it) = sum_bytes it
part_bytes (parts.Failure it) = failure_bytes it
part_bytes (parts.Ring it) = ring_bytes it
part_bytes (parts.Note it) = note_bytes it
part_bytes (parts.Row it) = row_bytes it
part_bytes (parts.Data it) = data_bytes it
part_bytes (parts.List it) = list_bytes it
part_bytes (parts.State it) = state_word it

-- What a page is made of

-- a piece of a page: a fixed part, a number, a text, or a text in the data
pub data Piece : Type 0 where
  Fixed : Part → Piece
  Number : ℕ → Piece
  Text : List ℕ → Piece
  Quoted : List ℕ → Piece

-- how a piece is written: a number in decimal, a text escaped, and one in the data as a string of JSON
unfoldable pub written : Piece → List ℕ
written (Fixed it) = part_bytes it
written (Number n) = decimal n
written (Text bytes) = escaped bytes
written (Quoted bytes) = quoted bytes

-- pieces in order
abbrev pub text_of : List Piece → List ℕ
text_of pieces = flat_map written pieces

-- Fixed parts as pieces

abbrev pub a_word : Word → Piece
a_word it = Fixed (parts.Word it)

abbrev pub a_shown : Word → Piece
a_shown it = Fixed (parts.Shown it)

abbrev pub a_tag : Tag → Piece
a_tag it = Fixed (parts.Tag it)

abbrev pub of_run : RunPart → Piece
of_run it = Fixed (parts.Run it)

abbrev pub of_sum : SumPart → Piece
of_sum it = Fixed (parts.Sum it)

abbrev pub of_failure : FailurePart → Piece
of_failure it = Fixed (parts.Failure it)

abbrev pub of_ring : RingPart → Piece
of_ring it = Fixed (parts.Ring it)

abbrev pub of_note : NotePart → Piece
of_note it = Fixed (parts.Note it)

abbrev pub of_row : RowPart → Piece
of_row it = Fixed (parts.Row it)

abbrev pub of_data : DataPart → Piece
of_data it = Fixed (parts.Data it)

abbrev pub of_list : ListPart → Piece
of_list it = Fixed (parts.List it)
