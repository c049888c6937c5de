use Rattle.redo_page.specs.Html.{shown}
use Rattle.redo_page.proofs.EscapeLemmas.{reads_back, string_back}
use Rattle.redo_page.proofs.list.list_page.Goals as goal

pub returns-clause-read : goal.returns-clause-read
returns-clause-read c = reads_back

pub returns-clause-read_in_data : goal.returns-clause-read_in_data
returns-clause-read_in_data c = λ bytes. string_back (shown bytes)
