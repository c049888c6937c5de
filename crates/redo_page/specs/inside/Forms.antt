-- What stands for a byte, by where a text stands.
use Rattle.std.specs.Prelude.{ℕ, List}
use Rattle.redo_page.specs.Html.{in_string, reference}
use Rattle.redo_page.specs.declared.escape.Form.{Form}
use Rattle.redo_page.specs.declared.escape.Form.TheVariants as forms

abbrev pub stands_for : Form → ℕ → List ℕ
stands_for forms.Html = reference
stands_for forms.Json = in_string
