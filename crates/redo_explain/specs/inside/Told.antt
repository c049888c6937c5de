-- What the rows of a report tell.
use Rattle.std.specs.Prelude.{List, Some, map, option_map, unwrap_or}
use Rattle.redo_record.specs.declared.outcome.Outcome.TheVariants.{Cyclic}
use Rattle.redo_report.specs.Reports.{AreAscending}
use Rattle.redo_report.specs.declared.report.Row.{Row}
use Rattle.redo_build.specs.Rules.{Ask}
use Rattle.redo_past.specs.NewBook.{row_at}
use Rattle.redo_past.specs.Past.{PastView}
use Rattle.redo_skip.specs.Sources.{Sources}
use Rattle.redo_rules.specs.Build.{sources_by}

-- the rows are in path order, each path once
abbrev pub AreRows : List Row → Type 0
AreRows rows = AreAscending (map (λ row. row.path) rows)

-- the outcome of each row's path; any other path counts as cyclic, since no check of a begun script asks for it
abbrev pub told_by : List Row → Ask
told_by rows path = Some (unwrap_or (option_map (λ row. row.outcome) (row_at rows path)) Cyclic)

-- the sources of a past; whether an entry stands doesn't hang on any limit
abbrev pub sources_in : PastView → Sources
sources_in past = sources_by past.sources 0
