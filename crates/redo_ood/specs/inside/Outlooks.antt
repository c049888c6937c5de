-- What is known of a run before any script is begun.
use Rattle.std.specs.Prelude.{ℕ, List}
use Rattle.redo_past.specs.Past.{PastView}
use Rattle.redo_rules.specs.Build.{GivenView}
use Rattle.redo_step.specs.Limits.{LimitsView}
use Rattle.redo_ood.specs.Listing.{run_over}
use Rattle.redo_ood.specs.inside.Rows.{AreRows, AreSame, InRun}
use Rattle.redo_ood.specs.inside.Verdicts.{AreVerdicts}
use Rattle.redo_ood.specs.declared.list.Outlook.{Outlook}

-- the rows are those of the book, and the verdicts follow from them
pub record AreKnown (outlook : Outlook) : Type 0 where
  pub rows : InRun outlook.past.now outlook.requested.now (λ s k book. AreRows s k book book outlook.rows.now)
  pub verdicts : AreVerdicts outlook.rows.now outlook.table.now

-- of each run over a past that requests what is in a set
abbrev pub InEachRun : PastView → List (List ℕ) → (GivenView → Type 0) → Type 0
InEachRun past set P = (request : List (List ℕ)) (limits : LimitsView) → AreSame set request → P (run_over past request limits)
