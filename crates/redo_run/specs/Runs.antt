-- What a run over a bundle leaves on its writer.
use Rattle.std.specs.Prelude.{◌≡◌, ◌↔◌, ◌++◌, ◌∷◌, [], ℕ, Bool, true, IsTrue, IsSome, List, Option, Result, Ok, Err}
use Rattle.std.specs.Prelude.{codes}
use Rattle.std.specs.Io.KnownBytes.{Appends}
use Rattle.redo_rules.specs.Build.{GivenView}
use Rattle.redo_rules.specs.Results.{IsGiven, IsRefused, IsResult, IsResultOn, NeedsTooMany as TreeNeedsTooMany}
use Rattle.redo_report.specs.ReportText.{report_text}
use Rattle.redo_report.specs.declared.report.Report.{Report}
use Rattle.redo_bundle.specs.Bundle.{IsBundle, Reads}
use Rattle.redo_tree.specs.Tree.{Tree}
use Rattle.redo_which.specs.Rule.{chosen_of}
use Rattle.redo_past.specs.Past.{IsPast}
use Rattle.redo_run.specs.declared.bundle.BundleRun.{BundleRun}
use Rattle.redo_run.specs.declared.options.Options.{Options}
use Rattle.redo_run.specs.declared.fault.RunIoFault.{RunIoFault}
use Rattle.redo_run.specs.declared.fault.RunIoFault.TheVariants.{Bundle, Book, TooMany, Device, Memory}
use Rattle.redo_run.specs.Candidates.{candidate_text}
use Rattle.redo_run.specs.Exits.{IsExitOf}
use Rattle.redo_run.specs.Skipping.{IsSoundFor, IsUnsafeOn}

-- `all` if no target is given
abbrev pub request_of : List (List ℕ) → List (List ℕ)
request_of [] = codes "all" ∷ []
request_of (target ∷ targets) = target ∷ targets

abbrev pub request_in : Options → List (List ℕ)
request_in options = request_of options.targets.items

-- the report of the build of a tree's sources, with the new book, as the options want it
abbrev pub IsReportFor : Options → Tree → Report → Type 0
IsReportFor options tree report = IsResultOn tree (request_in options) options.limits report

-- the text is a bundle of the tree that was built, with its past; and the writer took the report of the build, and nothing
-- else
pub record Reports (options : Options) (text : List ℕ) (old new : Option (List ℕ)) (run : BundleRun) : Type 0 where
  pub past : IsPast run.past
  pub bundle : IsBundle text run.past.tree
  pub given : GivenView
  pub is_given : IsGiven run.past.tree (request_in options) options.limits given
  pub is : IsResult given run.report
  pub sound : IsSoundFor given run.report
  pub written : Appends old new (report_text run.report true)
  pub good : IsExitOf given run.exit

-- the text is a bundle of a tree that needs too many targets, and keeping isn't safe over it
abbrev pub NeedsTooMany : Options → List ℕ → Type 0
NeedsTooMany options text =
    (tree : Tree) × IsBundle text tree × TreeNeedsTooMany tree (request_in options) options.limits ×
    IsUnsafeOn tree (request_in options) options.limits

-- the text is a bundle of a tree whose book has this line as its first at fault
abbrev pub RefusesBook : List ℕ → ℕ → Type 0
RefusesBook text n = (tree : Tree) × IsBundle text tree × IsRefused tree n

-- the text is a bundle of a tree, and the writer took a prefix of the report of its build
pub record BreaksOff (options : Options) (text : List ℕ) (old new : Option (List ℕ)) : Type 0 where
  pub tree : Tree
  pub bundle : IsBundle text tree
  pub report : Report
  pub is : IsReportFor options tree report
  pub out : List ℕ
  pub more : List ℕ
  pub begins : report_text report true ≡ out ++ more
  pub written : Appends old new out

-- what each fault says of the text, the book, the targets or the writer; lack of memory says nothing
abbrev pub Explains : {A : Type 0} → Options → List ℕ → Option (List ℕ) → Option (List ℕ) → Result A RunIoFault → Type 0
Explains options text old new (Ok x) = Unit {0}
Explains options text old new (Err (Bundle fault)) = Reads (Err fault) text
Explains options text old new (Err (Book n)) = RefusesBook text n
Explains options text old new (Err TooMany) = NeedsTooMany options text
Explains options text old new (Err Device) = BreaksOff options text old new
Explains options text old new (Err Memory) = Unit {0}

-- nothing was written, unless the call went well or the writer failed
abbrev pub IsUntouched : {A W : Type 0} → Result A RunIoFault → W → W → Type 0
IsUntouched (Ok x) old new = Unit {0}
IsUntouched (Err Device) old new = Unit {0}
IsUntouched _ old new = new ≡ old

-- the text is a bundle of a tree, and the writer took the list of the target's candidates, and nothing else
pub record Lists (target text : List ℕ) (old new : Option (List ℕ)) (found : Bool) : Type 0 where
  pub tree : Tree
  pub bundle : IsBundle text tree
  pub written : Appends old new (candidate_text tree target)
  pub chosen : IsTrue found ↔ IsSome (chosen_of tree target)

-- the same for a list of candidates; no book is read and no target is built
abbrev pub ExplainsList : {A : Type 0} → List ℕ → List ℕ → Option (List ℕ) → Option (List ℕ) → Result A RunIoFault →
    Type 0
ExplainsList target text old new (Ok x) = Unit {0}
ExplainsList target text old new (Err (Bundle fault)) = Reads (Err fault) text
ExplainsList target text old new (Err (Book n)) = ⊥
ExplainsList target text old new (Err TooMany) = ⊥
ExplainsList target text old new (Err Device) =
    (tree : Tree) × IsBundle text tree × (out more : List ℕ) × (candidate_text tree target ≡ out ++ more) ×
    Appends old new out
ExplainsList target text old new (Err Memory) = Unit {0}
