-- What a run over a bundle tells of the text that it read.
use Rattle.std.proofs.Common.{rules, ◌≡◌, ◌↔◌, ◌∙◌, [], ◌∷◌, length, List, ℕ, Bool, Option, Some, None, IsTrue, is_some}
use Rattle.std.proofs.Common.{option_map, true, sym, subst, refl}
use Rattle.std.specs.Prelude.{IfSome, IsSome, Err, Result}
use Rattle.std.specs.Io.KnownBytes.{Appends}
use Rattle.redo_past.specs.NewBook.{IsWithBook}
use Rattle.redo_rules.specs.Results.{IsGiven, IsOfTree, IsRefused, IsResultOn, NeedsTooMany}
use Rattle.redo_report.specs.ReportText.{report_text}
use Rattle.redo_report.specs.declared.report.Report.{Report}
use Rattle.redo_bundle.specs.Bundle.{IsBundle, Writes}
use Rattle.redo_bundle.specs.declared.faults.WriteFault.{WriteFault}
use Rattle.redo_bundle.specs.declared.faults.WriteFault.TheVariants as write
use Rattle.redo_bundle.specs.declared.faults.BundleFault.TheVariants as bundle
use Rattle.redo_tree.specs.Tree.{Tree}
use Rattle.redo_run.specs.declared.bundle.BundleRun.{BundleRun}
use Rattle.redo_run.specs.declared.options.Options.{Options}
use Rattle.redo_run.specs.declared.fault.RunIoFault.{RunIoFault}
use Rattle.redo_run.specs.declared.fault.RunIoFault.TheVariants as run
use Rattle.redo_run.specs.declared.exit.Exit.{Exit}
use Rattle.redo_core.specs.declared.opening.OpenFault.{OpenFault as RunFault}
use Rattle.redo_core.specs.declared.opening.OpenFault.TheVariants as build
use Rattle.redo_run.specs.Exits.{IsExitOf}
use Rattle.redo_run.specs.declared.dir_fault.RunDirFault.TheVariants as dir
use Rattle.redo_run.specs.DirFaults.{of_run}
use Rattle.redo_run.specs.Directories.{IsBuilt, IsUnbuilt}
use Rattle.redo_run.specs.Faults.{of_build, of_write}
use Rattle.redo_run.specs.Skipping.{IsSoundOn, IsUnsafeOn}
use Rattle.redo_run.specs.Runs.{Explains, ExplainsList, IsUntouched, Lists, Reports, request_in, request_of}
use Rattle.redo_run.specs.Candidates.{candidate_text, search_text}
use Rattle.redo_which.specs.Candidates.{Place}
use Rattle.redo_which.specs.Rule.{chosen_of, missing_of}
use Rattle.redo_which.specs.Views.{place_of}
use Rattle.redo_which.specs.declared.Search.{Search}

-- targets that are named are the request
pub named_targets : (targets : List (List ℕ)) → (length targets ≡ 0 → ⊥) → request_of targets ≡ targets
named_targets [] some = absurd (some refl)
named_targets (target ∷ targets) some = refl

-- over a directory too many targets are told where the build tells of them
pub many_of_run : (fault : RunFault) → dir.TooMany ≡ of_run fault → fault ≡ build.TooMany
many_of_run (build.Book n) h = cc
many_of_run build.TooMany h = refl
many_of_run build.Memory h = cc

-- the request is that of the options
module _ (options : Options) (tree : Tree) (request : List (List ℕ)) (named : request ≡ request_in options) where
  moved : (P : List (List ℕ) → Type 0) → P request → P (request_in options)
  moved P h = subst P named h

  -- a build that answers no report
  pub explains_build : (left old new : Option (List ℕ)) (fault : RunFault) → IfSome left (λ text. IsBundle text tree) →
      ((n : ℕ) → fault ≡ build.Book n → IsRefused tree n) →
      (fault ≡ build.TooMany → NeedsTooMany tree request options.limits) →
      (fault ≡ build.TooMany → IsUnsafeOn tree request options.limits) →
      IfSome left (λ text. Explains {A = BundleRun} options text old new (Err (of_build fault)))
  explains_build None old new fault bundle book many never = tt
  explains_build (Some text) old new (build.Book n) bundle book many never = (tree, bundle, book n refl)
  explains_build (Some text) old new build.TooMany bundle book many never = (
    tree,
    bundle,
    moved (λ ps. NeedsTooMany tree ps options.limits) (many refl),
    moved (λ ps. IsUnsafeOn tree ps options.limits) (never refl),
  )
  explains_build (Some text) old new build.Memory bundle book many never = tt

  -- a writer that fails in the report took a beginning of it
  pub explains_write : (fault : WriteFault) (left old new : Option (List ℕ)) (report : Report) →
      IfSome left (λ text. IsBundle text tree) → IsResultOn tree request options.limits report →
      Writes {E = WriteFault} old new (Err fault) (report_text report true) →
      IfSome left (λ text. Explains {A = BundleRun} options text old new (Err (of_write fault)))
  explains_write fault None old new report bundle is h = tt
  explains_write write.Device (Some text) old new report bundle is h = record {
    tree = tree;
    bundle = bundle;
    report = report;
    is = moved (λ ps. IsResultOn tree ps options.limits report) is;
    out = h.0;
    more = h.1;
    begins = h.2;
    written = h.3;
  }
  explains_write write.Memory (Some text) old new report bundle is h = tt

  -- the whole report was written
  pub reports : (left old new : Option (List ℕ)) (run : BundleRun) → IsOfTree tree run.past →
      IfSome left (λ text. IsBundle text tree) → (is : IsResultOn tree request options.limits run.report) →
      IsSoundOn tree request options.limits run.report →
      Appends old new (report_text run.report true) →
      IsExitOf is.0 run.exit →
      IfSome left (λ text. Reports options text old new run)
  reports None old new run of bundle is sound written good = tt
  reports (Some text) old new run of bundle is sound written good =
      let M : Tree → Type 0 = λ t. IsGiven t (request_in options) options.limits is.0 in record {
        past = of.is_past;
        bundle = subst (λ t. IsBundle text t) (sym of.of_tree) bundle;
        given = is.0;
        is_given = subst M (sym of.of_tree) (moved (λ ps. IsGiven tree ps options.limits is.0) is.1);
        is = is.2;
        sound = sound is.0 is.1;
        written = written;
        good = good;
      }

  -- a tree needs too many targets
  pub too_many_in : NeedsTooMany tree request options.limits → IsUnsafeOn tree request options.limits → IsUnbuilt tree options dir.TooMany
  too_many_in many never = (moved (λ ps. NeedsTooMany tree ps options.limits) many, moved (λ ps. IsUnsafeOn tree ps options.limits) never)

  -- a build over the tree's past that answers no report
  pub unbuilt_by : (fault : RunFault) → ((n : ℕ) → fault ≡ build.Book n → ⊥) → (fault ≡ build.TooMany → NeedsTooMany tree request options.limits) →
      (fault ≡ build.TooMany → IsUnsafeOn tree request options.limits) → IsUnbuilt tree options (of_run fault)
  unbuilt_by (build.Book n) book many never = absurd (book n refl)
  unbuilt_by build.TooMany book many never = too_many_in (many refl) (never refl)
  unbuilt_by build.Memory book many never = tt

  -- a tree was built
  pub built : (report : Report) (book : List ℕ) (whole : Report) (exit : Exit) → IsWithBook report book whole →
      (is : IsResultOn tree request options.limits whole) → IsSoundOn tree request options.limits whole →
      IsExitOf is.0 exit → IsBuilt tree options report book exit
  built report book whole exit parts is sound good = record {
    given = is.0;
    is_given = moved (λ ps. IsGiven tree ps options.limits is.0) is.1;
    whole = whole;
    parts = parts;
    is = is.2;
    sound = sound is.0 is.1;
    good = good;
  }

-- what a search looked at is the list of the target's candidates
pub listed : (tree : Tree) (target : List ℕ) (found : Search) → found.missing.items ≡ missing_of tree target →
    option_map place_of found.chosen ≡ chosen_of tree target → search_text found ≡ candidate_text tree target
listed tree target found missing chosen = rw (missing, chosen) refl

pub found_some : {A B : Type 0} (f : A → B) (o : Option A) (p : Option B) (r : Bool) → option_map f o ≡ p → r ≡ is_some o → IsTrue r ↔ IsSome p
found_some f None p r e i = rw (← e, i) (search rules)
found_some f (Some x) p r e i = rw (← e, i) (search rules)

module _ (tree : Tree) (target : List ℕ) where
  -- a writer that fails in the list took a beginning of it
  pub explains_list : (A : Type 0) {E : Type 0} (f : E) (left old new : Option (List ℕ)) (written : List ℕ) →
      IfSome left (λ text. IsBundle text tree) → written ≡ candidate_text tree target → Writes {E = E} old new (Err f) written →
      IfSome left (λ text. ExplainsList {A = A} target text old new (Err run.Device))
  explains_list A f None old new written bundle made h = tt
  explains_list A f (Some text) old new written bundle made h = (tree, bundle, h.0, h.1, sym made ∙ h.2, h.3)

  -- the whole list was written
  pub lists : {A : Type 0} (f : A → Place) (o : Option A) (left old new : Option (List ℕ)) (written : List ℕ) (found : Bool) →
      IfSome left (λ text. IsBundle text tree) → written ≡ candidate_text tree target → Appends old new written →
      option_map f o ≡ chosen_of tree target → found ≡ is_some o → IfSome left (λ text. Lists target text old new found)
  lists f o None old new written found bundle made h chosen is = tt
  lists f o (Some text) old new written found bundle made h chosen is = record {
    tree = tree;
    bundle = bundle;
    written = subst (Appends old new) made h;
    chosen = found_some f o _ found chosen is;
  }

-- want of memory tells nothing of the text
pub nothing_told : {X : Type 0} (text : Option X) → IfSome text (λ _. Unit {0})
nothing_told None = tt
nothing_told (Some x) = tt

-- a report that is not written for want of memory leaves the writer as it was
pub untouched_by_write : {W : Type 0} (fault : WriteFault) (old new : W) → (fault ≡ write.Memory → new ≡ old) → IsUntouched {A = BundleRun} {W = W} (Err (of_write fault)) old new
untouched_by_write write.Device old new h = tt
untouched_by_write write.Memory old new h = h refl

-- a run's fault is that of a report which is not written
abbrev pub Unwritten : WriteFault → RunIoFault → Type 0
Unwritten fault told = ◌≡◌ {A = Result BundleRun RunIoFault} (Err (of_write fault)) (Err told)

-- a report that is not written tells of no failure of the reader, where there was none
pub no_read_by_write : (fault : WriteFault) (failed : Bool) → (failed ≡ true → ⊥) →
    (Unwritten fault (run.Bundle bundle.Read) → failed ≡ true) ×
    (failed ≡ true → Unwritten fault (run.Bundle bundle.Read))
no_read_by_write write.Device failed h = (λ e. absurd cc, λ e. absurd (h e))
no_read_by_write write.Memory failed h = (λ e. absurd cc, λ e. absurd (h e))

-- it tells of a failure of the writer exactly where there was one
pub device_by_write : (fault : WriteFault) (failed : Bool) → (fault ≡ write.Device → failed ≡ true) →
    (failed ≡ true → fault ≡ write.Device) →
    (Unwritten fault run.Device → failed ≡ true) ×
    (failed ≡ true → Unwritten fault run.Device)
device_by_write write.Device failed to from = (λ e. to refl, λ e. refl)
device_by_write write.Memory failed to from = (λ e. absurd cc, λ e. absurd (let is = from e in cc))

-- it is no bundle's want of memory
pub no_memory_by_write : (fault : WriteFault) → Unwritten fault (run.Bundle bundle.Memory) → ⊥
no_memory_by_write write.Device e = cc
no_memory_by_write write.Memory e = cc
