-- What a run over a directory comes to, step by step.
use Rattle.std.proofs.Common.{◌≡◌, ◌∙◌, ℕ, Bool, true, List, inl, inr, refl, sym, ap, subst, Option, Some, None}
use Rattle.std.specs.Prelude.{IfErr, IfOk, Result, Ok, Err, option_and_then}
use Rattle.std.specs.Arc.{arc_value}
use Rattle.std.specs.declared.io.ErrorKind.{ErrorKind}
use Rattle.redo_dir.specs.Loaded.{IsLoaded, Leads, Looks, ReadIf, Reads, wants}
use Rattle.redo_dir.specs.declared.contents.Wanted.{Wanted}
use Rattle.redo_dir.proofs.LoadLemmas.{whole}
use Rattle.redo_dir.specs.Stored.{Step}
use Rattle.redo_mend.specs.Mended.{MendsTo}
use Rattle.redo_past.specs.Past.{IsPast, PastView}
use Rattle.redo_path.proofs.ApartLemmas.{apart}
use Rattle.redo_reads.specs.Reads.{AgreeOn, AreNamedAlike, HasChecked, IsCovered}
use Rattle.redo_report.specs.declared.report.Report.{Report}
use Rattle.redo_tree.specs.Tree.{Directory, File, IsTree, Node, Tree, bytes_of, file_at, kind_of, node_at}
use Rattle.redo_tree.proofs.KeptLemmas.{one_sorted}
use Rattle.redo_run.specs.Directories.{AreFilesOrNone, Decides, FallsInPreview, IsBuilt, IsFaultOf, IsUnread, Ran, steps_of}
use Rattle.redo_run.specs.Directories.{to_build}
use Rattle.redo_run.specs.Reading.{HasMended, HasRead, MendsAlike}
use Rattle.redo_run.specs.Storing.{clearing, storing, to_store}
use Rattle.redo_run.specs.inside.Foreseen.{IsCoveredBy, IsDecided, IsForeseen, IsLoadedAnd, IsUnforeseen, IsUnforeseenOver}
use Rattle.redo_run.specs.inside.Foreseen.{IsUnloadedOr}
use Rattle.redo_run.specs.inside.Storing.{IsPart}
use Rattle.redo_run.specs.declared.dir_fault.RunDirFault.{RunDirFault}
use Rattle.redo_run.specs.declared.dir_fault.RunDirFault.TheVariants.{Load, Book, TooMany, Store, Journal, Left, Memory}
use Rattle.redo_run.specs.declared.exit.Exit.{Exit}
use Rattle.redo_run.specs.declared.foreseen.Foreseen.{Foreseen}
use Rattle.redo_run.specs.declared.options.Options.{Options}
use Rattle.redo_run.proofs.MendingLemmas.{mended_tree}

-- ---- faults

-- what each fault of a directory's build says
module _ (lists : List ℕ → List (Option (List ℕ)) → Type 0) (looks : Looks) (reads : Reads) (refuses : List ℕ → ErrorKind → Type 0) (options : Options) where
  pub unread : (fault : RunDirFault) → IsUnread lists looks reads refuses fault → IsUnforeseen lists looks reads refuses options fault
  unread Load h = h
  unread Memory h = tt
  unread _ h = absurd h

  unforeseen_over : (loaded : Tree) (passed : ℕ) (fault : RunDirFault) → IsLoaded lists (Leads looks reads) loaded passed → IsUnforeseenOver options loaded fault → IsUnforeseen lists looks reads refuses options fault
  unforeseen_over loaded passed (Book n) l h = record { loaded = loaded; passed = passed; is_loaded = l; why = h }
  unforeseen_over loaded passed TooMany l h = record { loaded = loaded; passed = passed; is_loaded = l; why = h }
  unforeseen_over loaded passed Memory l h = tt
  unforeseen_over loaded passed _ l (inl h) = absurd h
  unforeseen_over loaded passed _ l (inr h) = absurd h.2

  -- where all files were read
  pub unforeseen_all : (wanted : Wanted) (fault : RunDirFault) → wanted.all ≡ true → IsUnloadedOr lists looks (wants wanted) reads refuses options fault → IsUnforeseen lists looks reads refuses options fault
  unforeseen_all wanted fault all (inl h) = unread fault h
  unforeseen_all wanted fault all (inr (loaded, passed, l, why)) =
      unforeseen_over loaded passed fault (whole lists looks reads refuses wanted all loaded passed l) why

  -- where some were, and it is no fault of the tree
  pub unread_part : (paths : List ℕ → Bool) → IsUnloadedOr lists looks paths reads refuses options Load → IsUnread lists looks reads refuses Load
  unread_part paths (inl h) = h
  unread_part paths (inr (loaded, passed, l, inl why)) = absurd why
  unread_part paths (inr (loaded, passed, l, inr why)) = absurd why.2

  -- a run that stores nothing tells the same
  pub in_preview : (lacks : List ℕ → Type 0) (fault : RunDirFault) → IsUnforeseen lists looks reads refuses options fault → FallsInPreview lists looks reads lacks refuses options fault
  in_preview lacks Load h = h
  in_preview lacks (Book n) h = h
  in_preview lacks TooMany h = h
  in_preview lacks Memory h = tt
  in_preview lacks _ h = absurd h

-- what was read, built and stored, and what each fault says of it
module _ (lists : List ℕ → List (Option (List ℕ)) → Type 0) (looks : Looks) (reads : Reads) (lacks : List ℕ → Type 0) (refuses : List ℕ → ErrorKind → Type 0) (told : List ℕ → ErrorKind → Type 0) (options : Options) (before : List Step) where
  -- none is done before the build has answered
  pub unforeseen : (fault : RunDirFault) → IsUnforeseen lists looks reads refuses options fault → IsFaultOf lists looks reads lacks refuses told options before before fault
  unforeseen Load h = (h, refl)
  unforeseen (Book n) h = (h, refl)
  unforeseen TooMany h = (h, refl)
  unforeseen Memory h = inl refl
  unforeseen _ h = absurd h

  pub undone_fault : (r : Ran lists looks reads lacks options) (after : List Step) (fault : RunDirFault) → IsPart told (clearing r.loaded r.mended) (storing r.mended (to_store r.mended r.report.files.items r.book)) before after fault → IsFaultOf lists looks reads lacks refuses told options before after fault
  undone_fault r after (Store place) h = (r, h)
  undone_fault r after Journal h = (r, h)
  undone_fault r after Left h = (r, h.0, h.1, h.2)
  undone_fault r after Memory h = inr (r, h.0, h.1)
  undone_fault r after _ h = absurd h

-- ---- what is decided by what was read

-- what is at a path is known by its kind and its file
one_node : (m n : Option Node) → kind_of m ≡ kind_of n → option_and_then bytes_of m ≡ option_and_then bytes_of n → m ≡ n
one_node None None k f = refl
one_node None (Some Directory) k f = apart cc
one_node None (Some (File bytes)) k f = apart cc
one_node (Some Directory) None k f = apart cc
one_node (Some Directory) (Some Directory) k f = refl
one_node (Some Directory) (Some (File bytes)) k f = apart cc
one_node (Some (File bytes)) None k f = apart cc
one_node (Some (File bytes)) (Some Directory) k f = apart cc
one_node (Some (File bytes)) (Some (File others)) k f = let same : bytes ≡ others = cc in ap (λ b. Some (File b)) same

-- trees with the same names and the same files are one
pub same_tree : (one two : Tree) → IsTree one → IsTree two → AreNamedAlike one two → ((p : List ℕ) → file_at two p ≡ file_at one p) → two ≡ one
same_tree one two is_one is_two alike same = one_sorted two one is_two.sorted is_one.sorted (λ p. one_node (node_at two p) (node_at one p) (alike p) (same p))

module _ (lists : List ℕ → List (Option (List ℕ)) → Type 0) (looks : Looks) (reads : Reads) (lacks : List ℕ → Type 0) (options : Options) (f : Foreseen) where
  -- all files decide
  pub decided_all : (wanted : Wanted) → wanted.all ≡ true → IsLoadedAnd lists looks (ReadIf (wants wanted) reads) lacks options f → IsDecided lists looks reads lacks options f
  decided_all wanted all (loaded, l, own, is) =
      let report = f.run.report in let book = f.run.book in let exit = f.run.exit in
      let Is : Tree → Type 0 = λ tree. (mended : Tree) × MendsTo tree mended × IsBuilt (to_build options mended) options report book exit × (steps_of tree mended report book ≡ steps_of loaded (arc_value f.mended) report book) in
      record {
        paths = wants wanted;
        loaded = loaded;
        is_loaded = l;
        own = own;
        foreseen = is;
        decides = λ tree is_tree alike agree.
            let same = same_tree loaded tree is.is_tree is_tree alike (λ p. agree p (rw all refl)) in
            subst Is (sym same) (arc_value f.mended, is.mends, is.built, refl);
      }

-- what the laws say
abbrev Mends : Type 0
Mends = (one two mended : Tree) (paths : List ℕ → Bool) → IsTree one → IsTree two → AreNamedAlike one two →
    AgreeOn paths one two → HasMended paths one → MendsTo one mended → (other : Tree) × MendsAlike paths mended two other

abbrev Builds : Type 0
Builds = (one two : Tree) (paths : List ℕ → Bool) (options : Options) (report : Report) (book : List ℕ) (exit : Exit) →
    IsTree one → IsTree two → AreNamedAlike one two → AgreeOn paths one two →
    HasRead paths one options report book exit → IsBuilt (to_build options two) options report book exit

abbrev Steps : Type 0
Steps = (one two mended other : Tree) (paths : List ℕ → Bool) (options : Options) (report : Report) (book : List ℕ)
    (exit : Exit) → IsTree one → IsTree two → AreNamedAlike one two → AgreeOn paths one two → HasMended paths one →
    MendsAlike paths mended two other → HasRead paths mended options report book exit →
    steps_of two other report book ≡ steps_of one mended report book

abbrev OnePast : Type 0
OnePast = (past other : PastView) → IsPast past → IsPast other → past.tree ≡ other.tree → past ≡ other

module _ (mends : Mends) (builds : Builds) (steps : Steps) (one_past : OnePast) (options : Options) (paths : List ℕ → Bool) (f : Foreseen) (loaded : Tree) (passed : ℕ) (is : IsForeseen options loaded passed f) (c : IsCoveredBy paths f) (has : HasMended paths loaded) where
  abbrev mended : Tree
  mended = arc_value f.mended

  built : IsBuilt (to_build options mended) options f.run.report f.run.book f.run.exit
  built = is.built

  past : built.given.past ≡ f.run.past
  past = one_past built.given.past f.run.past built.is_given.of_tree.is_past is.past.is_past (built.is_given.of_tree.of_tree ∙ sym is.past.of_tree)

  read : HasRead paths mended options f.run.report f.run.book f.run.exit
  read = record {
    built = built;
    has_book = subst (λ (q : PastView). HasChecked paths (to_build options mended) q.book f.run.report) (sym past) (subst (λ (t : Tree). HasChecked paths t f.run.past.book f.run.report) is.past.of_tree c.book);
    has_rows = subst (λ (q : PastView). IsCovered paths q.sources f.run.report) (sym past) c.rows;
    has_places = c.places;
  }

  covered_decides : Decides paths options loaded f.run.report f.run.book f.run.exit (steps_of loaded mended f.run.report f.run.book)
  covered_decides tree is_tree alike agree =
      let there : (other : Tree) × MendsAlike paths mended tree other = mends loaded tree mended paths is.is_tree is_tree alike agree has is.mends in (
        there.0,
        there.1.mends,
        builds mended there.0 paths options f.run.report f.run.book f.run.exit (mended_tree loaded mended is.is_tree is.mends) there.1.is_tree there.1.named there.1.agrees read,
        steps loaded tree mended there.0 paths options f.run.report f.run.book f.run.exit is.is_tree is_tree alike agree has there.1 read,
      )

-- the files that were read decide, if they are all that was looked into
pub decided_part : Mends → Builds → Steps → OnePast → (lists : List ℕ → List (Option (List ℕ)) → Type 0) (looks : Looks) (reads : Reads) (lacks : List ℕ → Type 0) (options : Options) (f : Foreseen) (paths : List ℕ → Bool) (loaded : Tree) (passed : ℕ) → IsCoveredBy paths f → HasMended paths loaded → IsLoaded lists (Leads looks (ReadIf paths reads)) loaded passed → AreFilesOrNone lacks loaded → IsForeseen options loaded passed f → IsDecided lists looks reads lacks options f
decided_part mends builds steps one_past lists looks reads lacks options f paths loaded passed c has l own is = record {
  paths = paths;
  loaded = loaded;
  is_loaded = subst (IsLoaded lists (Leads looks (ReadIf paths reads)) loaded) (sym is.counted) l;
  own = own;
  foreseen = subst (λ n. IsForeseen options loaded n f) (sym is.counted) is;
  decides = covered_decides mends builds steps one_past options paths f loaded passed is c has;
}

-- ---- a round

module _ (lists : List ℕ → List (Option (List ℕ)) → Type 0) (looks : Looks) (paths : List ℕ → Bool) (reads : Reads) (refuses : List ℕ → ErrorKind → Type 0) (options : Options) (loaded : Tree) (passed later : ℕ) (same : later ≡ passed) (l : IsLoaded lists (Leads looks (ReadIf paths reads)) loaded passed) where
  -- what is foreseen of the tree that was loaded
  pub attempted : (lacks : List ℕ → Type 0) → AreFilesOrNone lacks loaded → (result : Result Foreseen RunDirFault) → IfOk result (IsForeseen options loaded later) → IfOk result (IsLoadedAnd lists looks (ReadIf paths reads) lacks options)
  attempted lacks own (Ok f) is = (
    loaded,
    subst (IsLoaded lists (Leads looks (ReadIf paths reads)) loaded) (sym (is.counted ∙ same)) l,
    own,
    subst (λ n. IsForeseen options loaded n f) (sym is.counted) is,
  )
  attempted lacks own (Err fault) is = tt

  pub not_attempted : (result : Result Foreseen RunDirFault) → IfErr result (IsUnforeseenOver options loaded) → IfErr result (IsUnloadedOr lists looks paths reads refuses options)
  not_attempted (Ok f) h = tt
  not_attempted (Err fault) h = inr (loaded, passed, l, h)

-- the last round
module _ (lists : List ℕ → List (Option (List ℕ)) → Type 0) (looks : Looks) (reads : Reads) (refuses : List ℕ → ErrorKind → Type 0) (options : Options) (wanted : Wanted) (all : wanted.all ≡ true) where
  pub attempted_all : (lacks : List ℕ → Type 0) (result : Result Foreseen RunDirFault) → IfOk result (IsLoadedAnd lists looks (ReadIf (wants wanted) reads) lacks options) → IfOk result (IsDecided lists looks reads lacks options)
  attempted_all lacks (Ok f) is = decided_all lists looks reads lacks options f wanted all is
  attempted_all lacks (Err fault) is = tt

  pub not_attempted_all : (result : Result Foreseen RunDirFault) → IfErr result (IsUnloadedOr lists looks (wants wanted) reads refuses options) → IfErr result (IsUnforeseen lists looks reads refuses options)
  not_attempted_all (Ok f) h = tt
  not_attempted_all (Err fault) h = unforeseen_all lists looks reads refuses options wanted fault all h
