-- Files that meet their fates, one after another.
use Rattle.std.proofs.Common.{◌≡◌, ◌∙◌, ℕ, List, [], ◌∷◌, ◌++◌, Option, Some, ap, append_assoc, append-nil, length, map, refl, subst, sym, zero, suc}
use Rattle.std.proofs.Common.{inl, inr}
use Rattle.std.specs.Prelude.{slice_get}
use Rattle.std.specs.declared.io.ErrorKind.{ErrorKind}
use Rattle.redo_tree.specs.Tree.{Node}
use Rattle.redo_dir.specs.Stored.{Step}
use Rattle.redo_dir.specs.Storing.{IsUncleared, paths_to_clear}
use Rattle.redo_dir.specs.declared.faults.StoreFault.{StoreFault}
use Rattle.redo_dir.specs.declared.faults.StoreFault.TheVariants.{Device, Name, Memory}
use Rattle.redo_which.specs.Candidates.{book_path}
use Rattle.redo_clean.specs.Cleaned.{Answers, AnsweredWhile, MeetFates, HasFate, IsBrokenOff, IsCleaned, IsFront, IsUnclean, book_removal, clearing, removal, removals}
use Rattle.redo_clean.specs.inside.Files.{IsFault, IsFaultAt, IsLeftFault}
use Rattle.redo_clean.specs.declared.faults.CleanFault.{CleanFault}
use Rattle.redo_clean.specs.declared.faults.CleanFault.TheVariants as faults
use Rattle.redo_clean.specs.declared.planning.CleanPlan.{CleanPlan}
use Rattle.redo_clean.specs.Planned.{File}
use Rattle.redo_clean.specs.declared.fate.Fate.{Fate}
use Rattle.redo_clean.specs.declared.fate.Fate.TheVariants.{Removed, Changed, NoFile, Gone}

-- what a directory answers is answered while it has its log
pub fate-while : {D : Type 0} (done : D → List Step) (leads : D → List ℕ → Option Node → Type 0) (refuses : D → List ℕ → ErrorKind → Type 0) (d : D) (log : List Step) (f : File) (x : Fate) → done d ≡ log → HasFate (leads d) (refuses d) f x → HasFate (AnsweredWhile done leads log) (AnsweredWhile done refuses log) f x
fate-while done leads refuses d log f Removed e h = (d, e, h)
fate-while done leads refuses d log f Changed e (bytes, h, other) = (bytes, (d, e, h), other)
fate-while done leads refuses d log f NoFile e (inl h) = inl (d, e, h)
fate-while done leads refuses d log f NoFile e (inr h) = inr (d, e, h)
fate-while done leads refuses d log f Gone e h = (d, e, h)

pub met-none : (leads : Answers (Option Node)) (refuses : Answers ErrorKind) (log : List Step) (fs : List File) → MeetFates leads refuses log fs []
met-none leads refuses log [] = refl
met-none leads refuses log (f ∷ fs) = tt

pub removals-none : (fs : List File) → removals fs [] ≡ []
removals-none [] = refl
removals-none (f ∷ fs) = refl

-- one more file met its fate
pub met-more : (leads : Answers (Option Node)) (refuses : Answers ErrorKind) (log : List Step) (fs : List File) (xs : List Fate) (f : File) (x : Fate) → slice_get fs (length xs) ≡ Some f → MeetFates leads refuses log fs xs → HasFate (leads (log ++ removals fs xs)) (refuses (log ++ removals fs xs)) f x → MeetFates leads refuses log fs (xs ++ x ∷ [])
met-more leads refuses log [] xs f x at met here = cc
met-more leads refuses log (g ∷ fs) [] f x at met here =
    let same : f ≡ g = cc in
    let At : File → List Step → Type 0 = λ h l. HasFate (leads l) (refuses l) h x in
    (subst (λ h. At h log) same (subst (At f) (append-nil log) here), met-none leads refuses (log ++ removal g x) fs)
met-more leads refuses log (g ∷ fs) (y ∷ ys) f x at (first, rest) here =
    let At : List Step → Type 0 = λ l. HasFate (leads l) (refuses l) f x in
    (first, met-more leads refuses (log ++ removal g y) fs ys f x at rest (subst At (sym (append_assoc log (removal g y) (removals fs ys))) here))

pub removals-more : (fs : List File) (xs : List Fate) (f : File) (x : Fate) → slice_get fs (length xs) ≡ Some f → removals fs (xs ++ x ∷ []) ≡ removals fs xs ++ removal f x
removals-more [] xs f x at = cc
removals-more (g ∷ fs) [] f x at =
    let same : g ≡ f = cc in
    ap (λ ss. removal g x ++ ss) (removals-none fs) ∙ append-nil (removal g x) ∙ ap (λ h. removal h x) same
removals-more (g ∷ fs) (y ∷ ys) f x at =
    ap (λ ss. removal g y ++ ss) (removals-more fs ys f x at) ∙ sym (append_assoc (removal g y) (removals fs ys) (removal f x))

-- the fault of a call that was refused is one at its place
pub fault-at : (told : List ℕ → ErrorKind → Type 0) (paths : List (List ℕ)) (n : ℕ) (path : List ℕ) (kind : ErrorKind) (fault : CleanFault) → IsFault fault path kind → slice_get paths n ≡ Some path → told path kind → IsFaultAt told paths n fault
fault-at told paths n path kind (faults.Left fault) is at h = absurd is
fault-at told paths n path kind (faults.Device other why) (same, alike) at h =
    (at ∙ ap Some (sym same), subst (λ k. told other k) (sym alike) (subst (λ p. told p kind) (sym same) h))
fault-at told paths n path kind faults.Memory is at h = tt

-- a fault of which less is said
pub fault-by : (told said : List ℕ → ErrorKind → Type 0) (paths : List (List ℕ)) (n : ℕ) (fault : CleanFault) → ((p : List ℕ) (kind : ErrorKind) → told p kind → said p kind) → IsFaultAt told paths n fault → IsFaultAt said paths n fault
fault-by told said paths n (faults.Left fault) less is = absurd is
fault-by told said paths n (faults.Device path kind) less (at, h) = (at, less path kind h)
fault-by told said paths n faults.Memory less is = tt

-- the path of a file in its place
pub path-at : (fs : List File) (n : ℕ) (f : File) → slice_get fs n ≡ Some f → slice_get (map (λ g. g.0) fs) n ≡ Some f.0
path-at [] n f at = cc
path-at (g ∷ fs) zero f at = let same : g ≡ f = cc in ap (λ h. Some h.0) same
path-at (g ∷ fs) (suc n) f at = path-at fs n f at

-- what is said of a call that was refused may be less
pub uncleared-by : (told said : List ℕ → ErrorKind → Type 0) (paths : List (List ℕ)) (fault : StoreFault) → ((p : List ℕ) (kind : ErrorKind) → told p kind → said p kind) → IsUncleared told paths fault → IsUncleared said paths fault
uncleared-by told said paths (Device place kind) less (path, there, h) = (path, there, less path kind h)
uncleared-by told said paths (Name place) less h = h
uncleared-by told said paths (Memory place) less h = tt

get-front : (ps qs : List (List ℕ)) (n : ℕ) (p : List ℕ) → slice_get ps n ≡ Some p → slice_get (ps ++ qs) n ≡ Some p
get-front [] qs n p at = cc
get-front (x ∷ ps) qs zero p at = at
get-front (x ∷ ps) qs (suc n) p at = get-front ps qs n p at

get-end : (fs : List File) (p : List ℕ) → slice_get (map (λ f. f.0) fs ++ p ∷ []) (length fs) ≡ Some p
get-end [] p = refl
get-end (f ∷ fs) p = get-end fs p

module _ (leads : Answers (Option Node)) (refuses : Answers ErrorKind) (plan : CleanPlan) (before : List Step) where
  abbrev pub files : List File
  files = plan.generated.items

  front : (mid after : List Step) (fates : List Fate) → mid ≡ before ++ clearing plan → MeetFates leads refuses mid files fates → after ≡ mid ++ removals files fates → IsFront leads refuses plan before after fates
  front mid after fates m met log = record {
    met = subst (λ l. MeetFates leads refuses l files fates) m met;
    log = log ∙ ap (λ l. l ++ removals files fates) m;
  }

  -- all was cleaned
  pub all-cleaned : (mid last after : List Step) (fates : List Fate) → mid ≡ before ++ clearing plan → MeetFates leads refuses mid files fates → length fates ≡ length files → last ≡ mid ++ removals files fates → after ≡ last ++ book_removal plan.book → IsCleaned leads refuses plan before after fates
  all-cleaned mid last after fates m met all log book = record {
    met = subst (λ l. MeetFates leads refuses l files fates) m met;
    all = all;
    log = book ∙ ap (λ l. l ++ book_removal plan.book) (log ∙ ap (λ l. l ++ removals files fates) m);
  }

  -- a call was refused at a file, or memory ran out
  pub broken-at-file : (mid after : List Step) (fates : List Fate) (fault : CleanFault) → mid ≡ before ++ clearing plan → MeetFates leads refuses mid files fates → after ≡ mid ++ removals files fates → IsFaultAt (refuses after) (map (λ f. f.0) files) (length fates) fault → IsBrokenOff leads refuses plan before after fates fault
  broken-at-file mid after fates (faults.Left fault) m met log is = absurd is
  broken-at-file mid after fates (faults.Device path kind) m met log (at, told) =
      (front mid after fates m met log, get-front (map (λ f. f.0) files) (book_path ∷ []) (length fates) path at, told)
  broken-at-file mid after fates faults.Memory m met log is = front mid after fates m met log

  -- the same at the book
  pub broken-at-book : (mid last after : List Step) (fates : List Fate) (fault : CleanFault) → mid ≡ before ++ clearing plan → MeetFates leads refuses mid files fates → length fates ≡ length files → last ≡ mid ++ removals files fates → after ≡ last → IsFaultAt (refuses last) (book_path ∷ []) 0 fault → IsBrokenOff leads refuses plan before after fates fault
  broken-at-book mid last after fates (faults.Left fault) m met all log same is = absurd is
  broken-at-book mid last after fates (faults.Device path kind) m met all log same (at, told) =
      let is : book_path ≡ path = cc in
      let end : slice_get (map (λ f. f.0) files ++ book_path ∷ []) (length fates) ≡ Some book_path = subst (λ n. slice_get (map (λ f. f.0) files ++ book_path ∷ []) n ≡ Some book_path) (sym all) (get-end files book_path) in
      (front mid after fates m met (same ∙ log), end ∙ ap Some is, subst (λ l. refuses l path kind) (sym same) told)
  broken-at-book mid last after fates faults.Memory m met all log same is = front mid after fates m met (same ∙ log)

  -- what is left couldn't be cleared away
  pub broken-at-left : (told : List ℕ → ErrorKind → Type 0) (after : List Step) (fates : List Fate) (fault : CleanFault) → fates ≡ [] → ((p : List ℕ) (kind : ErrorKind) → told p kind → (log : List Step) × refuses log p kind) → IsLeftFault (IsUnclean told plan before after) fault → IsBrokenOff leads refuses plan before after fates fault
  broken-at-left told after fates (faults.Left fault) none less is = (
    none,
    record {
      left = is.left;
      is_left = is.is_left;
      why = uncleared-by told (λ path kind. (log : List Step) × refuses log path kind) (paths_to_clear is.left.book is.left.own.items) fault less is.why;
      log = is.log;
    },
  )
  broken-at-left told after fates (faults.Device path kind) none less is = absurd is
  broken-at-left told after fates faults.Memory none less is = absurd is
