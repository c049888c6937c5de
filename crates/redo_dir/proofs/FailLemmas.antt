-- Why a directory wasn't read: a call was refused, or the names that were listed make no tree.
use Rattle.std.proofs.Common.{◌≡◌, ℕ, List, [], ◌∷◌, ◌++◌, refl, sym, subst, inl, Option}
use Rattle.std.specs.List.{AllByRecursion}
use Rattle.std.specs.Prelude.{IfErr, Result, Ok, Err}
use Rattle.std.specs.declared.io.ErrorKind.{ErrorKind}
use Rattle.std.specs.declared.io.ErrorKind.TheVariants.{OutOfMemory}
use Rattle.redo_path.proofs.ApartLemmas.{apart}
use Rattle.redo_tree.specs.Tree.{Node}
use Rattle.redo_dir.specs.declared.faults.LoadFault.{LoadFault}
use Rattle.redo_dir.specs.declared.faults.LoadFault.TheVariants.{Device, Memory}
use Rattle.redo_dir.specs.declared.looking.Name.{Name}
use Rattle.redo_dir.specs.Loaded.{IsRefusedBy, IsUnloaded, Looks, load_fault}
use Rattle.redo_dir.specs.inside.Contents.{IsRefusal}
use Rattle.redo_dir.specs.inside.Levels.{Breaks, BreaksIn, IsLooked, IsLookedAs}

-- the fault of a call that was refused
pub refused_call : (refuses : List ℕ → ErrorKind → Type 0) (path : List ℕ) (kind : ErrorKind) → refuses path kind → IsRefusedBy refuses (load_fault path kind)
refused_call refuses path OutOfMemory h = tt
refused_call refuses path kind h = h

-- a directory of which a call was refused isn't read
pub refused_load : (lists : List ℕ → List (Option (List ℕ)) → Type 0) (leads : List ℕ → Option Node → Type 0) (refuses : List ℕ → ErrorKind → Type 0) (fault : LoadFault) → IsRefusedBy refuses fault → IsUnloaded lists leads refuses fault
refused_load lists leads refuses (Device path kind) h = inl h
refused_load lists leads refuses Memory h = tt

-- a call was refused where its fault is no lack of memory
pub refused_at : (refuses : List ℕ → ErrorKind → Type 0) (path place : List ℕ) (kind told : ErrorKind) → load_fault path kind ≡ Device place told → IsRefusal refuses path kind → refuses place told
refused_at refuses path place OutOfMemory told e h = apart cc
refused_at refuses path place kind told e h =
    let at : path ≡ place = cc in let same : kind ≡ told = cc in
    subst (refuses place) same (subst (λ p. refuses p kind) at h)

-- a name that the system refused isn't received
pub breaks_call : (name : Name) (kind : ErrorKind) (fault : LoadFault) → name.seen ≡ Err kind → fault ≡ load_fault name.path kind → Breaks name fault
breaks_call name OutOfMemory fault e is = subst (Breaks name) (sym is) tt
breaks_call name kind fault e is = subst (Breaks name) (sym is) (e, refl)

looked_one : (looks : Looks) (refuses : List ℕ → ErrorKind → Type 0) (front rest : List Name) (name : Name) → AllByRecursion (IsLooked looks refuses) (front ++ name ∷ rest) → IsLooked looks refuses name
looked_one looks refuses [] rest name h = h.0
looked_one looks refuses (f ∷ fs) rest name h = looked_one looks refuses fs rest name h.1

-- a level stopped at a name that was refused
pub stopped : (looks : Looks) (refuses : List ℕ → ErrorKind → Type 0) (names : List Name) (fault : LoadFault) → AllByRecursion (IsLooked looks refuses) names → BreaksIn names fault → IsRefusedBy refuses fault
stopped looks refuses names Memory l b = tt
stopped looks refuses names (Device place kind) l (front, rest, name, are, breaks) =
    refused_at refuses name.path place kind kind breaks.1
    (subst (IsLookedAs looks refuses name.path) breaks.0 (looked_one looks refuses front rest name (subst (AllByRecursion (IsLooked looks refuses)) are l)))

pub stopped_names : (looks : Looks) (refuses : List ℕ → ErrorKind → Type 0) (names looked : List Name) (result : Result (Unit {0}) LoadFault) → names ≡ looked → AllByRecursion (IsLooked looks refuses) looked → IfErr result (BreaksIn names) → IfErr result (IsRefusedBy refuses)
stopped_names looks refuses names looked (Ok x) e l h = tt
stopped_names looks refuses names looked (Err fault) e l h = stopped looks refuses looked fault l (subst (λ ns. BreaksIn ns fault) e h)
