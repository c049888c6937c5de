-- What was found in a directory, and what was read of it, make the tree that the directory holds.
use Rattle.std.proofs.Common.{◌≡◌, ◌+◌, ◌-◌, ◌^◌, ℕ, Bool, true, false, List, [], ◌∷◌, ◌++◌, refl, sym, ap, subst, ◌∙◌, inl, inr}
use Rattle.std.proofs.Common.{Option, Some, None, append-nil, ◌<◌, length, map, slice_index_or, suc, take, true≢false, zero}
use Rattle.std.proofs.lemmas.List.{map-append, take_more}
use Rattle.std.specs.List.{AllByRecursion, AllZip}
use Rattle.std.specs.Prelude.{IfErr, IfOk, IsUtf8, Result, Ok, Err, count_by, is_none, min, slice_get}
use Rattle.std.specs.declared.io.ErrorKind.{ErrorKind}
use Rattle.std.specs.declared.io.ErrorKind.TheVariants.{OutOfMemory}
use Rattle.redo_path.proofs.ApartLemmas.{apart}
use Rattle.redo_tree.specs.Tree.{Node, Directory, File, Tree, added, grown, top}
use Rattle.redo_dir.specs.declared.contents.Place.{Place}
use Rattle.redo_dir.specs.declared.contents.Wanted.{Wanted}
use Rattle.redo_dir.specs.declared.faults.LoadFault.{LoadFault}
use Rattle.redo_dir.specs.declared.faults.LoadFault.TheVariants.{Device, Memory}
use Rattle.redo_dir.specs.Loaded.{ComesTo, HasTextPaths, IsListed, IsLoaded, IsRefusedBy, IsUnloaded, Leads, Looks}
use Rattle.redo_dir.specs.Loaded.{LooksLike, ReadIf, Reads, Unread, directories, entries_of, found_at, found_dirs, found_in, load_fault, names_of, wants}
use Rattle.redo_dir.specs.inside.Contents.{IsFilled, IsFilledAs, IsReadAs, MakesNoTree, Refuses, WasAnswered, WasRefusedIn}
use Rattle.redo_dir.specs.inside.Contents.{entry_of, node_for}
use Rattle.redo_dir.proofs.FailLemmas.{refused_at}
use Rattle.redo_dir.proofs.ListingLemmas.{grown-none, grown-on, grown-one, nones-append}
use Rattle.redo_dir.proofs.TextLemmas.{text-grown}

-- ---- entries of places

-- what names came to, with what was read at the places
filled : List (Option (List ℕ × Option ℕ)) → List Place → List (Option (List ℕ × Node))
filled [] ps = []
filled (None ∷ bs) ps = None ∷ filled bs ps
filled (Some b ∷ bs) [] = []
filled (Some b ∷ bs) (p ∷ ps) = Some (entry_of p) ∷ filled bs ps

entries-filled : (bs : List (Option (List ℕ × Option ℕ))) (ps : List Place) → entries_of bs ≡ found_in ps → entries_of (filled bs ps) ≡ map entry_of ps
unfolding filled
entries-filled [] [] e = refl
entries-filled [] (p ∷ ps) e = apart cc
entries-filled (None ∷ bs) ps e = entries-filled bs ps e
entries-filled (Some b ∷ bs) [] e = apart cc
entries-filled (Some b ∷ bs) (p ∷ ps) e =
    let rest : entries_of bs ≡ found_in ps = cc in
    ap (λ es. entry_of p ∷ es) (entries-filled bs ps rest)

nones-filled : (bs : List (Option (List ℕ × Option ℕ))) (ps : List Place) → entries_of bs ≡ found_in ps → count_by is_none (filled bs ps) ≡ count_by is_none bs
unfolding filled
nones-filled [] ps e = refl
nones-filled (None ∷ bs) ps e =
    nones-append (None ∷ []) (filled bs ps) ∙ ap (λ n. 1 + n) (nones-filled bs ps e) ∙ sym (nones-append (None ∷ []) bs)
nones-filled (Some b ∷ bs) [] e = apart cc
nones-filled (Some b ∷ bs) (p ∷ ps) e =
    let rest : entries_of bs ≡ found_in ps = cc in
    nones-filled bs ps rest

dirs-filled : (ps : List Place) → directories (map entry_of ps) ≡ found_dirs (found_in ps)
dirs-filled [] = refl
dirs-filled (p ∷ ps) =
    (elim p.size as (λ (size : Option ℕ). directories ((p.path, node_for size p.content) ∷ map entry_of ps) ≡ found_dirs ((p.path, size) ∷ found_in ps)) [
      | None ↦ ap (λ ds. p.path ∷ ds) (dirs-filled ps)
      | Some size ↦ dirs-filled ps
    ])

texts-filled : (ps : List Place) → HasTextPaths (found_in ps) → AllByRecursion (λ (e : List ℕ × Node). IsUtf8 e.0) (map entry_of ps)
texts-filled [] h = tt
texts-filled (p ∷ ps) h = (h.0, texts-filled ps h.1)

-- ---- one place

module _ (looks : Looks) (reads : Reads) (refuses : List ℕ → ErrorKind → Type 0) (wants : List ℕ → Bool) where
  leads-node : (path : List ℕ) (size : Option ℕ) (content : Option (List ℕ)) → LooksLike looks path (Some size) → IsReadAs wants reads path size content → Leads looks (ReadIf wants reads) path (Some (node_for size (Ok content)))
  leads-node path None content l r = l
  leads-node path (Some size) content l r = (size, l, r)

  leads-place : (place : Place) → LooksLike looks place.path (Some place.size) → IsFilled wants reads refuses place → WasAnswered place → Leads looks (ReadIf wants reads) place.path (Some (node_for place.size place.content))
  leads-place place l f (content, is) =
      subst (λ c. Leads looks (ReadIf wants reads) place.path (Some (node_for place.size c))) (sym is)
      (leads-node place.path place.size content l (subst (IsFilledAs wants reads refuses place.path place.size) is f))

  comes-to : (n : List ℕ × Option (List ℕ)) (b : List ℕ × Option ℕ) (place : Place) → found_at place ≡ b → ComesTo (LooksLike looks) n (Some b) → IsFilled wants reads refuses place → WasAnswered place → ComesTo (Leads looks (ReadIf wants reads)) n (Some (entry_of place))
  comes-to (dir, None) b place e c f a = absurd c
  comes-to (dir, Some name) b place e c f a =
      let path : place.path ≡ b.0 = ap (λ x. x.0) e in
      let size : place.size ≡ b.1 = ap (λ x. x.1) e in
      let like : LooksLike looks place.path (Some place.size) =
      subst (λ s. LooksLike looks place.path (Some s)) (sym size) (subst (λ x. LooksLike looks x (Some b.1)) (sym path) c.2) in
      (c.0, path ∙ c.1, leads-place place like f a)

  comes-past : (n : List ℕ × Option (List ℕ)) → ComesTo (LooksLike looks) n None → ComesTo (Leads looks (ReadIf wants reads)) n None
  comes-past (dir, None) c = c
  comes-past (dir, Some name) c = c

  each-filled : (ns : List (List ℕ × Option (List ℕ))) (bs : List (Option (List ℕ × Option ℕ))) (ps : List Place) → entries_of bs ≡ found_in ps → AllZip (ComesTo (LooksLike looks)) ns bs → AllByRecursion (IsFilled wants reads refuses) ps → AllByRecursion WasAnswered ps → AllZip (ComesTo (Leads looks (ReadIf wants reads))) ns (filled bs ps)
  unfolding filled
  each-filled [] [] ps e z f a = tt
  each-filled [] (b ∷ bs) ps e z f a = absurd z
  each-filled (n ∷ ns) [] ps e z f a = absurd z
  each-filled (n ∷ ns) (None ∷ bs) ps e z f a = (comes-past n z.0, each-filled ns bs ps e z.1 f a)
  each-filled (n ∷ ns) (Some b ∷ bs) [] e z f a = apart cc
  each-filled (n ∷ ns) (Some b ∷ bs) (p ∷ ps) e z f a =
      let one : found_at p ≡ b = cc in
      let rest : entries_of bs ≡ found_in ps = cc in
      (comes-to n b p one z.0 f.0 a.0, each-filled ns bs ps rest z.1 f.1 a.1)

  -- ---- the tree

  module _ (lists : List ℕ → List (Option (List ℕ)) → Type 0) (found : List (List ℕ × Option ℕ)) (passed : ℕ) (l : IsListed lists looks found passed) (ps : List Place) (same : found_in ps ≡ found) (f : AllByRecursion (IsFilled wants reads refuses) ps) (a : AllByRecursion WasAnswered ps) where
    are : entries_of l.became ≡ found_in ps
    are = l.are ∙ sym same

    each : AllZip (ComesTo (Leads looks (ReadIf wants reads))) (names_of l.read) (filled l.became ps)
    each = each-filled (names_of l.read) l.became ps are l.each f a

    pub loaded : (tree : Tree) → grown top (map entry_of ps) ≡ Ok tree → IsLoaded lists (Leads looks (ReadIf wants reads)) tree passed
    loaded tree g = record {
      read = l.read;
      answered = l.answered;
      became = filled l.became ps;
      each = each;
      below = l.below ∙ ap (λ ds. [] ∷ ds) (sym (ap directories (entries-filled l.became ps are) ∙ dirs-filled ps ∙ ap found_dirs same));
      grows = ap (grown top) (entries-filled l.became ps are) ∙ g;
      counts = l.counts ∙ ap (λ n. min n (2 ^ 64 - 1)) (sym (nones-filled l.became ps are));
    }

    pub unmade : (fault : LoadFault) → MakesNoTree (map entry_of ps) fault → IsUnloaded lists (Leads looks (ReadIf wants reads)) refuses fault
    unmade Memory h = tt
    unmade (Device path kind) (invalid, fault, fails) = inr (
      invalid,
      record {
        read = l.read;
        answered = l.answered;
        before = names_of l.read;
        after = [];
        listed = sym (append-nil (names_of l.read));
        became = filled l.became ps;
        each = each;
        fault = fault;
        fails = ap (grown top) (entries-filled l.became ps are) ∙ fails;
      },
    )

-- the paths of a tree are text as what was found is
pub loaded_text : (ps : List Place) (found : List (List ℕ × Option ℕ)) (tree : Tree) → found_in ps ≡ found → HasTextPaths found → grown top (map entry_of ps) ≡ Ok tree → HasTextPaths tree
loaded_text ps found tree same h g = text-grown (map entry_of ps) top tree (([], (refl, refl)), tt) (texts-filled ps (subst HasTextPaths (sym same) h)) g

-- ---- faults

filled-at : (wants : List ℕ → Bool) (reads : Reads) (refuses : List ℕ → ErrorKind → Type 0) (ps : List Place) (n : ℕ) (place : Place) → slice_get ps n ≡ Some place → AllByRecursion (IsFilled wants reads refuses) ps → IsFilled wants reads refuses place
filled-at wants reads refuses [] n place e f = absurd (let no : None ≡ Some place = e in cc)
filled-at wants reads refuses (p ∷ ps) zero place e f = subst (IsFilled wants reads refuses) (let one : p ≡ place = cc in one) f.0
filled-at wants reads refuses (p ∷ ps) (suc n) place e f = filled-at wants reads refuses ps n place e f.1

pub unread : (wants : List ℕ → Bool) (reads : Reads) (refuses : List ℕ → ErrorKind → Type 0) (ps : List Place) (fault : LoadFault) → AllByRecursion (IsFilled wants reads refuses) ps → WasRefusedIn ps fault → IsRefusedBy refuses fault
unread wants reads refuses ps Memory f h = tt
unread wants reads refuses ps (Device path kind) f (n, place, at, is, told) =
    refused_at refuses place.path path kind kind told
    (subst (IsFilledAs wants reads refuses place.path place.size) is (filled-at wants reads refuses ps n place at f))

-- ---- other answers

module _ (lists : List ℕ → List (Option (List ℕ)) → Type 0) (leads others : List ℕ → Option Node → Type 0) (so : (path : List ℕ) (node : Option Node) → leads path node → others path node) where
  one-so : (n : List ℕ × Option (List ℕ)) (e : Option (List ℕ × Node)) → ComesTo leads n e → ComesTo others n e
  one-so (dir, None) None c = c
  one-so (dir, None) (Some e) c = absurd c
  one-so (dir, Some name) (Some e) c = (c.0, c.1, so e.0 (Some e.1) c.2)
  one-so (dir, Some name) None (inl c) = inl c
  one-so (dir, Some name) None (inr c) = inr (so _ None c)

  each-so : (ns : List (List ℕ × Option (List ℕ))) (es : List (Option (List ℕ × Node))) → AllZip (ComesTo leads) ns es → AllZip (ComesTo others) ns es
  each-so [] [] z = tt
  each-so [] (e ∷ es) z = absurd z
  each-so (n ∷ ns) [] z = absurd z
  each-so (n ∷ ns) (e ∷ es) z = (one-so n e z.0, each-so ns es z.1)

  -- a tree that was loaded by some answers was so by others that they imply
  pub loaded-so : (tree : Tree) (passed : ℕ) → IsLoaded lists leads tree passed → IsLoaded lists others tree passed
  loaded-so tree passed l = record {
    read = l.read;
    answered = l.answered;
    became = l.became;
    each = each-so (names_of l.read) l.became l.each;
    below = l.below;
    grows = l.grows;
    counts = l.counts;
  }

  pub unloaded-so : (refuses : List ℕ → ErrorKind → Type 0) (fault : LoadFault) → IsUnloaded lists leads refuses fault → IsUnloaded lists others refuses fault
  unloaded-so refuses Memory h = tt
  unloaded-so refuses (Device path kind) (inl h) = inl h
  unloaded-so refuses (Device path kind) (inr (invalid, c)) = inr (
    invalid,
    record {
      read = c.read;
      answered = c.answered;
      before = c.before;
      after = c.after;
      listed = c.listed;
      became = c.became;
      each = each-so c.before c.became c.each;
      fault = c.fault;
      fails = c.fails;
    },
  )

-- where all is read, or nothing
pub all-read : (looks : Looks) (reads : Reads) (wants : List ℕ → Bool) → ((p : List ℕ) → wants p ≡ true) → (path : List ℕ) (node : Option Node) → Leads looks (ReadIf wants reads) path node → Leads looks reads path node
all-read looks reads wants is path None l = l
all-read looks reads wants is path (Some Directory) l = l
all-read looks reads wants is path (Some (File bytes)) (size, l, inl r) = (size, l, r.1)
all-read looks reads wants is path (Some (File bytes)) (size, l, inr r) = absurd (true≢false (sym (is path) ∙ r.0))

pub none-read : (looks : Looks) (reads : Reads) (wants : List ℕ → Bool) → ((p : List ℕ) → wants p ≡ false) → (path : List ℕ) (node : Option Node) → Leads looks (ReadIf wants reads) path node → Leads looks Unread path node
none-read looks reads wants is path None l = l
none-read looks reads wants is path (Some Directory) l = l
none-read looks reads wants is path (Some (File bytes)) (size, l, inl r) = absurd (true≢false (sym r.0 ∙ is path))
none-read looks reads wants is path (Some (File bytes)) (size, l, inr r) = (size, l, r.1)

-- a file was refused at a place
pub told_refused : (ps : List Place) (n : ℕ) (place : Place) (kind : ErrorKind) (fault : LoadFault) → slice_get ps n ≡ Some place → place.content ≡ Err kind → fault ≡ load_fault place.path kind → WasRefusedIn ps fault
told_refused ps n place OutOfMemory fault at is told = subst (WasRefusedIn ps) (sym told) tt
told_refused ps n place kind fault at is told = subst (WasRefusedIn ps) (sym told) (n, place, at, is, refl)

-- the tree refused what was found at a place
pub told_clash : (ps : List Place) (n : ℕ) (place : Place) (tree : Tree) (fault : LoadFault) → slice_get ps n ≡ Some place → grown top (map entry_of (take n ps)) ≡ Ok tree → Refuses tree (entry_of place) fault → MakesNoTree (map entry_of ps) fault
told_clash ps n place tree Memory at made r = tt
told_clash ps n place tree (Device path kind) at made (invalid, fault, fails) =
    (invalid, fault, grown-none entry_of top tree ps n place fault at made fails)

-- a place more
pub grown_more : (ps : List Place) (n : ℕ) (place : Place) (tree next : Tree) → n < length ps → place ≡ slice_index_or ps n place → grown top (map entry_of (take n ps)) ≡ Ok tree → added tree (entry_of place).0 (entry_of place).1 ≡ Ok next → grown top (map entry_of (take (n + 1) ps)) ≡ Ok next
grown_more ps n place tree next below is made more =
    ap (λ es. grown top (map entry_of es)) (take_more ps n place below ∙ ap (λ p. take n ps ++ p ∷ []) (sym is))
    ∙ ap (grown top) (map-append entry_of (take n ps) (place ∷ []))
    ∙ grown-on top tree (map entry_of (take n ps)) (entry_of place ∷ []) (Ok next) made (grown-one tree next (entry_of place) more)

-- ---- what a load answers

module _ (lists : List ℕ → List (Option (List ℕ)) → Type 0) (looks : Looks) (reads : Reads) (refuses : List ℕ → ErrorKind → Type 0) (wants : List ℕ → Bool) (found : List (List ℕ × Option ℕ)) (passed : ℕ) (l : IsListed lists looks found passed) (ps : List Place) (same : found_in ps ≡ found) (f : AllByRecursion (IsFilled wants reads refuses) ps) where
  pub loads : (result : Result Tree LoadFault) → AllByRecursion WasAnswered ps → IfOk result (λ tree. grown top (map entry_of ps) ≡ Ok tree) → IfOk result (λ tree. IsLoaded lists (Leads looks (ReadIf wants reads)) tree passed)
  loads (Ok tree) a g = loaded looks reads refuses wants lists found passed l ps same f a tree g
  loads (Err fault) a g = tt

  pub loads_not : (result : Result Tree LoadFault) → AllByRecursion WasAnswered ps → IfErr result (MakesNoTree (map entry_of ps)) → IfErr result (IsUnloaded lists (Leads looks (ReadIf wants reads)) refuses)
  loads_not (Ok tree) a g = tt
  loads_not (Err fault) a g = unmade looks reads refuses wants lists found passed l ps same f a fault g

pub loads_text : (ps : List Place) (found : List (List ℕ × Option ℕ)) (result : Result Tree LoadFault) → found_in ps ≡ found → HasTextPaths found → IfOk result (λ tree. grown top (map entry_of ps) ≡ Ok tree) → IfOk result (HasTextPaths {N = Node})
loads_text ps found (Ok tree) same h g = loaded_text ps found tree same h g
loads_text ps found (Err fault) same h g = tt

-- a load that reads all, or nothing
module _ (lists : List ℕ → List (Option (List ℕ)) → Type 0) (looks : Looks) (reads : Reads) (refuses : List ℕ → ErrorKind → Type 0) (wanted : Wanted) where
  pub whole : wanted.all ≡ true → (tree : Tree) (passed : ℕ) → IsLoaded lists (Leads looks (ReadIf (wants wanted) reads)) tree passed → IsLoaded lists (Leads looks reads) tree passed
  whole is tree passed l = loaded-so lists (Leads looks (ReadIf (wants wanted) reads)) (Leads looks reads) (all-read looks reads (wants wanted) (λ p. rw is refl)) tree passed l

  pub not_whole : wanted.all ≡ true → (fault : LoadFault) → IsUnloaded lists (Leads looks (ReadIf (wants wanted) reads)) refuses fault → IsUnloaded lists (Leads looks reads) refuses fault
  not_whole is fault u = unloaded-so lists (Leads looks (ReadIf (wants wanted) reads)) (Leads looks reads) (all-read looks reads (wants wanted) (λ p. rw is refl)) refuses fault u

  pub bare : wanted.all ≡ false → wanted.paths ≡ [] → (tree : Tree) (passed : ℕ) → IsLoaded lists (Leads looks (ReadIf (wants wanted) reads)) tree passed → IsLoaded lists (Leads looks Unread) tree passed
  bare is none tree passed l = loaded-so lists (Leads looks (ReadIf (wants wanted) reads)) (Leads looks Unread) (none-read looks reads (wants wanted) (λ p. rw (is, none) refl)) tree passed l

  pub not_bare : wanted.all ≡ false → wanted.paths ≡ [] → (fault : LoadFault) → IsUnloaded lists (Leads looks (ReadIf (wants wanted) reads)) refuses fault → IsUnloaded lists (Leads looks Unread) refuses fault
  not_bare is none fault u = unloaded-so lists (Leads looks (ReadIf (wants wanted) reads)) (Leads looks Unread) (none-read looks reads (wants wanted) (λ p. rw (is, none) refl)) refuses fault u
