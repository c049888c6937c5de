-- The first files of a list, that were drafted or stored, and the one behind them that wasn't.
use Rattle.std.proofs.Common.{◌≡◌, ◌<◌, ◌≤◌, ◌+◌, ◌-◌, ℕ, Bool, List, [], ◌∷◌, ◌++◌, get_or, length, take, drop, refl, sym, ap, subst}
use Rattle.std.proofs.Common.{◌∙◌, zero, suc, arith, Some, Result, Ok, Err, append_assoc, append-nil, length-append, true, false}
use Rattle.std.proofs.lemmas.List.{length-take-le, take-append-le}
use Rattle.std.proofs.Math.Seq.{take-append_seam}
use Rattle.std.specs.Prelude.{IsUtf8, IfErr, OnErr, OnOk, is_ok, slice_get}
use Rattle.std.specs.List.{AllByRecursion}
use Rattle.redo_path.proofs.ApartLemmas.{apart}
use Rattle.redo_dir.specs.declared.unwritten.Unwritten.{Unwritten}
use Rattle.redo_dir.specs.declared.unwritten.Unwritten.TheVariants.{Device, Name, Memory}
use Rattle.redo_dir.specs.declared.faults.StoreFault.{StoreFault}
use Rattle.std.specs.declared.io.ErrorKind.{ErrorKind}
use Rattle.std.specs.declared.io.ErrorKind.TheVariants.{OutOfMemory}
use Rattle.redo_tree.specs.Tree.{Tree}
use Rattle.redo_dir.specs.Stored.{HasTexts, IsUnstored, Step, place_of, put_in, put_of, puts_in, stored_count}
use Rattle.redo_dir.specs.inside.Batches.{Advances, Blames, Files, IsFront, MeansText, Names, Refusals, Stops}
use Rattle.redo_dir.specs.inside.Batches.{fault_at, paths_of, unwritten_by}
use Rattle.redo_dir.proofs.TextLemmas.{refused_at}

pub get_within : {A : Type 0} (xs : List A) (k : ℕ) (x : A) → slice_get xs k ≡ Some x → k < length xs
get_within [] k x e = apart cc
get_within (y ∷ ys) zero x e = omega arith
get_within (y ∷ ys) (suc k) x e = let h = get_within ys k x e in omega (arith, h)

pub get_behind : {A : Type 0} (xs : List A) (x : A) (ys : List A) → slice_get (xs ++ x ∷ ys) (length xs) ≡ Some x
get_behind [] x ys = refl
get_behind (z ∷ zs) x ys = get_behind zs x ys

pub get_front : {A : Type 0} (xs ys : List A) (k : ℕ) (x : A) → slice_get xs k ≡ Some x → slice_get (xs ++ ys) k ≡ Some x
get_front [] ys k x e = apart cc
get_front (z ∷ zs) ys zero x e = e
get_front (z ∷ zs) ys (suc k) x e = get_front zs ys k x e

-- one file more
pub front_next : (tree : Tree) (files : Files) (front : List Step) (file : List ℕ × List ℕ) → IsFront tree files front → length front < length files → file ≡ get_or files (length front) file → IsUtf8 file.0 → IsFront tree files (front ++ put_in tree file ∷ [])
front_next tree [] front file h l e u = absurd (omega arith)
front_next tree (f ∷ fs) [] file h l e u = (ap (put_in tree) e, subst (λ x. IsUtf8 x.0) e u, tt)
front_next tree (f ∷ fs) (x ∷ xs) file h l e u = (h.0, h.1, front_next tree fs xs file h.2 (omega arith) e u)

-- the first of them
front_taken : (tree : Tree) (files : Files) (front : List Step) (n : ℕ) → IsFront tree files front → IsFront tree files (take n front)
front_taken tree files front zero h = tt
front_taken tree files [] (suc n) h = tt
front_taken tree [] (x ∷ xs) (suc n) h = absurd h
front_taken tree (f ∷ fs) (x ∷ xs) (suc n) h = (h.0, h.1, front_taken tree fs xs n h.2)

-- of the first files of a longer list
front_within : (tree : Tree) (files : Files) (front : List Step) (n : ℕ) → IsFront tree (take n files) front → IsFront tree files front
front_within tree files [] n h = tt
front_within tree files (x ∷ xs) zero h = absurd h
front_within tree [] (x ∷ xs) (suc n) h = absurd h
front_within tree (f ∷ fs) (x ∷ xs) (suc n) h = (h.0, h.1, front_within tree fs xs n h.2)

-- those of the rest behind them
front_append : (tree : Tree) (files : Files) (front more : List Step) → IsFront tree files front → IsFront tree (drop (length front) files) more → IsFront tree files (front ++ more)
front_append tree files [] more h k = k
front_append tree [] (x ∷ xs) more h k = absurd h
front_append tree (f ∷ fs) (x ∷ xs) more h k = (h.0, h.1, front_append tree fs xs more h.2 k)

-- what was put
front_puts : (tree : Tree) (files : Files) (front : List Step) → IsFront tree files front → front ≡ puts_in tree (take (length front) files)
front_puts tree files [] h = refl
front_puts tree [] (x ∷ xs) h = absurd h
front_puts tree (f ∷ fs) (x ∷ xs) h = ap (λ y. y ∷ xs) h.0 ∙ ap (λ ys. put_in tree f ∷ ys) (front_puts tree fs xs h.2)

-- their paths are text
front_are_texts : (tree : Tree) (files : Files) (front : List Step) → IsFront tree files front → AllByRecursion IsUtf8 (take (length front) (paths_of files))
front_are_texts tree files [] h = tt
front_are_texts tree [] (x ∷ xs) h = absurd h
front_are_texts tree (f ∷ fs) (x ∷ xs) h = (h.1, front_are_texts tree fs xs h.2)

-- all files
pub all_puts : (tree : Tree) (files : Files) (front : List Step) → IsFront tree files front → length files ≤ length front → front ≡ puts_in tree (take (length files) files)
all_puts tree [] [] h l = refl
all_puts tree (f ∷ fs) [] h l = absurd (omega (arith, l))
all_puts tree [] (x ∷ xs) h l = absurd h
all_puts tree (f ∷ fs) (x ∷ xs) h l = ap (λ y. y ∷ xs) h.0 ∙ ap (λ ys. put_in tree f ∷ ys) (all_puts tree fs xs h.2 (omega (arith, l)))

pub all_texts : (tree : Tree) (files : Files) (front : List Step) → IsFront tree files front → length files ≤ length front → AllByRecursion IsUtf8 (paths_of files)
all_texts tree [] front h l = tt
all_texts tree (f ∷ fs) [] h l = absurd (omega (arith, l))
all_texts tree (f ∷ fs) (x ∷ xs) h l = (h.1, all_texts tree fs xs h.2 (omega (arith, l)))

-- the path behind the first N, of the first files of a longer list
path_within : (files : Files) (n k : ℕ) (path : List ℕ) → slice_get (paths_of (take n files)) k ≡ Some path → slice_get (paths_of files) k ≡ Some path
path_within files zero k path e = apart cc
path_within [] (suc n) k path e = apart cc
path_within (f ∷ fs) (suc n) zero path e = e
path_within (f ∷ fs) (suc n) (suc k) path e = path_within fs n k path e

-- of the rest behind others
path_behind : (files : Files) (n k m : ℕ) (path : List ℕ) → m ≡ n + k → slice_get (paths_of (drop n files)) k ≡ Some path → slice_get (paths_of files) m ≡ Some path
path_behind files zero k m path s e = let same : k ≡ m = omega (arith, s) in subst (λ i. slice_get (paths_of files) i ≡ Some path) same e
path_behind [] (suc n) k m path s e = apart cc
path_behind (f ∷ fs) (suc n) k zero path s e = absurd (omega (arith, s))
path_behind (f ∷ fs) (suc n) k (suc m) path s e = path_behind fs n k m path (omega (arith, s)) e

-- no call was refused, so none is told
pub stops_plainly : (told : Refusals) (files : Files) (count : ℕ) (fault : Unwritten) → Stops (λ path kind. ⊥) files count fault → Stops told files count fault
stops_plainly told files count (Device kind) h = absurd h.blames
stops_plainly told files count Name h = record { path = h.path; there = h.there; text = h.text; blames = tt }
stops_plainly told files count Memory h = record { path = h.path; there = h.there; text = h.text; blames = tt }

-- why a file that was drafted wasn't stored
drafted_stops : (told : Refusals) (tree : Tree) (files : Files) (drafts : List Step) (k : ℕ) (file : List ℕ × List ℕ) (over : Bool) (fault : Unwritten) → IsFront tree files drafts → slice_get drafts k ≡ Some (put_of file over) → Blames told file.0 fault → ((path : List ℕ) → IsUtf8 path → MeansText {A = Unit {0}} (Err fault) path) → Stops told files k fault
drafted_stops told tree files [] k file over fault h e b m = apart cc
drafted_stops told tree [] (x ∷ xs) k file over fault h e b m = absurd h
drafted_stops told tree (f ∷ fs) (x ∷ xs) zero file over fault h e b m =
    let is : Some x ≡ Some (put_of file over) = e in
    let same : file.0 ≡ f.0 = cc in
    record { path = f.0; there = refl; text = m f.0 h.1; blames = subst (λ p. Blames told p fault) same b }
drafted_stops told tree (f ∷ fs) (x ∷ xs) (suc k) file over fault h e b m =
    let s = drafted_stops told tree fs xs k file over fault h.2 e b m in
    record { path = s.path; there = s.there; text = s.text; blames = s.blames }

-- no draft of the first file could be made
pub first_stops : (files : Files) (file : List ℕ × List ℕ) (fault : Unwritten) → 0 < length files → file ≡ get_or files 0 file → MeansText {A = Unit {0}} (Err fault) file.0 → Blames (λ path kind. ⊥) file.0 fault → Stops (λ path kind. ⊥) files 0 fault
first_stops [] file fault l e m b = absurd (omega (arith, l))
first_stops (f ∷ fs) file fault l e m b = record { path = file.0; there = ap (λ x. Some x.0) (sym e); text = m; blames = b }

-- an error of the system is told as that of a call
pub blames_by : (told : Refusals) (path : List ℕ) (kind : ErrorKind) → told path kind → Blames told path (unwritten_by kind)
blames_by told path OutOfMemory h = tt
blames_by told path kind h = h

-- none of some files was stored
pub none_stored : (told : Refusals) (tree : Tree) (files : Files) (old new : List Step) (fault : Unwritten) → new ≡ old → Stops told files 0 fault → Advances told tree files old new (Err fault)
none_stored told tree files old new fault e s = ([], e ∙ sym (append-nil old), (tt, s))

-- drafts got their names
pub names_advance : (told : Refusals) (tree : Tree) (files : Files) (old drafts new : List Step) (result : Result (Unit {0}) Unwritten) → 0 < length drafts → IsFront tree files drafts → Names told old drafts new result → Advances told tree files old new result
names_advance told tree files old drafts new (Ok x) l h n = (drafts, n.all, (l, h))
names_advance told tree files old drafts new (Err fault) l h n =
    let halted = n.front in
    let count = halted.count in
    let within = get_within drafts count (put_of halted.file halted.over) halted.behind in
    let len : length (take count drafts) ≡ count = length-take-le count drafts (omega (arith, within)) in
    (take count drafts, halted.first, (front_taken tree files drafts count h, subst (λ k. Stops told files k fault) (sym len) (drafted_stops told tree files drafts count halted.file halted.over fault h halted.behind halted.blames n.text)))

-- one draft more got its name, or didn't
pub names_more : (told : Refusals) (old drafts before new : List Step) (file : List ℕ × List ℕ) (over : Bool) (outcome result : Result (Unit {0}) Unwritten) → Names told old drafts before outcome → is_ok outcome ≡ true → ((path : List ℕ) → IsUtf8 path → MeansText result path) → OnOk result (new ≡ before ++ put_of file over ∷ []) → OnErr result (new ≡ before) → IfErr result (Blames told file.0) → Names told old (drafts ++ put_of file over ∷ []) new result
names_more told old drafts before new file over (Err fault) result n o t f k b = apart cc
names_more told old drafts before new file over (Ok x) (Ok y) n o t f k b = record {
  text = t;
  all = f ∙ ap (λ fs. fs ++ put_of file over ∷ []) n.all ∙ append_assoc old drafts (put_of file over ∷ []);
  front = tt;
}
names_more told old drafts before new file over (Ok x) (Err fault) n o t f k b = record {
  text = t;
  all = tt;
  front = record {
    count = length drafts;
    file = file;
    over = over;
    behind = get_behind drafts (put_of file over) [];
    blames = b;
    first = k ∙ n.all ∙ ap (λ fs. old ++ fs) (sym (take-append_seam drafts (put_of file over ∷ [])));
  };
}

-- one draft more was left out behind one that didn't get its name
pub names_left : (told : Refusals) (old drafts new : List Step) (draft : Step) (outcome : Result (Unit {0}) Unwritten) → Names told old drafts new outcome → is_ok outcome ≡ false → Names told old (drafts ++ draft ∷ []) new outcome
names_left told old drafts new draft (Ok x) n o = apart cc
names_left told old drafts new draft (Err fault) n o =
    let halted = n.front in
    let count = halted.count in
    let less = get_within drafts count (put_of halted.file halted.over) halted.behind in
    let within : count ≤ length drafts = omega (arith, less) in
    record {
      text = n.text;
      all = tt;
      front = record {
        count = count;
        file = halted.file;
        over = halted.over;
        behind = get_front drafts (draft ∷ []) count (put_of halted.file halted.over) halted.behind;
        blames = halted.blames;
        first = halted.first ∙ ap (λ fs. old ++ fs) (sym (take-append-le count drafts (draft ∷ []) within));
      };
    }

-- the first of some of the files behind those that were stored
pub front_more : (tree : Tree) (files some : Files) (old front : List Step) (k m n : ℕ) → IsFront tree files old → k ≡ length old → some ≡ take n (take m (drop k files)) → IsFront tree some front → IsFront tree files (old ++ front)
front_more tree files some old front k m n h at r is =
    let behind = drop k files in
    let inside = front_within tree behind front m (front_within tree (take m behind) front n (subst (λ fs. IsFront tree fs front) r is)) in
    front_append tree files old front h (subst (λ i. IsFront tree (drop i files) front) at inside)

-- what was stored so far of a list: its first files, behind what was stored before
pub record IsUnderWay (tree : Tree) (files : Files) (before now : List Step) : Type 0 where
  pub front : List Step
  pub more : now ≡ before ++ front
  pub first : IsFront tree files front

abbrev pub nothing_yet : (tree : Tree) (files : Files) (before : List Step) → IsUnderWay tree files before before
nothing_yet tree files before = record { front = []; more = sym (append-nil before); first = tt }

-- how many of the list that are
pub front_length : (before now : List Step) (m n : ℕ) (front : List Step) → m ≡ length now → n ≡ length before → now ≡ before ++ front → m - n ≡ length front
front_length before now m n front e f more =
    let all = ap length more ∙ length-append before front in
    omega (arith, e, f, all)

-- the part of a batch that was stored
pub part_of : (told : Refusals) (tree : Tree) (some : Files) (old new : List Step) (result : Result (Unit {0}) Unwritten) (a : Advances told tree some old new result) → IsFront tree some a.0
part_of told tree some old new (Ok x) a = a.2.1
part_of told tree some old new (Err fault) a = a.2.0

-- a batch more was stored, or a part of it
abbrev pub more_stored : (told : Refusals) (tree : Tree) (files some : Files) (before old new : List Step) (k m n : ℕ) (result : Result (Unit {0}) Unwritten) (h : IsUnderWay tree files before old) → k ≡ length h.front → some ≡ take n (take m (drop k files)) → Advances told tree some old new result → IsUnderWay tree files before new
more_stored told tree files some before old new k m n result h at r a = record {
  front = h.front ++ a.0;
  more = a.1 ∙ ap (λ fs. fs ++ a.0) h.more ∙ append_assoc before h.front a.0;
  first = front_more tree files some h.front a.0 k m n h.first at r (part_of told tree some old new result a);
}

-- why the file behind them wasn't
pub some_stops : (told : Refusals) (tree : Tree) (files some : Files) (before old new : List Step) (k m n : ℕ) (fault : Unwritten) (h : IsUnderWay tree files before old) (at : k ≡ length h.front) (r : some ≡ take n (take m (drop k files))) (a : Advances told tree some old new (Err fault)) → Stops told files (length (h.front ++ a.0)) fault
some_stops told tree files some before old new k m n fault h at r a =
    let count = length a.0 in
    let behind = drop k files in
    let stops = subst (λ fs. Stops told fs count fault) r a.2.1 in
    let len : length (h.front ++ a.0) ≡ k + count = length-append h.front a.0 ∙ ap (λ i. i + count) (sym at) in
    let path = path_within behind m count stops.path (path_within (take m behind) n count stops.path stops.there) in
    record { path = stops.path; there = path_behind files k count (length (h.front ++ a.0)) stops.path len path; text = stops.text; blames = stops.blames }

pub place_at : (fault : Unwritten) (k : ℕ) → place_of (fault_at fault k) ≡ k
place_at (Device kind) k = refl
place_at Name k = refl
place_at Memory k = refl

-- where the file at a place wasn't stored, those before it were
pub puts_before : (tree : Tree) (files : Files) (before now : List Step) (fault : Unwritten) (answer : StoreFault) (h : IsUnderWay tree files before now) → answer ≡ fault_at fault (length h.front) → now ≡ before ++ puts_in tree (take (stored_count (Err answer) files) files)
puts_before tree files before now fault answer h same =
    h.more ∙ ap (λ fs. before ++ fs) (front_puts tree files h.front h.first ∙ ap (λ n. puts_in tree (take n files)) (sym (ap place_of same ∙ place_at fault (length h.front))))

pub texts_before : (told : Refusals) (tree : Tree) (files : Files) (before now : List Step) (fault : Unwritten) (answer : StoreFault) (h : IsUnderWay tree files before now) → Stops told files (length h.front) fault → answer ≡ fault_at fault (length h.front) → HasTexts {A = Unit {0}} (Err answer) (paths_of files)
texts_before told tree files before now fault answer h s same = refused_at (paths_of files) (length h.front) s.path fault answer s.there s.text (front_are_texts tree files h.front h.first) same

told_at : (told : Refusals) (files : Files) (k : ℕ) (fault : Unwritten) → Stops told files k fault → IsUnstored told (paths_of files) (fault_at fault k)
told_at told files k (Device kind) s = (s.path, s.there, s.blames)
told_at told files k Name s = tt
told_at told files k Memory s = tt

pub told_before : (told : Refusals) (files : Files) (k : ℕ) (fault : Unwritten) (answer : StoreFault) → Stops told files k fault → answer ≡ fault_at fault k → IsUnstored told (paths_of files) answer
told_before told files k fault answer s same = subst (IsUnstored told (paths_of files)) (sym same) (told_at told files k fault s)
