-- Lists of names that were listed, of what they came to, and of the entries among that.
use Rattle.std.proofs.Common.{◌≡◌, ◌+◌, ◌<◌, ℕ, List, [], ◌∷◌, ◌++◌, refl, sym, ap, subst, ◌∙◌, arith, zero, suc, get_or, length, map, slice_get, take}
use Rattle.std.proofs.Common.{Option, Some, None, cond, append_assoc}
use Rattle.std.proofs.lemmas.List.Sums.{sum_by-append}
use Rattle.std.specs.List.{AllByRecursion, AllZip, FoldsTo}
use Rattle.std.specs.Prelude.{Result, Ok, Err, count_by, is_none}
use Rattle.redo_tree.specs.declared.faults.TreeFault.{TreeFault}
use Rattle.redo_tree.specs.Tree.{Node, Tree, added, grown}
use Rattle.redo_dir.specs.Loaded.{Listing, asked, entries_of, found_dirs, names_of}

-- one step more, behind those before
pub FoldsTo-last : {P A : Type 0} (R : P → A → P → Type 0) (p q r : P) (xs : List A) (x : A) → FoldsTo R p xs q → R q x r → FoldsTo R p (xs ++ x ∷ []) r
FoldsTo-last R p q r [] x h k = (r, subst (λ s. R s x r) (sym h) k, refl)
FoldsTo-last R p q r (y ∷ ys) x h k = (h.0, h.1, FoldsTo-last R h.0 q r ys x h.2 k)

pub none_of : {A : Type 0} (xs : List A) → length xs ≡ 0 → xs ≡ []
none_of [] e = refl
none_of (x ∷ xs) e = absurd (omega (arith, e))

-- what holds at each place holds of all
pub all_each : {A : Type 0} (P : A → Type 0) (xs : List A) → ((k : ℕ) (d : A) → k < length xs → P (get_or xs k d)) → AllByRecursion P xs
all_each P [] h = tt
all_each P (x ∷ xs) h = (h zero x (omega arith), all_each P xs (λ k d l. h (suc k) d (omega (arith, l))))

-- what is the same at each place is the same of all
pub map_each : {A B : Type 0} (f : A → B) (xs ys : List A) → length ys ≡ length xs → ((k : ℕ) (d : A) → k < length xs → f (get_or ys k d) ≡ f (get_or xs k d)) → map f ys ≡ map f xs
map_each f [] [] l h = refl
map_each f [] (y ∷ ys) l h = absurd (omega (arith, l))
map_each f (x ∷ xs) [] l h = absurd (omega (arith, l))
map_each f (x ∷ xs) (y ∷ ys) l h =
    ap (λ z. z ∷ map f ys) (h zero x (omega arith)) ∙ ap (λ zs. f x ∷ zs) (map_each f xs ys (omega (arith, l)) (λ k d m. h (suc k) d (omega (arith, m))))

pub AllZip-append : {A B : Type 0} (R : A → B → Type 0) (xs ys : List A) (us vs : List B) → AllZip R xs us → AllZip R ys vs → AllZip R (xs ++ ys) (us ++ vs)
AllZip-append R [] ys [] vs h k = k
AllZip-append R [] ys (u ∷ us) vs h k = absurd h
AllZip-append R (x ∷ xs) ys [] vs h k = absurd h
AllZip-append R (x ∷ xs) ys (u ∷ us) vs h k = (h.0, AllZip-append R xs ys us vs h.1 k)

pub entries-append : {A : Type 0} (xs ys : List (Option A)) → entries_of (xs ++ ys) ≡ entries_of xs ++ entries_of ys
entries-append [] ys = refl
entries-append (None ∷ xs) ys = entries-append xs ys
entries-append (Some x ∷ xs) ys = ap (λ es. x ∷ es) (entries-append xs ys)

pub nones-append : {A : Type 0} (xs ys : List (Option A)) → count_by is_none (xs ++ ys) ≡ count_by is_none xs + count_by is_none ys
nones-append xs ys = sum_by-append (λ x. cond (is_none x) 1 0) xs ys

pub names-append : (ls ms : List Listing) → names_of (ls ++ ms) ≡ names_of ls ++ names_of ms
names-append [] ms = refl
names-append (l ∷ ls) ms = ap (λ ns. asked l.0 l.1 ++ ns) (names-append ls ms) ∙ sym (append_assoc (asked l.0 l.1) (names_of ls) (names_of ms))

pub found_dirs-append : (es fs : List (List ℕ × Option ℕ)) → found_dirs (es ++ fs) ≡ found_dirs es ++ found_dirs fs
found_dirs-append [] fs = refl
found_dirs-append ((path, None) ∷ es) fs = ap (λ ds. path ∷ ds) (found_dirs-append es fs)
found_dirs-append ((path, Some size) ∷ es) fs = found_dirs-append es fs

abbrev onward : List (List ℕ × Node) → Result Tree TreeFault → Result Tree TreeFault
onward es r = elim r [ Ok next ↦ grown next es | Err fault ↦ Err fault ]

-- a tree grows by entries and then by others
pub grown-on : (old mid : Tree) (es fs : List (List ℕ × Node)) (result : Result Tree TreeFault) → grown old es ≡ Ok mid → grown mid fs ≡ result → grown old (es ++ fs) ≡ result
grown-on old mid [] fs result h k = let same : old ≡ mid = cc in ap (λ t. grown t fs) same ∙ k
grown-on old mid (x ∷ xs) fs result h k = elim (added old x.0 x.1) as (λ r. onward xs r ≡ Ok mid → onward (xs ++ fs) r ≡ result) [
  | Ok next ↦ λ g. grown-on next mid xs fs result g k
  | Err fault ↦ λ g. cc
] h

-- one entry more grows it
pub grown-one : (tree next : Tree) (e : List ℕ × Node) → added tree e.0 e.1 ≡ Ok next → grown tree (e ∷ []) ≡ Ok next
grown-one tree next e h = ap (onward []) h

-- an entry that can't be added to what those before it made
pub grown-none : {A : Type 0} (f : A → List ℕ × Node) (tree mid : Tree) (xs : List A) (n : ℕ) (x : A) (fault : TreeFault) → slice_get xs n ≡ Some x → grown tree (map f (take n xs)) ≡ Ok mid → added mid (f x).0 (f x).1 ≡ Err fault → grown tree (map f xs) ≡ Err fault
grown-none f tree mid [] n x fault e h k = absurd (let no : None ≡ Some x = e in cc)
grown-none f tree mid (y ∷ ys) zero x fault e h k =
    let one : y ≡ x = cc in
    let same : tree ≡ mid = cc in
    ap (onward (map f ys)) (ap (λ z. added tree (f z).0 (f z).1) one ∙ ap (λ t. added t (f x).0 (f x).1) same ∙ k)
grown-none f tree mid (y ∷ ys) (suc n) x fault e h k =
    (elim (added tree (f y).0 (f y).1) as (λ r. onward (map f (take n ys)) r ≡ Ok mid → onward (map f ys) r ≡ Err fault) [
      | Ok next ↦ λ g. grown-none f next mid ys n x fault e g k
      | Err other ↦ λ g. absurd (let no : Err other ≡ Ok mid = g in cc)
    ]) h
