-- Lists of paths that are text, and trees of them.
use Rattle.std.proofs.Common.{◌≡◌, ℕ, List, [], ◌∷◌, map, take, refl, sym, subst}
use Rattle.std.proofs.Common.{Option, Some, None, ◌++◌}
use Rattle.std.specs.Prelude.{Err, IsUtf8, Result, slice_get, Ok}
use Rattle.std.specs.List.{AllByRecursion, AllZip, FoldsTo}
use Rattle.redo_dir.specs.declared.unwritten.Unwritten.{Unwritten}
use Rattle.redo_dir.specs.declared.unwritten.Unwritten.TheVariants.{Device, Name, Memory}
use Rattle.redo_dir.specs.declared.faults.StoreFault.{StoreFault}
use Rattle.std.proofs.lemmas.Str.{IsUtf8-append}
use Rattle.std.specs.BTreeMap.{insert_entry}
use Rattle.std.specs.Cmp.Lexicographic.{slice_cmp}
use Rattle.std.specs.Option.{option_map_or}
use Rattle.std.specs.Ordering.{nat_cmp, match_ordering}
use Rattle.std.specs.declared.cmp.Ordering.TheVariants.{Less, Equal, Greater}
use Rattle.redo_path.specs.Names.{child_of}
use Rattle.redo_path.proofs.PartLemmas.{AllByRecursion-append}
use Rattle.redo_tree.specs.declared.faults.TreeFault.{TreeFault}
use Rattle.redo_tree.specs.Tree.{Node, Tree, added, grown, refusal, with_node}
use Rattle.redo_dir.specs.declared.looking.Name.{Name as Looked}
use Rattle.redo_dir.specs.Loaded.{HasTextPaths, Listing, asked, entries_of, names_of}
use Rattle.redo_dir.specs.Stored.{HasTexts}
use Rattle.redo_dir.specs.inside.Batches.{MeansText, fault_at}
use Rattle.redo_dir.specs.inside.Levels.{IsMark, Progress, Receives, ReceivesName, paths_of, taken_in, with_waiting}

refused_so : (paths : List (List ℕ)) (k : ℕ) (path : List ℕ) (fault : Unwritten) → slice_get paths k ≡ Some path → MeansText {A = Unit {0}} (Err fault) path → AllByRecursion IsUtf8 (take k paths) → HasTexts {A = Unit {0}} (Err (fault_at fault k)) paths
refused_so paths k path (Device kind) e w h = (path, e, w, h)
refused_so paths k path Name e w h = (path, e, w, h)
refused_so paths k path Memory e w h = (path, e, w, h)

-- the file at a place wasn't written
pub refused_at : (paths : List (List ℕ)) (k : ℕ) (path : List ℕ) (fault : Unwritten) (answer : StoreFault) → slice_get paths k ≡ Some path → MeansText {A = Unit {0}} (Err fault) path → AllByRecursion IsUtf8 (take k paths) → answer ≡ fault_at fault k → HasTexts {A = Unit {0}} (Err answer) paths
refused_at paths k path fault answer e w h same = subst (λ f. HasTexts {A = Unit {0}} (Err f) paths) (sym same) (refused_so paths k path fault e w h)

abbrev onward : List (List ℕ × Node) → Result Tree TreeFault → Result Tree TreeFault
onward es r = elim r [ Ok next ↦ grown next es | Err fault ↦ Err fault ]

-- the path of a text name in a directory whose path is text
pub child_text : (dir name : List ℕ) → IsUtf8 dir → IsUtf8 name → IsUtf8 (child_of dir name)
unfolding lib.Utf8.encode
child_text [] name d n = n
child_text (b ∷ bs) name d n =
    let slash : IsUtf8 (47 ∷ []) = (47 ∷ [], (refl, refl)) in
    IsUtf8-append (b ∷ bs) (47 ∷ name) d (IsUtf8-append (47 ∷ []) name slash n)

text-insert : (es : Tree) (path : List ℕ) (node : Node) → HasTextPaths es → IsUtf8 path → HasTextPaths (insert_entry (slice_cmp nat_cmp) es path node)
text-insert [] path node h k = (k, tt)
text-insert (e ∷ es) path node h k =
    elim (slice_cmp nat_cmp path e.0) as (λ o. HasTextPaths (match_ordering {X = Tree} o ((path, node) ∷ e ∷ es) ((e.0, node) ∷ es) (e ∷ insert_entry (slice_cmp nat_cmp) es path node))) [
      | Less ↦ (k, h)
      | Equal ↦ (h.0, h.1)
      | Greater ↦ (h.0, text-insert es path node h.1 k)
    ]

fine : (o : Option TreeFault) (x y : Tree) → option_map_or Err o (Ok x) ≡ Ok y → x ≡ y
fine None x y h = cc
fine (Some f) x y h = cc

-- a tree with one text path more
pub text-added : (old new : Tree) (path : List ℕ) (node : Node) → HasTextPaths old → IsUtf8 path → added old path node ≡ Ok new → HasTextPaths new
text-added old new path node h k e = subst HasTextPaths (fine (refusal old path node) (with_node old path node) new e) (text-insert old path node h k)

-- a tree of text paths
pub text-grown : (es : List (List ℕ × Node)) (old new : Tree) → HasTextPaths old → AllByRecursion (λ (e : List ℕ × Node). IsUtf8 e.0) es → grown old es ≡ Ok new → HasTextPaths new
text-grown [] old new h k e = subst HasTextPaths (let same : old ≡ new = cc in same) h
text-grown (x ∷ xs) old new h k e =
    (elim (added old x.0 x.1) as (λ r. added old x.0 x.1 ≡ r → onward xs r ≡ Ok new → HasTextPaths new) [
      | Ok next ↦ λ a g. text-grown xs next new (text-added old next x.0 x.1 h k.0 a) k.1 g
      | Err fault ↦ λ a g. absurd (let no : Err fault ≡ Ok new = g in cc)
    ]) refl e

-- the directories that wait, once something was found
text-waiting : (waiting : List (List ℕ)) (path : List ℕ) (size : Option ℕ) → AllByRecursion IsUtf8 waiting → IsUtf8 path → AllByRecursion IsUtf8 (with_waiting waiting path size)
text-waiting waiting path None h k = AllByRecursion-append IsUtf8 waiting (path ∷ []) h (k, tt)
text-waiting waiting path (Some size) h k = h

-- the names of one directory are noted at paths that are text
dir_marked : (dir : List ℕ) (names : List (Option (List ℕ))) (rest : List (List ℕ × Option (List ℕ))) (marks : List (Option (List ℕ))) → IsUtf8 dir → AllZip IsMark (asked dir names ++ rest) marks → ((ms : List (Option (List ℕ))) → AllZip IsMark rest ms → AllByRecursion IsUtf8 (entries_of ms)) → AllByRecursion IsUtf8 (entries_of marks)
dir_marked dir [] rest marks d z h = h marks z
dir_marked dir (name ∷ names) rest [] d z h = tt
dir_marked dir (name ∷ names) rest (None ∷ marks) d z h = dir_marked dir names rest marks d z.1 h
dir_marked dir (None ∷ names) rest (Some path ∷ marks) d z h = absurd z.0
dir_marked dir (Some name ∷ names) rest (Some path ∷ marks) d z h =
    (subst IsUtf8 (sym z.0.2) (child_text dir name d z.0.1), dir_marked dir names rest marks d z.1 h)

-- so are those of all that were listed
pub texts_marked : (read : List Listing) (marks : List (Option (List ℕ))) → AllByRecursion IsUtf8 (map (λ l. l.0) read) → AllZip IsMark (names_of read) marks → AllByRecursion IsUtf8 (entries_of marks)
texts_marked [] [] d z = tt
texts_marked [] (mark ∷ marks) d z = absurd z
texts_marked (l ∷ ls) marks d z = dir_marked l.0 l.1 (names_of ls) marks d.0 z (λ ms h. texts_marked ls ms d.1 h)

-- what was received at a path that is text
text_received : (p q : Progress) (path : List ℕ) (size : Option (Option ℕ)) → HasTextPaths p.found → AllByRecursion IsUtf8 p.waiting → IsUtf8 path → Receives p q path size → HasTextPaths q.found × AllByRecursion IsUtf8 q.waiting
text_received p q path None t w u r = (subst (λ s. HasTextPaths s.found) (sym r) t, subst (λ s. AllByRecursion IsUtf8 s.waiting) (sym r) w)
text_received p q path (Some size) t w u r = (
  subst (λ s. HasTextPaths s.found) (sym r) (AllByRecursion-append (λ (e : List ℕ × Option ℕ). IsUtf8 e.0) p.found ((path, size) ∷ []) t (u, tt)),
  subst (λ s. AllByRecursion IsUtf8 s.waiting) (sym r) (text-waiting p.waiting path size w u),
)

pub texts_entered : (names : List Looked) (p q : Progress) → HasTextPaths p.found → AllByRecursion IsUtf8 p.waiting → AllByRecursion IsUtf8 (paths_of names) → FoldsTo ReceivesName p names q → HasTextPaths q.found × AllByRecursion IsUtf8 q.waiting
texts_entered [] p q t w u f = (subst (λ s. HasTextPaths s.found) f t, subst (λ s. AllByRecursion IsUtf8 s.waiting) f w)
texts_entered (name ∷ names) p q t w u f =
    let one = text_received p f.0 name.path (taken_in f.1.0) t w u.0 f.1.2 in
    texts_entered names f.0 q one.0 one.1 u.1 f.2
