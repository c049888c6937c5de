-- What the steps of one entry find and add.
use Rattle.std.proofs.Common.{◌≡◌, ℕ, ◌+◌, ◌*◌, ◌-◌, ◌≤◌, ◌^◌, Bool, true, false, cond, List, [], ◌∷◌, ◌++◌, length}
use Rattle.std.proofs.Common.{take, drop, refl, sym, ap, subst, ◌∙◌, arith, Option, Some, None, nat_le, append_assoc}
use Rattle.std.proofs.Common.{take-append-drop, IfSome}
use Rattle.std.proofs.lemmas.Grind.{common_steps}
use Rattle.std.proofs.lemmas.Bool.{lt-leb}
use Rattle.std.proofs.lemmas.Slice.Eq.{bytes_eq-Decides}
use Rattle.std.specs.List.{list_any, before_first, after_first, fold}
use Rattle.std.specs.Option.{option_or}
use Rattle.std.specs.Prelude.{Result, Ok, Err, OnOk, option_map, codes, ◌&&◌, decimal, slice_index}
use Rattle.std.specs.Str.{bytes_eq}
use Rattle.std.specs.Io.KnownBytes.{Consumes}
use Rattle.redo_path.specs.Names.{IsBelowRoot}
use Rattle.redo_bundle.specs.declared.faults.BundleFault.{BundleFault}
use Rattle.redo_bundle.specs.declared.faults.BundleFault.TheVariants.{Line, Path, Tree as TreeAt, Truncated, Read}
use Rattle.redo_bundle.specs.declared.faults.BundleFault.TheVariants.{Memory}
use Rattle.redo_tree.specs.declared.faults.TreeFault.{TreeFault}
use Rattle.redo_tree.specs.declared.faults.TreeFault.TheVariants as tree
use Rattle.redo_tree.specs.Tree.{Node, Directory, File, Tree, added, Adds}
use Rattle.redo_bundle.specs.Bundle.{is_newline, is_space, size_of, header_of, path_fault, tree_fault, body_fault}
use Rattle.redo_bundle.specs.Bundle.{entry_fault, spelling}
use Rattle.redo_bundle.specs.inside.Steps.{told, Finds, Refuses, AddsFile, AddsEntry, is_read}
use Rattle.redo_bundle.proofs.LineLemmas.{split_first}

-- ---- directories

pub told-adds : (n : ℕ) (outcome : Result (Unit {0}) TreeFault) (old new : Tree) (meant : Result Tree TreeFault) → Adds outcome old new meant → OnOk (told n outcome) (meant ≡ Ok new)
told-adds n (Ok x) old new meant h = h
told-adds n (Err tree.Memory) old new meant h = tt
told-adds n (Err tree.NoDirectory) old new meant h = tt
told-adds n (Err tree.IsDirectory) old new meant h = tt
told-adds n (Err tree.IsFile) old new meant h = tt
told-adds n (Err tree.Twice) old new meant h = tt

tree_fault-refused : (n : ℕ) (old : Tree) (word : List ℕ) (node : Node) (f : TreeFault) → added old word node ≡ Err f → tree_fault n old word node ≡ Some (TreeAt n f)
tree_fault-refused n old word node f h = ap (λ (r : Result Tree TreeFault). elim r [ Ok next ↦ None | Err fault ↦ Some (TreeAt n fault) ]) h

pub tree_fault-added : (n : ℕ) (old new : Tree) (word : List ℕ) (node : Node) → added old word node ≡ Ok new → tree_fault n old word node ≡ None
tree_fault-added n old new word node h = ap (λ (r : Result Tree TreeFault). elim r [ Ok next ↦ None | Err fault ↦ Some (TreeAt n fault) ]) h

pub told-finds : (n : ℕ) (outcome : Result (Unit {0}) TreeFault) (old new : Tree) (word : List ℕ) (node : Node) (o : Option BundleFault) → Adds outcome old new (added old word node) → o ≡ None → Finds (told n outcome) (option_or o (tree_fault n old word node))
told-finds n (Ok x) old new word node o h e = ap (λ o. option_or o (tree_fault n old word node)) e ∙ tree_fault-added n old new word node h
told-finds n (Err tree.Memory) old new word node o h e = tt
told-finds n (Err tree.NoDirectory) old new word node o h e = ap (λ o. option_or o (tree_fault n old word node)) e ∙ tree_fault-refused n old word node tree.NoDirectory h.0
told-finds n (Err tree.IsDirectory) old new word node o h e = ap (λ o. option_or o (tree_fault n old word node)) e ∙ tree_fault-refused n old word node tree.IsDirectory h.0
told-finds n (Err tree.IsFile) old new word node o h e = ap (λ o. option_or o (tree_fault n old word node)) e ∙ tree_fault-refused n old word node tree.IsFile h.0
told-finds n (Err tree.Twice) old new word node o h e = ap (λ o. option_or o (tree_fault n old word node)) e ∙ tree_fault-refused n old word node tree.Twice h.0

pub told-quiet : (n : ℕ) (outcome : Result (Unit {0}) TreeFault) → is_read (told n outcome) ≡ false
told-quiet n (Ok x) = refl
told-quiet n (Err tree.Memory) = refl
told-quiet n (Err tree.NoDirectory) = refl
told-quiet n (Err tree.IsDirectory) = refl
told-quiet n (Err tree.IsFile) = refl
told-quiet n (Err tree.Twice) = refl

-- ---- files

-- what a file's body says, where it was read whole
pub body_known : (n : ℕ) (old : Tree) (word x bytes y : List ℕ) (size : ℕ) → x ≡ (bytes ++ 10 ∷ []) ++ y → length bytes ≡ size → body_fault n old (Some size) word x ≡ tree_fault n old word (File bytes)
body_known n old word x bytes y size e l =
    let cut : x ≡ bytes ++ (10 ∷ y) = e ∙ append_assoc bytes (10 ∷ []) y in
    let long : nat_le (length x) size ≡ false = lt-leb (length x) size (let k = ap length cut in grind (arith, common_steps)) in
    let at : is_newline (slice_index x size) ≡ true = let k : slice_index x size ≡ 10 = ap (λ l. slice_index l size) cut ∙ grind (arith, common_steps) in ap is_newline k in
    let front : take size x ≡ bytes = ap (take size) cut ∙ grind (arith, common_steps) in
    rw (long, at) (ap (λ b. tree_fault n old word (File b)) front)

refuses_known : (f : BundleFault) (n : ℕ) (a b : Option (List ℕ)) (old : Tree) (word bytes : List ℕ) (size : ℕ) (o : Option BundleFault) → Consumes a b (bytes ++ 10 ∷ []) → length bytes ≡ size → option_or o (tree_fault n old word (File bytes)) ≡ Some f → IfSome a (λ text. option_or o (body_fault n old (Some size) word text) ≡ Some f)
refuses_known f n None b old word bytes size o p l h = tt
refuses_known f n (Some x) None old word bytes size o p l h = absurd p
refuses_known f n (Some x) (Some y) old word bytes size o p l h = ap (option_or o) (body_known n old word x bytes y size p l) ∙ h

-- a finding on the tree is one on what was left
refuses_body : (r : Result (Unit {0}) BundleFault) (n : ℕ) (a b : Option (List ℕ)) (old : Tree) (word bytes : List ℕ) (size : ℕ) (o : Option BundleFault) → Consumes a b (bytes ++ 10 ∷ []) → length bytes ≡ size → Finds r (option_or o (tree_fault n old word (File bytes))) → Refuses r a (λ text. option_or o (body_fault n old (Some size) word text))
refuses_body (Ok x) n a b old word bytes size o p l h = tt
refuses_body (Err Read) n a b old word bytes size o p l h = tt
refuses_body (Err Memory) n a b old word bytes size o p l h = tt
refuses_body (Err Truncated) n a b old word bytes size o p l h = refuses_known Truncated n a b old word bytes size o p l h
refuses_body (Err (Line k)) n a b old word bytes size o p l h = refuses_known (Line k) n a b old word bytes size o p l h
refuses_body (Err (Path k f)) n a b old word bytes size o p l h = refuses_known (Path k f) n a b old word bytes size o p l h
refuses_body (Err (TreeAt k f)) n a b old word bytes size o p l h = refuses_known (TreeAt k f) n a b old word bytes size o p l h

pub told-refuses : (n : ℕ) (outcome : Result (Unit {0}) TreeFault) (a b : Option (List ℕ)) (old new : Tree) (word bytes : List ℕ) (size : ℕ) (o : Option BundleFault) → Adds outcome old new (added old word (File bytes)) → o ≡ None → Consumes a b (bytes ++ 10 ∷ []) → length bytes ≡ size → Refuses (told n outcome) a (λ text. option_or o (body_fault n old (Some size) word text))
told-refuses n outcome a b old new word bytes size o h e p l = refuses_body (told n outcome) n a b old word bytes size o p l (told-finds n outcome old new word (File bytes) o h e)

pub told-file : (n : ℕ) (outcome : Result (Unit {0}) TreeFault) (a b : Option (List ℕ)) (old new : Tree) (word bytes : List ℕ) (size : ℕ) → Adds outcome old new (added old word (File bytes)) → Consumes a b (bytes ++ 10 ∷ []) → length bytes ≡ size → OnOk (told n outcome) (AddsFile old new word size a b)
told-file n (Ok x) a b old new word bytes size h p l = (bytes, l, h, p)
told-file n (Err tree.Memory) a b old new word bytes size h p l = tt
told-file n (Err tree.NoDirectory) a b old new word bytes size h p l = tt
told-file n (Err tree.IsDirectory) a b old new word bytes size h p l = tt
told-file n (Err tree.IsFile) a b old new word bytes size h p l = tt
told-file n (Err tree.Twice) a b old new word bytes size h p l = tt

-- ---- headers

pub same_bytes : (xs ys : List ℕ) → bytes_eq xs ys ≡ true → xs ≡ ys
same_bytes xs ys h = (bytes_eq-Decides xs ys).0 h

some_of : (b : Bool) (o : Option ℕ) (f : ℕ → Option ℕ × List ℕ) (h : Option ℕ × List ℕ) → cond b (option_map f o) None ≡ Some h → (b ≡ true) × (n : ℕ) × (o ≡ Some n) × (f n ≡ h)
some_of true None f h e = cc
some_of true (Some n) f h e = (refl, n, refl, cc)
some_of false o f h e = cc

abbrev size_in : Option (Option ℕ × List ℕ) → Option ℕ
size_in None = None
size_in (Some h) = h.0

abbrev path_in : Option (Option ℕ × List ℕ) → List ℕ
path_in None = []
path_in (Some h) = h.1

dir_header : (b : Bool) (line word : List ℕ) (c : Bool) (o : Option ℕ) (f : ℕ → Option ℕ × List ℕ) → ((n : ℕ) → f n ≡ (None, word) → ⊥) → cond b (Some (None, drop 4 line)) (cond c (option_map f o) None) ≡ Some (None, word) → (b ≡ true) × (drop 4 line ≡ word)
dir_header true line word c o f never h = (refl, let k : drop 4 line ≡ word = ap path_in h in k)
dir_header false line word c o f never h = let s = some_of c o f (None, word) h in absurd (never s.1 s.3)

pub header_dir : (line word : List ℕ) → header_of line ≡ Some (None, word) → line ≡ codes "dir " ++ word
header_dir line word h =
    let words = drop 5 line in
    let s = dir_header (bytes_eq (take 4 line) (codes "dir ")) line word (bytes_eq (take 5 line) (codes "file ") && list_any is_space words) (size_of (before_first is_space words)) (λ size. (Some size, after_first is_space words)) (λ n e. let k : Some n ≡ None = ap (λ (p : Option ℕ × List ℕ). p.0) e in cc) h in
    sym (take-append-drop 4 line) ∙ ap (λ l. l ++ drop 4 line) (same_bytes (take 4 line) (codes "dir ") s.0) ∙ ap (λ l. codes "dir " ++ l) s.1

sized_le : (c : Bool) (m n : ℕ) → nat_le m (2 ^ 30) ≡ c → cond c (Some m) None ≡ Some n → (true ≡ true) × (m ≡ n) × (m ≤ 2 ^ 30)
sized_le true m n e h = (refl, cc, grind (arith, common_steps))
sized_le false m n e h = cc

sized : (b : Bool) (m n : ℕ) → cond (b && nat_le m (2 ^ 30)) (Some m) None ≡ Some n → (b ≡ true) × (m ≡ n) × (m ≤ 2 ^ 30)
sized true m n h = sized_le (nat_le m (2 ^ 30)) m n refl h
sized false m n h = cc

pub size_of_is : (digits : List ℕ) (n : ℕ) → size_of digits ≡ Some n → (digits ≡ decimal n) × (n ≤ 2 ^ 30)
size_of_is digits n h =
    let m = fold (λ sum digit. 10 * sum + (digit - 48)) 0 digits in
    let s = sized (bytes_eq (decimal m) digits) m n h in
    let same : m ≡ n = s.1 in
    (sym (same_bytes (decimal m) digits s.0) ∙ ap decimal same, subst (λ k. k ≤ 2 ^ 30) same s.2)

file_header : (b : Bool) (line word : List ℕ) (size : ℕ) (c : Bool) (o : Option ℕ) (f : ℕ → Option ℕ × List ℕ) → cond b (Some (None, drop 4 line)) (cond c (option_map f o) None) ≡ Some (Some size, word) → (c ≡ true) × (n : ℕ) × (o ≡ Some n) × (f n ≡ (Some size, word))
file_header true line word size c o f h = let k : None ≡ Some size = ap size_in h in cc
file_header false line word size c o f h = some_of c o f (Some size, word) h

pub both : (b c : Bool) → (b && c) ≡ true → (b ≡ true) × (c ≡ true)
both true c h = (refl, h)
both false c h = cc

space_is : (x : ℕ) → is_space x ≡ true → x ≡ 32
space_is x h = grind (arith, common_steps)

at_space : (xs : List ℕ) → list_any is_space xs ≡ true → xs ≡ before_first is_space xs ++ 32 ∷ after_first is_space xs
at_space xs h = split_first is_space 32 space_is xs h

pub header_file_is : (line word : List ℕ) (size : ℕ) → header_of line ≡ Some (Some size, word) → (line ≡ codes "file " ++ decimal size ++ 32 ∷ word) × (size ≤ 2 ^ 30)
header_file_is line word size h =
    let words = drop 5 line in
    let b = bytes_eq (take 5 line) (codes "file ") in
    let s = file_header (bytes_eq (take 4 line) (codes "dir ")) line word size (b && list_any is_space words) (size_of (before_first is_space words)) (λ size. (Some size, after_first is_space words)) h in
    let t = both b (list_any is_space words) s.0 in
    let same : s.1 ≡ size = let k : Some s.1 ≡ Some size = ap (λ (p : Option ℕ × List ℕ). p.0) s.3 in cc in
    let rest : after_first is_space words ≡ word = ap (λ (p : Option ℕ × List ℕ). p.1) s.3 in
    let d = size_of_is (before_first is_space words) s.1 s.2 in
    let digits : before_first is_space words ≡ decimal size = d.0 ∙ ap decimal same in
    (sym (take-append-drop 5 line) ∙ ap (λ l. l ++ words) (same_bytes (take 5 line) (codes "file ") t.0) ∙ ap (λ l. codes "file " ++ l) (at_space words t.1 ∙ (λ i. digits i ++ 32 ∷ rest i)), subst (λ k. k ≤ 2 ^ 30) same d.1)

-- ---- entries

pub spelled : (line word bytes : List ℕ) (size : ℕ) → line ≡ codes "file " ++ decimal size ++ 32 ∷ word → length bytes ≡ size → spelling (word, File bytes) ≡ line ++ 10 ∷ (bytes ++ 10 ∷ [])
spelled line word bytes size e l =
    ap (λ n. codes "file " ++ decimal n ++ 32 ∷ word ++ 10 ∷ bytes ++ 10 ∷ []) l ∙ ap (λ l. (l ++ 10 ∷ bytes) ++ 10 ∷ []) (sym e) ∙ append_assoc line (10 ∷ bytes) (10 ∷ [])

entry_known : (f : BundleFault) (n : ℕ) (tree : Tree) (line word : List ℕ) (a : Option (List ℕ)) → header_of line ≡ Some (None, word) → option_or (path_fault n word) (tree_fault n tree word Directory) ≡ Some f → IfSome a (λ text. entry_fault n tree line text ≡ Some f)
entry_known f n tree line word None h e = tt
entry_known f n tree line word (Some x) h e = ap (λ (o : Option (Option ℕ × List ℕ)). elim o [ None ↦ Some (Line n) | Some header ↦ option_or (path_fault n header.1) (body_fault n tree header.0 header.1 x) ]) h ∙ e

pub directory_refuses : (r : Result (Unit {0}) BundleFault) (n : ℕ) (tree : Tree) (line word : List ℕ) (a : Option (List ℕ)) → header_of line ≡ Some (None, word) → Finds r (option_or (path_fault n word) (tree_fault n tree word Directory)) → Refuses r a (entry_fault n tree line)
directory_refuses (Ok x) n tree line word a h e = tt
directory_refuses (Err Read) n tree line word a h e = tt
directory_refuses (Err Memory) n tree line word a h e = tt
directory_refuses (Err Truncated) n tree line word a h e = entry_known Truncated n tree line word a h e
directory_refuses (Err (Line k)) n tree line word a h e = entry_known (Line k) n tree line word a h e
directory_refuses (Err (Path k f)) n tree line word a h e = entry_known (Path k f) n tree line word a h e
directory_refuses (Err (TreeAt k f)) n tree line word a h e = entry_known (TreeAt k f) n tree line word a h e

pub adds_directory : (old new : Tree) (line word : List ℕ) (a b : Option (List ℕ)) (r : Result (Unit {0}) BundleFault) → header_of line ≡ Some (None, word) → OnOk r (IsBelowRoot word) → OnOk r (added old word Directory ≡ Ok new) → Consumes a b [] → OnOk r (AddsEntry old new line a b)
adds_directory old new line word a b (Ok x) h place adds p = ((word, Directory), (place.0, place.1, tt), adds, [], ap (λ l. l ++ 10 ∷ []) (sym (header_dir line word h)), p)
adds_directory old new line word a b (Err f) h place adds p = tt

pub adds_file : (old new : Tree) (line word : List ℕ) (size : ℕ) (a b : Option (List ℕ)) (r : Result (Unit {0}) BundleFault) → header_of line ≡ Some (Some size, word) → OnOk r (IsBelowRoot word) → OnOk r (AddsFile old new word size a b) → OnOk r (AddsEntry old new line a b)
adds_file old new line word size a b (Ok x) h place adds =
    let (bytes, l, added, p) = adds in
    let k = header_file_is line word size h in
    ((word, File bytes), (place.0, place.1, subst (λ n. n ≤ 2 ^ 30) (sym l) k.1), added, bytes ++ 10 ∷ [], spelled line word bytes size k.0 l, p)
adds_file old new line word size a b (Err f) h place adds = tt
