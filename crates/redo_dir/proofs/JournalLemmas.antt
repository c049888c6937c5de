-- Files that are stored by a journal, and what is cleared away.
use Rattle.std.proofs.Common.{◌≡◌, ◌≤◌, ◌∙◌, ℕ, zero, suc, List, [], ◌∷◌, ◌++◌, Some, Err, ap}
use Rattle.std.proofs.Common.{append_assoc, arith, codes, length, refl, subst, sym, take}
use Rattle.std.proofs.lemmas.List.{length-map, take-append-le}
use Rattle.std.proofs.Math.Seq.{take-append_seam}
use Rattle.std.specs.List.{AllByRecursion}
use Rattle.std.specs.Prelude.{IsUtf8, slice_get}
use Rattle.std.specs.declared.io.ErrorKind.{ErrorKind}
use Rattle.std.specs.declared.io.ErrorKind.TheVariants.{OutOfMemory}
use Rattle.redo_path.proofs.PartLemmas.{AllByRecursion-append}
use Rattle.redo_tree.specs.Tree.{Tree}
use Rattle.redo_which.specs.Candidates.{book_path}
use Rattle.redo_dir.specs.declared.faults.StoreFault.{StoreFault}
use Rattle.redo_dir.specs.declared.faults.StoreFault.TheVariants as fault
use Rattle.redo_dir.specs.Stored.{Finishes, HasTexts, IsUnstored, Journals, Step, place_of, put_in, puts_in}
use Rattle.redo_dir.specs.Storing.{steps_to_store}
use Rattle.redo_dir.specs.inside.Batches.{BlamesCall, Files, MeansText, Refusals, fault_at, paths_of, unwritten_by}
use Rattle.redo_dir.proofs.FrontLemmas.{get_behind, get_front, get_within}
use Rattle.redo_dir.proofs.TextLemmas.{refused_at}

-- the path of the book is text
book_is_text : IsUtf8 book_path
unfolding lib.Utf8.encode
book_is_text = (codes ".redo-book", (refl, refl))

-- all paths are, the book's behind all others
pub all_are_texts : (paths : List (List ℕ)) → AllByRecursion IsUtf8 paths → AllByRecursion IsUtf8 (paths ++ book_path ∷ [])
all_are_texts paths h = AllByRecursion-append IsUtf8 paths (book_path ∷ []) h (book_is_text, tt)

first_within : (paths more : List (List ℕ)) (k : ℕ) (path : List ℕ) → slice_get paths k ≡ Some path → take k (paths ++ more) ≡ take k paths
first_within paths more k path e = let h = get_within paths k path e in take-append-le k paths more (omega (arith, h))

-- a fault of a list is one of a longer list
pub texts_within : (paths more : List (List ℕ)) (fault : StoreFault) → HasTexts {A = Unit {0}} (Err fault) paths → HasTexts {A = Unit {0}} (Err fault) (paths ++ more)
texts_within paths more fault (path, e, m, all) =
    (path, get_front paths more (place_of fault) path e, m, subst (AllByRecursion IsUtf8) (sym (first_within paths more (place_of fault) path e)) all)

pub unstored_within : (told : Refusals) (paths more : List (List ℕ)) (fault : StoreFault) → IsUnstored told paths fault → IsUnstored told (paths ++ more) fault
unstored_within told paths more (fault.Device k kind) (path, e, t) = (path, get_front paths more k path e, t)
unstored_within told paths more (fault.Name k) h = tt
unstored_within told paths more (fault.Memory k) h = tt

means_text : (path : List ℕ) (kind : ErrorKind) → IsUtf8 path → MeansText {A = Unit {0}} (Err (unwritten_by kind)) path
means_text path OutOfMemory h = h
means_text path kind h = h

-- all files were stored, and the book wasn't
pub texts_at_end : (paths : List (List ℕ)) (n : ℕ) (kind : ErrorKind) (answer : StoreFault) → AllByRecursion IsUtf8 paths → n ≡ length paths → answer ≡ fault_at (unwritten_by kind) n → HasTexts {A = Unit {0}} (Err answer) (paths ++ book_path ∷ [])
texts_at_end paths n kind answer h same is =
    refused_at (paths ++ book_path ∷ []) n book_path (unwritten_by kind) answer (subst (λ k. slice_get (paths ++ book_path ∷ []) k ≡ Some book_path) (sym same) (get_behind paths book_path []))
    (means_text book_path kind book_is_text)
    (subst (λ k. AllByRecursion IsUtf8 (take k (paths ++ book_path ∷ []))) (sym same) (subst (AllByRecursion IsUtf8) (sym (take-append_seam paths (book_path ∷ []))) h)) is

told_at_end : (told : Refusals) (paths : List (List ℕ)) (kind : ErrorKind) → told book_path kind → IsUnstored told (paths ++ book_path ∷ []) (fault_at (unwritten_by kind) (length paths))
told_at_end told paths OutOfMemory h = tt
told_at_end told paths kind h = (book_path, get_behind paths book_path [], h)

pub unstored_at_end : (told : Refusals) (paths : List (List ℕ)) (n : ℕ) (kind : ErrorKind) (answer : StoreFault) → told book_path kind → n ≡ length paths → answer ≡ fault_at (unwritten_by kind) n → IsUnstored told (paths ++ book_path ∷ []) answer
unstored_at_end told paths n kind answer h same is = subst (IsUnstored told (paths ++ book_path ∷ [])) (sym (is ∙ ap (fault_at (unwritten_by kind)) same)) (told_at_end told paths kind h)

-- the first files are the first steps behind the journal
puts_first : (tree : Tree) (files : Files) (k : ℕ) → k ≤ length files → puts_in tree (take k files) ≡ take k (puts_in tree files ++ Finishes ∷ [])
puts_first tree files zero l = refl
puts_first tree [] (suc k) l = absurd (omega (arith, l))
puts_first tree (f ∷ fs) (suc k) l = ap (λ xs. put_in tree f ∷ xs) (puts_first tree fs k (omega (arith, l)))

pub first_steps : (tree : Tree) (book : List ℕ) (files : Files) (old : List Step) (fault : StoreFault) → HasTexts {A = Unit {0}} (Err fault) (paths_of files) → (old ++ (Journals book ∷ [])) ++ puts_in tree (take (place_of fault) files) ≡ old ++ take (suc (place_of fault)) (steps_to_store tree book files)
first_steps tree book files old fault (path, e, m, all) =
    let h = get_within (paths_of files) (place_of fault) path e in
    let same = length-map files (λ f. f.0) in
    let within : place_of fault ≤ length files = omega (arith, h, same) in
    append_assoc old (Journals book ∷ []) (puts_in tree (take (place_of fault) files)) ∙ ap (λ xs. old ++ (Journals book ∷ xs)) (puts_first tree files (place_of fault) within)

-- an error of the system is that of the call at this path
pub call_blames : (told : Refusals) (path : List ℕ) (kind : ErrorKind) → told path kind → BlamesCall told path (unwritten_by kind)
call_blames told path OutOfMemory h = tt
call_blames told path kind h = h
