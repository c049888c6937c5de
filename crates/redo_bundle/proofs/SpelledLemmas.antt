-- A spelled entry, read back.
use Rattle.std.proofs.Common.{◌≡◌, ◌≢◌, ℕ, ◌+◌, ◌*◌, ◌-◌, ◌<◌, ◌≤◌, ◌^◌, ◌%◌, Bool, true, false, cond, List, [], ◌∷◌}
use Rattle.std.proofs.Common.{◌++◌, length, take, drop, refl, sym, ap, ◌∙◌, arith, Option, Some, None, nat_le, nat_lt}
use Rattle.std.proofs.Common.{append_assoc}
use Rattle.std.proofs.lemmas.Fmt.{decimal_by_steps, length-decimal-le}
use Rattle.std.proofs.lemmas.Grind.{common_steps}
use Rattle.std.proofs.lemmas.List.Sums.{fold_push}
use Rattle.std.proofs.lemmas.Slice.Eq.{bytes_eq-Decides}
use Rattle.std.specs.List.{AllByRecursion, list_any, before_first, after_first, fold}
use Rattle.std.specs.Option.{option_or}
use Rattle.std.specs.Prelude.{Result, Ok, Err, codes, decimal, option_map, ◌&&◌, ◌||◌}
use Rattle.std.specs.Str.{bytes_eq}
use Rattle.redo_path.specs.Names.{IsPath, is_control}
use Rattle.redo_path.proofs.CanonicalLemmas.{printable_path, resolved-path}
use Rattle.redo_path.specs.declared.PathFault.{PathFault}
use Rattle.redo_bundle.specs.declared.faults.BundleFault.TheVariants.{Line, Path}
use Rattle.redo_tree.specs.Tree.{Node, Directory, File, Tree, added}
use Rattle.redo_bundle.specs.Bundle.{IsEntry, is_newline, is_space, size_of, header_of, path_fault, body_fault}
use Rattle.redo_bundle.specs.Bundle.{entry_fault, fault_at, spelling}
use Rattle.redo_bundle.specs.inside.Steps.{IsLine}
use Rattle.redo_bundle.proofs.BodyLemmas.{body_known, tree_fault-added}
use Rattle.redo_bundle.proofs.LineLemmas.{cut_first, any-append, take-length, drop-length}
use Rattle.redo_bundle.proofs.PieceLemmas.{behind_bytes, spelling-cut}
use Rattle.redo_bundle.proofs.TurnLemmas.{fault_at-line}

same_as_itself : (xs : List ℕ) → bytes_eq xs xs ≡ true
same_as_itself xs = (bytes_eq-Decides xs xs).1 refl

-- ---- numbers

-- the number that digits spell
abbrev value : List ℕ → ℕ
value digits = fold (λ sum digit. 10 * sum + (digit - 48)) 0 digits

value-decimal : (n : ℕ) → n < 2 ^ 64 → value (decimal n) ≡ n
value-decimal n l =
    decimal_by_steps (λ n ds. value ds ≡ n) (λ n small. omega arith)
    (λ n ds large h. fold_push (λ sum digit. 10 * sum + (digit - 48)) 0 ds (48 + n % 10) ∙ omega (arith, h)) n l

size_of-decimal : (n : ℕ) → n ≤ 2 ^ 30 → size_of (decimal n) ≡ Some n
size_of-decimal n l =
    let sum : value (decimal n) ≡ n = value-decimal n (omega arith) in
    let small : nat_le n (2 ^ 30) ≡ true = grind (arith, common_steps) in
    (λ i. cond (bytes_eq (decimal (sum i)) (decimal n) && nat_le (sum i) (2 ^ 30)) (Some (sum i)) None)
    ∙ (λ i. cond (same_as_itself (decimal n) i && small i) (Some n) None)

-- no digit passes
no_digit : (p : ℕ → Bool) → ((d : ℕ) → d < 10 → p (48 + d) ≡ false) → (n : ℕ) → n < 2 ^ 64 → list_any p (decimal n) ≡ false
no_digit p fails n l =
    decimal_by_steps (λ n ds. list_any p ds ≡ false) (λ n small. ap (λ b. b || false) (fails n small))
    (λ n ds large h. any-append p ds ((48 + n % 10) ∷ []) h ∙ ap (λ b. b || false) (fails (n % 10) (omega arith))) n l

-- ---- header lines

abbrev line_of : List ℕ × Node → List ℕ
line_of e = elim e.1 [ Directory ↦ codes "dir " ++ e.0 | File bytes ↦ codes "file " ++ decimal (length bytes) ++ 32 ∷ e.0 ]

abbrev header_in : List ℕ × Node → Option ℕ × List ℕ
header_in e = elim e.1 [ Directory ↦ (None, e.0) | File bytes ↦ (Some (length bytes), e.0) ]

not_newline : (x : ℕ) → is_control x ≡ false → is_newline x ≡ false
not_newline x h = grind (arith, common_steps)

one_line : (xs : List ℕ) → AllByRecursion (λ byte. is_control byte ≡ false) xs → list_any is_newline xs ≡ false
one_line [] h = refl
one_line (x ∷ xs) h = (λ i. not_newline x h.0 i || one_line xs h.1 i)

file_line : (size : ℕ) (path : List ℕ) → size < 2 ^ 64 → list_any is_newline path ≡ false → list_any is_newline (decimal size ++ 32 ∷ path) ≡ false
file_line size path l h = any-append is_newline (decimal size) (32 ∷ path) (no_digit is_newline (λ d small. grind (arith, common_steps)) size l) ∙ h

line_of-IsLine : (path : List ℕ) (node : Node) → IsEntry (path, node) → IsLine (line_of (path, node))
line_of-IsLine path Directory h = record {
  one = one_line path (printable_path path h.1);
  short = let s = h.1.short in let k : length (codes "dir " ++ path) ≡ 4 + length path = omega arith in omega arith;
}
line_of-IsLine path (File bytes) h =
    let size = length bytes in
    let d = length-decimal-le 10 size (omega arith) (omega (arith, h.2)) (omega (arith, h.2)) in
    let s = h.1.short in
    let l : length (decimal size ++ 32 ∷ path) ≡ length (decimal size) + (1 + length path) = grind (arith, common_steps) in
    record {
      one = file_line size path (omega (arith, h.2)) (one_line path (printable_path path h.1));
      short = omega arith;
    }

header_of-file : (size : ℕ) (path : List ℕ) → size ≤ 2 ^ 30 → header_of (codes "file " ++ decimal size ++ 32 ∷ path) ≡ Some (Some size, path)
header_of-file size path l =
    let cut = cut_first is_space (decimal size) 32 path (no_digit is_space (λ d small. grind (arith, common_steps)) size (omega arith)) refl in
    (λ i. cond (cut.some i) (option_map {U = Option ℕ × List ℕ} (λ size. (Some size, cut.after i)) (size_of (cut.before i))) None)
    ∙ ap (option_map {U = Option ℕ × List ℕ} (λ size. (Some size, path))) (size_of-decimal size l)

header_of-line : (path : List ℕ) (node : Node) → IsEntry (path, node) → header_of (line_of (path, node)) ≡ Some (header_in (path, node))
header_of-line path Directory h = refl
header_of-line path (File bytes) h = header_of-file (length bytes) path h.2

-- what stands behind the line
pub entry_text : (path : List ℕ) (node : Node) (rest : List ℕ) → spelling (path, node) ++ rest ≡ (line_of (path, node) ++ 10 ∷ []) ++ (behind_bytes (path, node) ++ rest)
entry_text path Directory rest = ap (λ l. l ++ rest) (spelling-cut path Directory _ refl) ∙ append_assoc (line_of (path, Directory) ++ 10 ∷ []) [] rest
entry_text path (File bytes) rest = ap (λ l. l ++ rest) (spelling-cut path (File bytes) _ refl) ∙ append_assoc (line_of (path, File bytes) ++ 10 ∷ []) (bytes ++ 10 ∷ []) rest

-- ---- the first entry of a text, and what follows it

abbrev entry_of : Option (Option ℕ × List ℕ) → List ℕ → Option ((List ℕ × Node) × List ℕ)
entry_of None rest = None
entry_of (Some header) rest = elim header.0 [
  | None ↦ Some ((header.1, Directory), rest)
  | Some size ↦ Some ((header.1, File (take size rest)), drop (size + 1) rest)
]

abbrev first_entry : List ℕ → Option ((List ℕ × Node) × List ℕ)
first_entry text = entry_of (header_of (before_first is_newline text)) (after_first is_newline text)

entry_of-behind : (path : List ℕ) (node : Node) (rest : List ℕ) → entry_of (Some (header_in (path, node))) (behind_bytes (path, node) ++ rest) ≡ Some ((path, node), rest)
entry_of-behind path Directory rest = refl
entry_of-behind path (File bytes) rest =
    let whole : (bytes ++ 10 ∷ []) ++ rest ≡ bytes ++ 10 ∷ rest = append_assoc bytes (10 ∷ []) rest in
    let front : take (length bytes) ((bytes ++ 10 ∷ []) ++ rest) ≡ bytes = ap (take (length bytes)) whole ∙ take-length bytes (10 ∷ rest) in
    let back : drop (length bytes + 1) ((bytes ++ 10 ∷ []) ++ rest) ≡ rest = ap (drop (length bytes + 1)) whole ∙ drop-length bytes 10 rest in
    λ i. Some ((path, File (front i)), back i)

first_entry-spelled : (path : List ℕ) (node : Node) (rest : List ℕ) → IsEntry (path, node) → first_entry (spelling (path, node) ++ rest) ≡ Some ((path, node), rest)
first_entry-spelled path node rest h =
    let line = line_of (path, node) in
    let behind = behind_bytes (path, node) ++ rest in
    let whole = entry_text path node rest ∙ append_assoc line (10 ∷ []) behind in
    let cut = cut_first is_newline line 10 behind (line_of-IsLine path node h).one refl in
    ap first_entry whole ∙ (λ i. entry_of (header_of (cut.before i)) (cut.after i))
    ∙ ap (λ o. entry_of o behind) (header_of-line path node h) ∙ entry_of-behind path node rest

-- two entries that begin one text are the same, and so is what follows them
pub record Same (e f : List ℕ × Node) (r s : List ℕ) : Type 0 where
  pub entry : e ≡ f
  pub rest : r ≡ s

pub spelled-same : (e f : List ℕ × Node) (r s : List ℕ) → IsEntry e → IsEntry f → spelling e ++ r ≡ spelling f ++ s → Same e f r s
spelled-same e f r s h k same =
    let found : ◌≡◌ {A = Option ((List ℕ × Node) × List ℕ)} (Some (e, r)) (Some (f, s)) = sym (first_entry-spelled e.0 e.1 r h) ∙ ap first_entry same ∙ first_entry-spelled f.0 f.1 s k in
    let pair : ◌≡◌ {A = (List ℕ × Node) × List ℕ} (e, r) (f, s) = cc in
    record { entry = ap (λ p. p.0) pair; rest = ap (λ p. p.1) pair }

-- ---- a spelled entry that the tree takes has no fault

no_path_fault : (n : ℕ) (path : List ℕ) → path ≢ [] → IsPath path → path_fault n path ≡ None
no_path_fault n path some h =
    ap (λ (r : Result (List ℕ) PathFault). elim r [ Ok meant ↦ cond (bytes_eq meant path) None (Some (Line n)) | Err fault ↦ Some (Path n fault) ]) (resolved-path path some h)
    ∙ ap (λ b. cond b None (Some (Line n))) (same_as_itself path)

no_body_fault : (n : ℕ) (tree next : Tree) (path : List ℕ) (node : Node) (rest : List ℕ) → added tree path node ≡ Ok next → body_fault n tree (header_in (path, node)).0 path (behind_bytes (path, node) ++ rest) ≡ None
no_body_fault n tree next path Directory rest e = tree_fault-added n tree next path Directory e
no_body_fault n tree next path (File bytes) rest e = body_known n tree path ((bytes ++ 10 ∷ []) ++ rest) bytes rest (length bytes) refl refl ∙ tree_fault-added n tree next path (File bytes) e

same_path : (path : List ℕ) (node : Node) → (header_in (path, node)).1 ≡ path
same_path path Directory = refl
same_path path (File bytes) = refl

no_end : (path : List ℕ) (node : Node) → bytes_eq (line_of (path, node)) (codes "end") ≡ false
no_end path Directory = refl
no_end path (File bytes) = refl

pub no_fault : (n : ℕ) (tree next : Tree) (e : List ℕ × Node) (rest : List ℕ) → IsEntry e → added tree e.0 e.1 ≡ Ok next → fault_at n tree (spelling e ++ rest) ≡ None
no_fault n tree next e rest h adds =
    let line = line_of (e.0, e.1) in
    let header = header_in (e.0, e.1) in
    let behind = behind_bytes (e.0, e.1) ++ rest in
    fault_at-line n tree line behind (spelling e ++ rest) (line_of-IsLine e.0 e.1 h) (entry_text e.0 e.1 rest)
    ∙ ap (λ b. cond b (cond (nat_lt 0 (length behind)) (Some (Line (n + 1))) None) (entry_fault n tree line behind)) (no_end e.0 e.1)
    ∙ ap (λ (o : Option (Option ℕ × List ℕ)). elim o [ None ↦ Some (Line n) | Some header ↦ option_or (path_fault n header.1) (body_fault n tree header.0 header.1 behind) ]) (header_of-line e.0 e.1 h)
    ∙ (λ i. option_or (path_fault n (same_path e.0 e.1 i)) (body_fault n tree header.0 (same_path e.0 e.1 i) behind))
    ∙ ap (λ o. option_or o (body_fault n tree header.0 e.0 behind)) (no_path_fault n e.0 h.0 h.1)
    ∙ no_body_fault n tree next e.0 e.1 rest adds
