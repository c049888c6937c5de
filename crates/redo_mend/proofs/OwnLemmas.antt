-- The program's own files: their names, and where they stand.
use Rattle.std.proofs.Common.{Bor, map, ◌≡◌, ◌≤◌, ◌+◌, ◌*◌, ℕ, Bool, true, false, cond, List, [], ◌∷◌, ◌++◌, length, take, refl, sym, ap, subst, ◌∙◌, arith}
use Rattle.std.proofs.Common.{Option, Some, None, filter, inl, inr, min, nat_eq}
use Rattle.std.proofs.lemmas.Bool.{cases_Bool}
use Rattle.std.proofs.lemmas.List.{length-append, length-take, length-take-le}
use Rattle.std.specs.Cmp.Lexicographic.{nat_list_eq_equiv, same_text, slice_cmp}
use Rattle.std.specs.List.{starts_with}
use Rattle.std.specs.Map.{keys_of}
use Rattle.std.specs.Ordering.{is_eq, nat_cmp}
use Rattle.std.specs.Prelude.{◌&&◌, ◌||◌, codes, option_and_then}
use Rattle.std.specs.Str.{bytes_eq}
use Rattle.hex.specs.Hex.{encode_lower}
use Rattle.hex.proofs.HexLemmas.{length-encode_with}
use Rattle.sha2.specs.Sha256.{sha256}
use Rattle.sha2.proofs.Facts256.{length-sha256}
use Rattle.redo_path.specs.Names.{name_of}
use Rattle.redo_path.proofs.ApartLemmas.{apart}
use Rattle.redo_names.specs.Paths.{is_among}
use Rattle.redo_tree.specs.Tree.{File, Node, Tree, bytes_of, file_at, node_at}
use Rattle.redo_tree.specs.declared.entries.Entry.{Entry}
use Rattle.redo_tree.proofs.NodeLemmas.{seen}
use Rattle.redo_tree.proofs.WithoutLemmas.{is_here}
use Rattle.redo_which.specs.Candidates.{book_path, journal_path}
use Rattle.redo_past.proofs.OrderLemmas.{same_path}
use Rattle.redo_dir.specs.Own.{is_temporary, temporary_front}

-- ---- names

begins-short : (xs ys : List ℕ) → starts_with nat_eq xs ys ≡ true → length ys ≤ length xs
begins-short xs ys h =
    let same : ys ≡ take (length ys) xs = same_text ys (take (length ys) xs) (sym h) in
    let long : length ys ≡ min (length ys) (length xs) = ap length same ∙ length-take (length ys) xs in
    omega (arith, long)

length-front : (text : List ℕ) → length (temporary_front text) ≡ 23
length-front text =
    let digest : List ℕ = sha256 (take 4096 text) in
    let digits : length (encode_lower digest) ≡ 64 = length-encode_with _ digest ∙ ap (λ n. 2 * n) (length-sha256 (take 4096 text)) in
    let some : length (take 16 (encode_lower digest)) ≡ 16 = length-take-le 16 (encode_lower digest) (omega arith) in
    let behind = length-append (take 16 (encode_lower digest)) (codes "-") in
    let whole = length-append (codes ".redo-") (take 16 (encode_lower digest) ++ codes "-") in
    omega (arith, some, behind, whole)

-- a short name is no temporary file's
short-other : (text p : List ℕ) → length (name_of p) + 1 ≤ 23 → is_temporary text p ≡ false
short-other text p short = elim (cases_Bool (is_temporary text p)) [
  | inl t ↦ let l = begins-short (name_of p) (temporary_front text) t in let n = length-front text in absurd (omega arith)
  | inr f ↦ f
]

pub book-other : (text : List ℕ) → is_temporary text book_path ≡ false
book-other text = short-other text book_path (omega arith)

pub journal-other : (text : List ℕ) → is_temporary text journal_path ≡ false
journal-other text = short-other text journal_path (omega arith)

-- ---- paths in a list

pub among-append : (ps qs : List (List ℕ)) (p : List ℕ) → is_among (ps ++ qs) p ≡ (is_among ps p || is_among qs p)
among-append [] qs p = refl
among-append (q ∷ ps) qs p = elim (cases_Bool (bytes_eq q p)) [
  | inl t ↦ rw t refl
  | inr f ↦ rw f (among-append ps qs p)
]

never : (a : Bool) → (a && false) ≡ false
never true = refl
never false = refl

pub among-filter : (f : List ℕ → Bool) (ps : List (List ℕ)) (p : List ℕ) → is_among (filter f ps) p ≡ (is_among ps p && f p)
among-filter f [] p = refl
among-filter f (q ∷ ps) p = elim (cases_Bool (bytes_eq q p)) [
  | inl here ↦
      let same : q ≡ p = same_path q p here in
      (elim (f q) as (λ b. f q ≡ b → is_among (cond b (q ∷ filter f ps) (filter f ps)) p ≡ ((bytes_eq q p || is_among ps p) && f p)) [
        | true ↦ λ t. let told : f p ≡ true = ap f (sym same) ∙ t in rw (here, told) refl
        | false ↦ λ t. let told : f p ≡ false = ap f (sym same) ∙ t in rw (here, told) (among-filter f ps p ∙ ap (λ b. is_among ps p && b) told ∙ never (is_among ps p))
      ]) refl
  | inr other ↦
      (elim (f q) as (λ b. is_among (cond b (q ∷ filter f ps) (filter f ps)) p ≡ ((bytes_eq q p || is_among ps p) && f p)) [
        | true ↦ rw other (among-filter f ps p)
        | false ↦ rw other (among-filter f ps p)
      ])
]

-- what stands in a tree has its path among the tree's
key-among : (tree : Tree) (p : List ℕ) (node : Node) → node_at tree p ≡ Some node → is_among (keys_of tree) p ≡ true
key-among [] p node h = apart cc
key-among (e ∷ es) p node h = elim (cases_Bool (is_eq (slice_cmp nat_cmp p e.0))) [
  | inl at ↦
      let same : p ≡ e.0 = is_here p e.0 at in
      let here : bytes_eq e.0 p ≡ true = ap (bytes_eq e.0) same ∙ nat_list_eq_equiv.refl e.0 in
      rw here refl
  | inr other ↦
      let rest : is_among (keys_of es) p ≡ true = key-among es p node (rw other at h) in
      (elim (bytes_eq e.0 p) as (λ b. (b || is_among (keys_of es) p) ≡ true) [ true ↦ refl | false ↦ rest ])
]

pub file-among : (tree : Tree) (p bytes : List ℕ) → file_at tree p ≡ Some bytes → is_among (keys_of tree) p ≡ true
file-among tree p bytes h =
    (elim (node_at tree p) as (λ o. node_at tree p ≡ o → option_and_then bytes_of o ≡ Some bytes → is_among (keys_of tree) p ≡ true) [
      | None ↦ λ e k. apart cc
      | Some node ↦ λ e k. key-among tree p node e
    ]) refl h

-- ---- the paths of a tree

-- the keys of the entries that are lent are those of the tree
pub keys-seen : (es : List (Bor (List ℕ) × Bor Entry)) → map (λ path. path.now) (keys_of es) ≡ keys_of (seen es)
keys-seen [] = refl
keys-seen (e ∷ es) = ap (λ ps. e.0.now ∷ ps) (keys-seen es)
