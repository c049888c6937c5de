-- The book of a tree, and the sources where there is none.
use Rattle.std.proofs.Common.{◌≡◌, ◌&&◌, ◌||◌, Bool, true, false, not, inl, inr, ℕ, List, [], ◌∷◌, Option, Some, None}
use Rattle.std.proofs.Common.{refl, sym, ap, subst, ◌∙◌}
use Rattle.std.proofs.lemmas.Bool.{cases_Bool}
use Rattle.std.proofs.lemmas.Map.Text.{is_eq-slice_cmp}
use Rattle.std.specs.Cmp.Lexicographic.{slice_cmp}
use Rattle.std.specs.List.{AllByRecursion}
use Rattle.std.specs.List.Sorted.{IsStrictlySortedBy}
use Rattle.std.specs.Map.{keys_of}
use Rattle.std.specs.Ordering.{is_eq, nat_cmp}
use Rattle.std.specs.Prelude.{MatchOption, is_some, option_and_then}
use Rattle.std.specs.Str.{bytes_eq}
use Rattle.std.specs.declared.cmp.Ordering.TheVariants.{Less}
use Rattle.redo_names.specs.Paths.{is_among}
use Rattle.redo_tree.specs.Tree.{Directory, IsTree, Tree, bytes_of, file_at, is_file_among, node_at}
use Rattle.redo_book.specs.Book.{IsBook, IsText, Record}
use Rattle.redo_past.specs.Past.{IsPast, PastView, set_aside}
use Rattle.redo_tree.specs.Tree.{without}
use Rattle.redo_which.specs.Candidates.{book_path}
use Rattle.redo_past.proofs.OrderLemmas.{order, same_path}

-- ---- the book

empty : IsBook []
unfolding IsStrictlySortedBy
empty = record { records = tt; sorted = tt }

either : (file : Option (List ℕ)) (book : List Record) → MatchOption file (book ≡ []) (λ text. IsText text book) → IsBook book
either None book h = subst IsBook (sym h) empty
either (Some text) book h = h.ordered

-- whether or not the tree has one
pub past_book : (past : PastView) → IsPast past → IsBook past.book
past_book past is = either (file_at past.tree book_path) past.book is.book

-- ---- a tree without a book

absent : (b : List ℕ) (es : Tree) → AllByRecursion (λ k. order b k ≡ Less) (keys_of es) → node_at es b ≡ None
absent b [] h = refl
absent b (e ∷ es) h = rw h.0 (absent b es h.1)

no-file : (file : Option (List ℕ)) (c : Bool) → file ≡ None → not (is_some file && c) ≡ true
no-file file c h = rw h refl

no-path : (a c : Bool) → c ≡ false → not (a && (c || false)) ≡ true
no-path true c h = rw h refl
no-path false c h = refl

-- where no file stands at a path the tree without it is the tree
pub whole : (es : Tree) (b : List ℕ) → IsStrictlySortedBy (slice_cmp nat_cmp) (keys_of es) → file_at es b ≡ None → without es (b ∷ []) ≡ es
unfolding IsStrictlySortedBy
whole [] b s h = refl
whole (e ∷ es) b s h = elim (cases_Bool (bytes_eq b e.0)) [
  | inl same ↦
      let here : is_eq (order b e.0) ≡ true = is_eq-slice_cmp b e.0 ∙ same in
      let none : bytes_of e.1 ≡ None = rw here at h in
      let P : List ℕ → Type 0 = λ q. AllByRecursion (λ k. order q k ≡ Less) (keys_of es) in
      let rest : file_at es b ≡ None = ap (option_and_then bytes_of) (absent b es (subst P (sym (same_path b e.0 same)) s.0)) in
      rw (no-file (bytes_of e.1) (bytes_eq b e.0 || false) none) (ap (λ t. e ∷ t) (whole es b s.1 rest))
  | inr other ↦
      let there : is_eq (order b e.0) ≡ false = is_eq-slice_cmp b e.0 ∙ other in
      rw (no-path (is_some (bytes_of e.1)) (bytes_eq b e.0) other) (ap (λ t. e ∷ t) (whole es b s.1 (rw there at h)))
]

-- and all of it is sources
pub all-sources : (tree sources : Tree) (book : List Record) → IsTree tree → file_at tree book_path ≡ None → sources ≡ tree → book ≡ [] → IsPast (record { tree = tree; sources = sources; book = book })
all-sources tree sources book is none same e = record {
  book = rw none e;
  sources = same ∙ sym (whole tree book_path is.sorted none) ∙ ap (λ (b : List Record). without tree (set_aside tree b)) (sym e);
}

-- ---- a tree with a book

read-book : (file : Option (List ℕ)) (book : List Record) → MatchOption file ⊥ (λ text. IsText text book) → MatchOption file (book ≡ []) (λ text. IsText text book)
read-book None book h = absurd h
read-book (Some text) book h = h

-- it has this past
pub with-book : (tree was sources : Tree) (book said : List Record) → tree ≡ was → book ≡ said → sources ≡ without was (set_aside was said) → MatchOption (file_at was book_path) ⊥ (λ text. IsText text said) → IsPast (record { tree = tree; sources = sources; book = book })
with-book tree was sources book said same is cut h =
    let past : IsPast (record { tree = was; sources = sources; book = said }) = record { book = read-book (file_at was book_path) said h; sources = cut } in
    subst (λ (es : Tree). IsPast (record { tree = es; sources = sources; book = book })) (sym same)
    (subst (λ (rs : List Record). IsPast (record { tree = was; sources = sources; book = rs })) (sym is) past)

-- ---- directories

-- they stay where files are taken out
pub kept-directory : (es : Tree) (ps : List (List ℕ)) (b : List ℕ) → node_at es b ≡ Some Directory → node_at (without es ps) b ≡ Some Directory
kept-directory [] ps b h = h
kept-directory (e ∷ es) ps b h = elim (cases_Bool (is_eq (order b e.0))) [
  | inl here ↦
      let same : Some e.1 ≡ Some Directory = rw here at h in
      let directory : e.1 ≡ Directory = cc in
      rw (no-file (bytes_of e.1) (is_among ps e.0) (ap bytes_of directory), here) same
  | inr there ↦
      let rest : node_at (without es ps) b ≡ Some Directory = kept-directory es ps b (rw there at h) in
      elim (cases_Bool (not (is_file_among ps e))) [
        | inl stays ↦ rw (stays, there) rest
        | inr out ↦ rw out rest
      ]
]
