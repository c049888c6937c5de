-- Two trees with the same names that agree on what the book names have the same past.
use Rattle.std.proofs.Common.{◌≡◌, ℕ, Bool, true, false, not, cond, inl, inr, Option, Some, None}
use Rattle.std.proofs.Common.{List, [], ◌∷◌, filter, flat_map, refl, sym, ap, ap₂, subst, ◌∙◌}
use Rattle.std.specs.Str.{bytes_eq}
use Rattle.std.proofs.lemmas.Bool.{cases_Bool}
use Rattle.redo_names.specs.Paths.{is_among}
use Rattle.redo_names.proofs.ListLemmas.{IsAmong-right}
use Rattle.redo_tree.specs.Tree as tree_words
use Rattle.redo_tree.specs.Tree.{IsTree, Node, Tree, file_at, is_file_among, kind_of, node_at, without}
use Rattle.redo_tree.specs.declared.entries.Kind.{Kind}
use Rattle.redo_tree.specs.declared.entries.Kind.TheVariants as kinds
use Rattle.redo_tree.proofs.WithoutLemmas.{IsTree-without, file_at-without, node_at-without, passing}
use Rattle.redo_which.specs.Candidates.{book_path}
use Rattle.redo_record.specs.Paths.{IsAmong}
use Rattle.redo_book.specs.Book.{Record, record_at, targets_of}
use Rattle.redo_past.specs.Past.{PastView, has_digest, is_generated, set_aside}
use Rattle.redo_reads.specs.Reads.{AgreeOn, AreNamedAlike, ArePastsAlike, Covers, named_by}
use Rattle.redo_reads.proofs.ReportLemmas.{agreed_file}

-- Trees without some of their files

-- of a kind, without the files among these
abbrev kind_without : Bool → Kind → Kind
kind_without out kinds.Nothing = kinds.Nothing
kind_without out kinds.Dir = kinds.Dir
kind_without out kinds.File = cond out kinds.Nothing kinds.File

without_told : (paths : List (List ℕ)) (p : List ℕ) (n : Option Node) →
    kind_of (passing (λ e. not (is_file_among paths e)) p n) ≡ kind_without (is_among paths p) (kind_of n)
without_told paths p None = refl
without_told paths p (Some tree_words.Directory) = refl
without_told paths p (Some (tree_words.File bytes)) = by_place (is_among paths p)
  where
    by_place : (out : Bool) → kind_of (cond (not out) (Some (tree_words.File bytes)) None) ≡
        cond out kinds.Nothing kinds.File
    by_place true = refl
    by_place false = refl

module _ (one two : Tree) (is_one : IsTree one) (is_two : IsTree two) (aside : List (List ℕ)) where
  pub without_alike : AreNamedAlike one two → AreNamedAlike (without one aside) (without two aside)
  without_alike alike p =
      ap kind_of (node_at-without two aside p is_two)
      ∙ without_told aside p (node_at two p)
      ∙ ap (kind_without (is_among aside p)) (alike p)
      ∙ sym (without_told aside p (node_at one p))
      ∙ ap kind_of (sym (node_at-without one aside p is_one))

  pub without_agrees : (p : List ℕ) → file_at two p ≡ file_at one p →
      file_at (without two aside) p ≡ file_at (without one aside) p
  without_agrees p same =
      file_at-without two aside p is_two
      ∙ ap (λ (o : Option (List ℕ)). cond (is_among aside p) None o) same
      ∙ sym (file_at-without one aside p is_one)

-- What is set aside

generated_same : (one two : Tree) (book : List Record) →
    ((p : List ℕ) → IsAmong (targets_of book) p → file_at two p ≡ file_at one p) →
    filter (is_generated two) book ≡ filter (is_generated one) book
generated_same one two [] same = refl
generated_same one two (r ∷ rs) same =
    ap₂ (λ (b : Bool) (others : List Record). cond b (r ∷ others) others)
    (ap (λ (file : Option (List ℕ)). has_digest file r.state) (same r.target (inl refl)))
    (generated_same one two rs (λ p m. same p (inr m)))

pub aside_same : (one two : Tree) (book : List Record) →
    ((p : List ℕ) → IsAmong (targets_of book) p → file_at two p ≡ file_at one p) →
    set_aside two book ≡ set_aside one book
aside_same one two book same =
    ap (λ (rs : List Record). book_path ∷ targets_of rs) (generated_same one two book same)

-- what is covered is the same in both trees
pub covered_same : (paths : List ℕ → Bool) (one two : Tree) (those : List (List ℕ)) → AreNamedAlike one two →
    AgreeOn paths one two → Covers paths one those → (p : List ℕ) → IsAmong those p → file_at two p ≡ file_at one p
covered_same paths one two those alike agree has p m = agreed_file paths one two alike agree p (has p m)

-- the sources of two pasts
module _ (past other : PastView) (are : ArePastsAlike past other) where
  abbrev aside : List (List ℕ)
  aside = set_aside past.tree past.book

  left : other.sources ≡ without other.tree aside
  left =
      are.other_past.sources
      ∙ ap (λ (book : List Record). without other.tree (set_aside other.tree book)) are.book
      ∙ ap (without other.tree) (aside_same past.tree other.tree past.book are.targets)

  pub is_sources : IsTree past.sources
  is_sources = subst IsTree (sym are.is_past.sources) (IsTree-without past.tree aside are.is_tree)

  pub other_sources : IsTree other.sources
  other_sources = subst IsTree (sym left) (IsTree-without other.tree aside are.other_tree)

  pub sources_alike : AreNamedAlike past.sources other.sources
  sources_alike =
      subst (λ (x : Tree). AreNamedAlike x other.sources) (sym are.is_past.sources)
      (subst (λ (x : Tree). AreNamedAlike (without past.tree aside) x) (sym left)
      (without_alike past.tree other.tree are.is_tree are.other_tree aside are.named))

  pub file_left : (p : List ℕ) → file_at other.tree p ≡ file_at past.tree p →
      file_at other.sources p ≡ file_at past.sources p
  file_left p e =
      ap (λ (x : Tree). file_at x p) left
      ∙ without_agrees past.tree other.tree are.is_tree are.other_tree aside p e
      ∙ ap (λ (x : Tree). file_at x p) (sym are.is_past.sources)

-- Records

-- the record of a target has it as its target
pub record_target : (book : List Record) (p : List ℕ) (r : Record) → record_at book p ≡ Some r →
    IsAmong (targets_of book) r.target
record_target [] p r e = absurd cc
record_target (first ∷ rest) p r e = elim (cases_Bool (bytes_eq first.target p)) [
  | inl here ↦
      let same : first ≡ r = (let now = rw here at e in cc) in inl (ap (λ (x : Record). x.target) same)
  | inr other ↦ inr (record_target rest p r (rw other at e))
]

-- a book names its targets
pub target_named : (book : List Record) (p : List ℕ) → IsAmong (targets_of book) p → IsAmong (flat_map named_by book) p
target_named [] p m = absurd m
target_named (r ∷ rs) p (inl here) = inl here
target_named (r ∷ rs) p (inr later) = IsAmong-right (named_by r) (flat_map named_by rs) p (target_named rs p later)
