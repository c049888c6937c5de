-- Pasts of trees with the same names that have the same book and the same files at its targets: they have one answer.
use Rattle.std.proofs.Common.{◌≡◌, ◌∙◌, ℕ, Bool, cond, List, [], ◌∷◌, Option, ap, ap₂, filter, inl, inr, refl, subst, sym}
use Rattle.std.specs.Map.{keys_of}
use Rattle.std.specs.Option.{option_eq}
use Rattle.std.specs.Str.{bytes_eq}
use Rattle.redo_digest.specs.Digest.{state_of}
use Rattle.redo_names.specs.Paths.{IsAmong}
use Rattle.redo_tree.specs.Tree.{Directory, File, Node, file_at}
use Rattle.redo_book.specs.Book.{Record, targets_of}
use Rattle.redo_book.specs.Intact.{is_intact}
use Rattle.redo_past.specs.Past.{PastView}
use Rattle.redo_reads.specs.Reads.{ArePastsAlike}
use Rattle.redo_reads.proofs.NamesLemmas.{bare_entry, picked_alike}
use Rattle.redo_reads.proofs.PastLemmas.{is_sources, other_sources, sources_alike}
use Rattle.redo_query.specs.Answers.{IsAnswer, TellsDeps, TellsPaths, TellsUsers}
use Rattle.redo_query.specs.Names.{is_named_file, named_sources, standing, standing_targets}
use Rattle.redo_query.specs.declared.answers.Answer.{Answer}
use Rattle.redo_query.specs.declared.answers.Question.{Question}
use Rattle.redo_query.specs.declared.answers.Question.TheVariants.{Targets, Sources, Deps, Users}

-- the same records stand where the files at their targets are the same
standing_by : (one two : List ℕ → Option (List ℕ)) (book : List Record) →
    ((p : List ℕ) → IsAmong (targets_of book) p → two p ≡ one p) →
    filter (is_intact two) book ≡ filter (is_intact one) book
standing_by one two [] same = refl
standing_by one two (r ∷ rs) same =
    ap₂ (λ (b : Bool) (others : List Record). cond b (r ∷ others) others)
    (ap (λ (file : Option (List ℕ)). option_eq bytes_eq (state_of file) r.state) (same r.target (inl refl)))
    (standing_by one two rs (λ p m. same p (inr m)))

-- whether an entry is a file that records name is known by its name
named_by_name : (rs : List Record) (e : List ℕ × Node) → is_named_file rs (bare_entry e) ≡ is_named_file rs e
named_by_name rs (p, Directory) = refl
named_by_name rs (p, File bytes) = refl

module _ (past other : PastView) (are : ArePastsAlike past other) where
  standing_same : standing other ≡ standing past
  standing_same =
      ap (filter (is_intact (file_at other.tree))) are.book
      ∙ standing_by (file_at past.tree) (file_at other.tree) past.book are.targets

  targets_same : standing_targets other ≡ standing_targets past
  targets_same = ap targets_of standing_same

  sources_same : named_sources other ≡ named_sources past
  sources_same =
      ap (λ (rs : List Record). keys_of (filter (is_named_file rs) other.sources)) standing_same
      ∙ picked_alike past.sources other.sources (is_sources past other are) (other_sources past other are)
      (sources_alike past other are) (is_named_file (standing past)) (named_by_name (standing past))

  pub same_answer : (question : Question) (answer : Answer) → IsAnswer past question answer →
      IsAnswer other question answer
  same_answer Targets answer is = subst (λ (ps : List (List ℕ)). TellsPaths ps answer) (sym targets_same) is
  same_answer Sources answer is = subst (λ (ps : List (List ℕ)). TellsPaths ps answer) (sym sources_same) is
  same_answer (Deps target) answer is =
      subst (λ (book : List Record). TellsDeps book target answer) (sym are.book) is
  same_answer (Users path all) answer is =
      subst (λ (book : List Record). TellsUsers book path all answer) (sym are.book) is
