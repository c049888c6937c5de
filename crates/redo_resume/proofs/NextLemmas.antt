-- The run after a broken-off one.
use Rattle.std.proofs.Common.{◌≡◌, ℕ, List, sym, ap, subst, ◌∙◌}
use Rattle.std.specs.Prelude.{All}
use Rattle.redo_tree.specs.Tree.{IsTree, Tree}
use Rattle.redo_report.specs.declared.report.Report.{Report}
use Rattle.redo_past.specs.Past.{IsPast, PastView}
use Rattle.redo_rules.specs.Results.{IsResultOn}
use Rattle.redo_rules.specs.TreeSources.{IsTrueOfTrees}
use Rattle.redo_run.specs.Skipping.{IsSoundOn}
use Rattle.redo_step.specs.Limits.{LimitsView}
use Rattle.redo_recover.proofs.BreakLemmas.{OnePast}
use Rattle.redo_resume.specs.Resuming.{IsAsFromNothing}

abbrev pub Sound : Type 0
Sound = (tree : Tree) (request : List (List ℕ)) (limits : LimitsView) (next : Report) → IsTree tree →
    IsResultOn tree request limits next → IsSoundOn tree request limits next

-- a run over what has these sources comes to what the build of the sources alone comes to
pub as-from-nothing : Sound → OnePast → (past : PastView) → IsTree past.tree → IsPast past → (S : Tree) → past.sources ≡ S → (request : List (List ℕ)) (limits : LimitsView) (next : Report) → IsResultOn past.tree request limits next → IsAsFromNothing S past.tree request limits next
as-from-nothing sound one past is_tree is_past S sources-are request limits next result_on =
    let all = sound past.tree request limits next is_tree result_on in
    record {
      agrees = λ g is_given safe plain over.
          let same : g.past ≡ past = one g.past past is_given.of_tree.is_past is_past is_given.of_tree.of_tree in
          let sources : S ≡ g.past.sources = sym sources-are ∙ ap (λ (x : PastView). x.sources) (sym same) in
          let asked = is_given.requested in let bound = is_given.within in
          let here : IsResultOn g.past.sources g.request g.limits plain =
          subst (λ (t : Tree). IsResultOn t g.request g.limits plain) sources
          (subst (λ (r : List (List ℕ)). IsResultOn S r g.limits plain) (sym asked)
          (subst (λ (l : LimitsView). IsResultOn S request l plain) (sym bound) over)) in
          (all g is_given).agrees safe plain here;
      true_again = λ g is_given were is_next.
          let P : LimitsView → Type 0 = λ l. All (IsTrueOfTrees l.file_bytes) g.past.book in
          let Q : LimitsView → Type 0 = λ l. All (IsTrueOfTrees l.file_bytes) is_next.with_book.book in
          subst Q is_given.within ((all g is_given).true_again (subst P (sym is_given.within) were) is_next);
    }
