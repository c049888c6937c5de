use Rattle.std.proofs.Common.{rules, ◌≡◌, ◌++◌, List, ℕ, Option, Bool, ap, subst, sym, ◌∙◌, bytes_eq, Bor}
use Rattle.std.proofs.lemmas.Fn.{dedup_same}
use Rattle.std.proofs.lemmas.List.Filters.{All-dedup}
use Rattle.std.proofs.lemmas.List.Sorted.{All-permutation, answers_always}
use Rattle.std.specs.Cmp.Lexicographic.{texts_ties}
use Rattle.std.specs.List.{dedup}
use Rattle.redo_record.specs.Paths.{IsAmong}
use Rattle.redo_core.specs.inside.Reported.{listed_paths, sources_among, IsNumberOf}
use Rattle.redo_core.proofs.RowLemmas.{listed-among, listed-ascending, reported-from, reported-to}
use Rattle.redo_core.proofs.finish.in_order.Goals as goal
use Rattle.redo_core.proofs.finish.in_order.Goals.{After-dedup_by}

abbrev path_of : Bor (List ℕ) × Option ℕ → List ℕ
path_of e = e.0.now

-- whether two paths that are listed are the same
abbrev is_double : Bor (List ℕ) × Option ℕ → Bor (List ℕ) × Option ℕ → Bool
is_double x y = bytes_eq x.0.now y.0.now

kept : (c : After-dedup_by) → c.dedup_by.new.self.items ≡ dedup is_double c.sort_unstable_by_key.new.self.items
kept c = dedup_same _ is_double _ (λ x y b f' x' y' k. search rules) c.sort_unstable_by_key.new.self.items c.dedup_by.new.self.items c.dedup_by.ensures.filtered

pub returns-clause-paths : goal.returns-clause-paths
returns-clause-paths c =
    let tree = c.args.tree.now in
    let request = c.args.request.now in
    let targets = c.args.targets.now in
    let ties = λ (x y : Bor (List ℕ) × Option ℕ). texts_ties x.0.now y.0.now in
    let sorted = c.sort_unstable_by_key.ensures.sorted (λ e. e.0) (answers_always _ _ _ (λ f a r g h. search rules)) in
    let all : listed_paths c.add_sources.new.listed.items ≡ targets ++ sources_among tree request =
    c.in_ok-add_sources.ensures.paths ∙ ap (λ ps. ps ++ sources_among tree request) (c.in_ok-listed.ensures.paths ∙ c.as_slice.ensures) in
    rw (kept (goal.at-returns-clause-paths c).After-dedup_by) (record {
      members = λ p.
          let same = listed-among path_of is_double ties c.add_sources.new.listed.items c.sort_unstable_by_key.new.self.items c.sort_unstable_by_key.ensures.permutation p in (
            λ m. reported-from tree request targets p (subst (λ ps. IsAmong ps p) all (same.0 m)),
            λ m. same.1 (subst (λ ps. IsAmong ps p) (sym all) (reported-to tree request targets p m)),
          );
      ordered = listed-ascending path_of is_double ties c.sort_unstable_by_key.new.self.items sorted;
    })

pub returns-clause-numbers : goal.returns-clause-numbers
returns-clause-numbers c =
    let P : Bor (List ℕ) × Option ℕ → Type 0 = λ e. IsNumberOf c.args.targets.now e.0.now e.1 in
    rw (kept (goal.at-returns-clause-numbers c).After-dedup_by) (All-dedup is_double P c.sort_unstable_by_key.new.self.items (All-permutation P c.add_sources.new.listed.items c.sort_unstable_by_key.new.self.items c.sort_unstable_by_key.ensures.permutation c.in_ok-add_sources.ensures.numbers))
