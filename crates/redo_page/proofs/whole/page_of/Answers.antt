use Rattle.std.proofs.Common.{◌≡◌, ◌<◌, ℕ, List, Some, length, map, rules, subst}
use Rattle.std.specs.Arc.{arc_value}
use Rattle.std.specs.Prelude.{slice_get}
use Rattle.redo_explain.specs.Views.{begun_view}
use Rattle.redo_names.specs.Paths.{is_among}
use Rattle.redo_report.specs.declared.report.Row.{Row}
use Rattle.redo_page.specs.Data.{AreNumbered, HasNumbers}
use Rattle.redo_page.specs.Grouping.{AreGrouped, at_or_zero}
use Rattle.redo_page.specs.Pages.{changed_in, row_of, users_of}
use Rattle.redo_page.specs.Parts.{text_of}
use Rattle.redo_page.specs.Whole.{page_pieces}
use Rattle.redo_page.specs.inside.Links.{known_by, number_in, users_at}
use Rattle.redo_page.specs.inside.Named.{numbers_by, numbers_with}
use Rattle.redo_page.proofs.WhyLemmas.{same-whys}
use Rattle.redo_page.proofs.whole.page_of.Goals as goal

pub returns : goal.returns
returns c =
    let links = c.in_ok-links.links in
    let known = known_by links in
    let named = c.in_ok-named.named in
    let grouped = c.in_ok-grouping.grouping.grouped in
    let numbers = numbers_with named (at_or_zero grouped.heights.items) (at_or_zero grouped.groups.items) in
    let told = c.args.told.now in
    let rows = c.args.report.now.rows.items in
    let same : c.as_slice-rows.result.now ≡ rows = c.as_slice-rows.ensures.value in
    let text = c.in_ok-text.text.items in
    let tree : c.deref-3.result.now ≡ c.args.past.now.tree = search rules in
    record {
      known = known;
      numbers = numbers;
      begun = map begun_view c.in_ok-begun.begun.items;
      text_is =
          subst (λ l. text ≡ text_of (page_pieces (known_by l) numbers told rows)) c.in_ok-named.ensures.links
          (subst (λ rs. text ≡ text_of (page_pieces (known_by named.links.now) numbers told rs)) same c.in_ok-text.ensures);
      links =
          subst (λ rs. (path : List ℕ) → number_in links.numbers path ≡ row_of rs path) same c.in_ok-links.ensures.rows;
      users =
          subst (λ rs. (n : ℕ) → n < length rs → users_at links.users.items n ≡ users_of rs n) same
          c.in_ok-links.ensures.users;
      diagnosed = c.in_ok-links.ensures.diagnosed;
      whys =
          same-whys _ c.args.past.now.sources _ c.in_ok-begun.begun.items links.whys.now c.in_ok-whys.whys
          c.in_ok-links.ensures.whys c.in_ok-whys.ensures (search rules) (search rules);
      changed =
          subst (λ t. (path : List ℕ) → is_among links.changed path ≡ is_among (changed_in t rows) path) tree
          (subst (λ rs. (path : List ℕ) → is_among links.changed path ≡ is_among (changed_in c.deref-3.result.now rs) path) same
          c.in_ok-links.ensures.changed);
      numbered = subst (λ rs. AreNumbered (length rs) named.others) same c.in_ok-named.ensures.numbered;
      named = λ n row at.
          let has = subst (λ rs. (m : ℕ) (r : Row) → slice_get rs m ≡ Some r → HasNumbers known (numbers_by named) (arc_value r.deps))
          same c.in_ok-named.ensures.named n row at in
          record { changed = has.changed; missing = has.missing };
      grouped = subst (λ rs. AreGrouped known rs numbers) same (c.in_ok-grouping.ensures named.others);
      reasons = c.in_ok-begun.ensures;
    }
