use Rattle.std.proofs.Common.{rules, ◌≡◌, ◌∙◌, ◌<◌, ◌++◌, ◌∷◌, [], inl, inr, Some, sym, ap, subst, arith, length, get_or, slice_get, Contains, eqb}
use Rattle.std.specs.List.{dedup}
use Rattle.std.proofs.lemmas.Bool.{cases_eq}
use Rattle.std.proofs.lemmas.List.Elements.{Contains-append_left, Contains-get_or, Contains-push, Contains-push_cases}
use Rattle.std.proofs.lemmas.List.Filters.{dedup_is}
use Rattle.std.proofs.lemmas.List.Kept.{Contains-dedup_nat, Contains-from_dedup}
use Rattle.std.proofs.lemmas.List.Sorted.{Contains-permutation, IsPermutation-sym}
use Rattle.std.proofs.lemmas.Map.Keys.{IsStrictlyIncreasing-dedup}
use Rattle.std.proofs.lemmas.Option.{get_or_from_slice_get, slice_get_within}
use Rattle.std.specs.List.Sorted.{IsStrictlyIncreasing}
use Rattle.redo_alike.specs.inside.Known.{known_at}
use Rattle.redo_alike.proofs.ListLemmas.{in-get}
use Rattle.redo_alike.proofs.groups.groups_below.Goals as goal

pub loop-need-preserved : goal.loop-need-preserved
loop-need-preserved c =
    let needs = c.args.needs.now in
    let known = c.args.known.now in
    let i = c.loop-need.need-index in
    let old = c.loop-need.below.items in
    let group = c.in-Some.group in
    let x = get_or needs i 0 in
    let is : known_at known x ≡ Some group = c.in-Some.is in
    let pushed : c.push.new.self.items ≡ old ++ group ∷ [] = search rules in (
      (λ k m low at. elim (cases_eq k i) [
        | inl same ↦
            let e : x ≡ m = get_or_from_slice_get needs i m 0 (ap (slice_get needs) (sym same) ∙ at) in
            (group, subst (λ n. known_at known n ≡ Some group) e is, subst (λ l. Contains l group) (sym pushed) (Contains-push old group))
        | inr other ↦
            let found = c.loop-need.invariant.0 k m (omega (arith, low, other)) at in
            (found.0, found.1, subst (λ l. Contains l found.0) (sym pushed) (Contains-append_left old (group ∷ []) found.0 found.2))
      ]),
      (λ g there. elim (Contains-push_cases old group g (subst (λ l. Contains l g) pushed there)) [
        | inl before ↦ c.loop-need.invariant.1 g before
        | inr same ↦ (x, Contains-get_or needs i 0 c.loop-need-test.true, is ∙ ap Some same)
      ]),
    )

pub returns-clause-groups : goal.returns-clause-groups
returns-clause-groups c =
    let needs = c.args.needs.now in
    let known = c.args.known.now in
    let old = c.loop-need.below.items in
    let sorted = c.sort_unstable.new.self.items in
    let new = c.dedup.new.self.items in
    let is : new ≡ dedup eqb sorted = dedup_is eqb sorted new c.dedup.ensures.filtered in (
      subst (λ l. IsStrictlyIncreasing l) (sym is) (IsStrictlyIncreasing-dedup sorted c.sort_unstable.ensures.sorted),
      λ g. (
        (λ there.
            let in_sorted = Contains-from_dedup eqb sorted g (subst (λ l. Contains l g) is there) in
            c.loop-need.invariant.1 g (Contains-permutation sorted old g (IsPermutation-sym old sorted c.sort_unstable.ensures.permutation) in_sorted)),
        (λ need.
            let at = in-get needs need.0 need.1 in
            let low : at.0 < length needs = slice_get_within needs at.0 need.0 at.1 in
            let found = c.loop-need.invariant.0 at.0 need.0 (omega (arith, low, c.loop-need-test.false)) at.1 in
            let e : Some found.0 ≡ Some g = sym found.1 ∙ need.2 in
            let same : found.0 ≡ g = cc in
            let in_sorted = Contains-permutation old sorted g c.sort_unstable.ensures.permutation (subst (λ k. Contains old k) same found.2) in
            subst (λ l. Contains l g) (sym is) (Contains-dedup_nat sorted g in_sorted)),
      ),
    )

pub returns-clause-known : goal.returns-clause-known
returns-clause-known c m is =
    let needs = c.args.needs.now in
    let at = in-get needs m is in
    let low : at.0 < length needs = slice_get_within needs at.0 m at.1 in
    let found = c.loop-need.invariant.0 at.0 m (omega (arith, low, c.loop-need-test.false)) at.1 in
    (found.0, found.1)
