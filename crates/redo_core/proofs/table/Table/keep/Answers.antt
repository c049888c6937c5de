use Rattle.std.proofs.Common.{◌≡◌, ℕ, List, Some, map, false, Result, Ok, Err, slice_get, sym, ap, subst, ◌∙◌}
use Rattle.std.specs.Prelude.{OnOk}
use Rattle.std.specs.Arc.{arc_value}
use Rattle.redo_record.specs.declared.deps.Dep.{Dep}
use Rattle.redo_record.specs.declared.outcome.Outcome.{Outcome}
use Rattle.redo_record.specs.declared.outcome.Outcome.TheVariants.{Built}
use Rattle.redo_skip.specs.Checks.{shown}
use Rattle.redo_tree.specs.Tree.{file_at}
use Rattle.redo_core.specs.Views.{FactView}
use Rattle.redo_core.specs.inside.Checking.{IsInCheck, entries_in}
use Rattle.redo_core.specs.inside.Decided.{IsDecided}
use Rattle.redo_core.specs.inside.Slots.{path_at, GivenView, InCheck}
use Rattle.redo_core.proofs.LookSteps.{fits, look-key, look-targets}
use Rattle.redo_core.proofs.LookedSteps.{kept-decided, kept-may, kept-put}
use Rattle.redo_core.proofs.table.Table.keep.Goals as goal
use Rattle.redo_core.proofs.table.Table.keep.Goals.{In_ok-deps}

on_ok-more : {T E : Type 0} {P Q : Type 0} (r : Result T E) → (P → Q) → OnOk r P → OnOk r Q
on_ok-more (Ok v) f p = f p
on_ok-more (Err e) f p = tt

path : (c : In_ok-deps) → c.in_ok-target.target ≡ path_at c.requires.may.whole.targets c.args.at
path c =
    let given = c.args.build.now in
    let T : List (List ℕ) → Type 0 = λ ps. slice_get ps c.args.at ≡ Some c.at.result.now in
    let here = subst T (look-targets given c.args.self.now c.args.at c.args.held c.requires.may) c.at.ensures in
    let both : Some c.at.result.now ≡ Some (path_at c.requires.may.whole.targets c.args.at) = sym here ∙ look-key given c.args.self.now c.args.at c.args.held c.requires.may in
    let same : c.at.result.now ≡ path_at c.requires.may.whole.targets c.args.at = cc in
    c.in_ok-target.ensures.cases ∙ same

outcome : (c : In_ok-deps) → c.in_ok-outcome.outcome ≡ Built (file_at c.args.build.now.past.tree (path_at c.requires.may.whole.targets c.args.at))
outcome c =
    let given = c.args.build.now in
    let p = path_at c.requires.may.whole.targets c.args.at in
    let in_check = (fits given c.args.self.now c.args.at c.args.held c.requires.may).is_due.in_check in
    let A : ℕ → Type 0 = λ n. IsInCheck given p n in
    let B : GivenView → Type 0 = λ g. IsInCheck g p c.deref.result.now.check.number in
    let moved = subst B (sym c.given.ensures) (subst A (sym (ap (λ (h : InCheck). h.check.number) c.deref.ensures)) in_check) in
    c.in_ok-outcome.ensures.outcome p moved ∙ ap (λ (g : GivenView). Built (file_at g.past.tree p)) c.given.ensures

deps : (c : In_ok-deps) → arc_value c.in_ok-deps.deps ≡ map shown (entries_in c.args.build.now c.args.held.value.check)
deps c =
    c.in_ok-deps.ensures.ok ∙ c.in_ok-outcome.ensures.record
    ∙ ap (λ (g : GivenView). map shown (entries_in g c.deref.result.now.check)) c.given.ensures
    ∙ ap (λ (h : InCheck). map shown (entries_in c.args.build.now h.check)) c.deref.ensures

pub of-fact-requires : goal.of-fact-requires
of-fact-requires c =
    let given = c.args.build.now in
    let p = path_at c.requires.may.whole.targets c.args.at in
    let kept = kept-decided given c.args.self.now c.args.at c.args.held c.requires.may c.requires.stands in
    let A : GivenView → Type 0 = λ g. IsDecided g c.in_ok-target.target c.in_ok-outcome.outcome (arc_value c.in_ok-deps.deps) false in
    let B : List ℕ → Type 0 = λ t. IsDecided given t c.in_ok-outcome.outcome (arc_value c.in_ok-deps.deps) false in
    let C : Outcome → Type 0 = λ o. IsDecided given p o (arc_value c.in_ok-deps.deps) false in
    let D : List Dep → Type 0 = λ ds. IsDecided given p (Built (file_at given.past.tree p)) ds false in
    let d = (goal.at-of-fact-requires c).In_ok-deps in
    subst A (sym c.given-2.ensures) (subst B (sym (path d)) (subst C (sym (outcome d)) (subst D (sym (deps d)) kept)))

pub conclude-requires : goal.conclude-requires
conclude-requires c =
    let d = (goal.at-conclude-requires c).In_ok-deps in
    kept-may c.args.build.now c.args.self.now c.args.at c.args.held c.requires.may c.requires.stands c.of-fact.result
    (ap (λ (f : FactView). f.given) c.of-fact.ensures ∙ c.given-2.ensures) (ap (λ (f : FactView). f.target) c.of-fact.ensures ∙ path d)
    (ap (λ (f : FactView). f.outcome) c.of-fact.ensures ∙ outcome d)

pub returns : goal.returns
returns c =
    let d = (goal.at-returns c).In_ok-deps in
    on_ok-more c.conclude.result
    (kept-put c.args.build.now c.args.self.now c.args.at c.args.held c.requires.may c.requires.stands c.of-fact.result
    (ap (λ (f : FactView). f.given) c.of-fact.ensures ∙ c.given-2.ensures) (ap (λ (f : FactView). f.target) c.of-fact.ensures ∙ path d)
    (ap (λ (f : FactView). f.outcome) c.of-fact.ensures ∙ outcome d) c.conclude.new.self)
    c.conclude.ensures
