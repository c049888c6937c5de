use Rattle.std.proofs.Common.{◌≡◌, ◌↔◌, ℕ, List, IsTrue, refl, sym, subst, ◌∙◌}
use Rattle.redo_rules.specs.Build.{GivenView}
use Rattle.redo_rules.specs.Results.{IsGiven}
use Rattle.redo_core.proofs.GivenLemmas.{given-same}
use Rattle.redo_tree.specs.Tree.{Tree}
use Rattle.redo_core.proofs.given.Given.is_same.Goals as goal

pub returns : goal.returns
returns c =
    let given : GivenView = c.args.self.now in
    let inside = c.other.inside in
    let other : GivenView = record { past = inside.past; request = inside.request.items; limits = inside.limits } in
    let tree : c.deref.result.now ≡ other.past.tree = c.deref.ensures ∙ c.tree.ensures.tree in
    let request : c.deref-2.result.now ≡ other.request = c.deref-2.ensures.value in
    let T : Tree → Type 0 = λ t. IsGiven t c.deref-2.result.now other.limits given in
    let R : List (List ℕ) → Type 0 = λ ps. IsGiven other.past.tree ps other.limits given in
    let S : GivenView → Type 0 = λ g. IsGiven other.past.tree other.request other.limits g in
    let itself : S other =
    record { of_tree = record { is_past = c.tree.ensures.past; of_tree = refl }; requested = refl; within = refl } in
    let P : GivenView → Type 0 = λ g. IsTrue c.is.result ↔ (given ≡ g) in
    subst P c.other.view_is (
      λ h. given-same c.a_tree_has_one_past.ensures given other c.tree.ensures.past (subst R request (subst T tree (c.is.ensures.0 h))),
      λ e. c.is.ensures.1 (subst T (sym tree) (subst R (sym request) (subst S (sym e) itself))),
    )
