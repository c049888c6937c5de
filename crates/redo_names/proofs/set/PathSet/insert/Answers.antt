use Rattle.std.proofs.Common.{◌≡◌, ◌∙◌, ◌++◌, ◌∷◌, [], Some, length, subst, sym, ap, not, arith, slice_get}
use Rattle.redo_names.specs.Paths.{AreDistinct, IsAmong}
use Rattle.redo_names.specs.inside.Index.{IsIndexOf}
use Rattle.redo_names.proofs.IndexLemmas.{last-there}
use Rattle.redo_names.proofs.PathLemmas.{absent-among, distinct-last, put-new, put-there, there-among, told-absent, told-among}
use Rattle.redo_names.proofs.set.PathSet.insert.Goals as goal
use Rattle.redo_names.proofs.set.PathSet.insert.Goals.{After-drop-path-in-Some-1, After-push_reserved}

-- the path was there
there : (c : After-drop-path-in-Some-1) → IsAmong c.args.self.now c.args.path
there c =
    let number = rw c.in-Some.is at c.in_ok-number.ensures.number in
    there-among c.deref-2.result.now c.args.self.now c.args.path c.text.result.now c.in-Some.number (c.deref-2.ensures.value ∙ c.reserve.ensures.items ∙ c.self.view_is) c.text.ensures.text number

pub returns-in-Some-clause-paths : goal.returns-in-Some-clause-paths
returns-in-Some-clause-paths c = c.reserve.ensures.items ∙ c.self.view_is ∙ sym (put-there c.args.self.now c.args.path (there c))

pub returns-in-Some-clause-added : goal.returns-in-Some-clause-added
returns-in-Some-clause-added c = sym (ap not (told-among c.args.self.now c.args.path (there c)))

-- the path is new
absent : (c : After-push_reserved) → IsAmong c.args.self.now c.args.path → ⊥
absent c =
    let none = rw c.in-None.is at c.in_ok-number.ensures.new in
    absent-among c.deref-2.result.now c.args.self.now c.args.path c.text.result.now (c.deref-2.ensures.value ∙ c.reserve.ensures.items ∙ c.self.view_is) c.text.ensures.text none

pub returns-in-None-clause-paths : goal.returns-in-None-clause-paths
returns-in-None-clause-paths c =
    c.push_reserved.ensures.items ∙ ap (λ ps. ps ++ c.args.path ∷ []) (c.reserve.ensures.items ∙ c.self.view_is) ∙ sym (put-new c.args.self.now c.args.path (absent c))

pub returns-in-None-clause-number : goal.returns-in-None-clause-number
returns-in-None-clause-number c =
    let items = c.reserve.new.self.items in
    let size : c.len-number.result ≡ length items = omega arith in
    subst (λ n. slice_get c.push_reserved.new.self.items n ≡ Some c.args.path) (sym size)
    (subst (λ ps. slice_get ps (length items) ≡ Some c.args.path) (sym c.push_reserved.ensures.items) (last-there items c.args.path))

pub returns-in-None-clause-added : goal.returns-in-None-clause-added
returns-in-None-clause-added c = sym (ap not (told-absent c.args.self.now c.args.path (absent c)))

pub invariant_of-self-in-None : goal.invariant_of-self-in-None
invariant_of-self-in-None c =
    let all : c.deref-2.result.now ++ c.text.result.now ∷ [] ≡ c.push_reserved.new.self.items = (λ i. c.deref-2.ensures.value i ++ c.text.ensures.text i ∷ []) ∙ sym c.push_reserved.ensures.items in
    let last : c.args.self.now ++ c.args.path ∷ [] ≡ c.push_reserved.new.self.items = sym (c.push_reserved.ensures.items ∙ ap (λ ps. ps ++ c.args.path ∷ []) (c.reserve.ensures.items ∙ c.self.view_is)) in (
      subst (IsIndexOf c.enter.new.self) all c.in_ok-number.ensures.entered,
      subst AreDistinct last (distinct-last c.args.self.now c.args.path (subst AreDistinct c.self.view_is c.self.invariant.1) (absent c)),
    )
