use Rattle.std.proofs.Common.{rules, ◌≡◌, ◌∷◌, ◌∙◌, ◌||◌, [], List, ℕ, ap, false, map, sym, take}
use Rattle.std.specs.Iterator.Adapters.{take_count, take_source}
use Rattle.std.specs.List.{list_any}
use Rattle.std.specs.Prelude.{bytes_eq}
use Rattle.redo_which.proofs.FirstLemmas.{none-do}
use Rattle.redo_which.proofs.missing.Missing.contains.Goals as goal

pub returns-then-not-ends_with : goal.returns-then-not-ends_with
returns-then-not-ends_with c =
    rw (← c.self.view_is) (none-do c.args.path.now c.self.inside.target c.self.inside.count c.self.invariant (rw (← c.text.ensures.text) (sym c.ends_with.ensures.value ∙ c.if-not-ends_with.true)))

-- The one that was compared is another.
pub loop-other-preserved : goal.loop-other-preserved
loop-other-preserved c =
    let same = λ (other : List ℕ). bytes_eq c.args.path.now other in
    let path = c.in-Some.other.do_file in
    let left = map (λ p. p.do_file) (take (take_count c.next.new.self) (take_source c.next.new.self)) in
    let next : path ∷ left ≡ map (λ p. p.do_file) (take (take_count c.loop-other.other-iterator) (take_source c.loop-other.other-iterator)) = search rules in
    let differs : false ≡ same path = search rules in
    ap (λ b. b || list_any same left) differs ∙ ap (list_any same) next ∙ c.loop-other.invariant

pub returns : goal.returns
returns c =
    let none : [] ≡ map (λ p. p.do_file) (take (take_count c.loop-other.other-iterator) (take_source c.loop-other.other-iterator)) = search rules in
    ap (list_any (λ (other : List ℕ). bytes_eq c.args.path.now other)) none ∙ c.loop-other.invariant
