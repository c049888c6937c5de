use Rattle.std.proofs.Common.{◌≤◌, ◌∙◌, arith, length, refl, subst, sym}
use Rattle.redo_tree.specs.Tree.{HasFileOf}
use Rattle.redo_tree.specs.inside.Lengths.{NoneLongBelow}
use Rattle.redo_tree.proofs.LengthLemmas.{false-true, long-file, none-long}
use Rattle.redo_tree.proofs.entries.Tree.has_file_of.Goals as goal

pub returns-then-is_file_of : goal.returns-then-is_file_of
returns-then-is_file_of c =
    let least = c.args.least in
    let has =
    long-file c.self.inside.entries c.self.invariant.found least c.at.result.0.now c.at.result.1.now
    c.at.ensures.value (sym c.is_file_of.ensures ∙ c.if-is_file_of.true) in
    (λ _. subst (λ tree. HasFileOf tree least) c.self.view_is has, λ _. refl)

pub returns : goal.returns
returns c =
    let least = c.args.least in
    let es = c.self.inside.entries in
    let all : length es ≤ c.entries.number =
    subst (λ n. n ≤ c.entries.number) c.len-number-end.ensures.count c.entries-test.false in
    let none : NoneLongBelow least es (length es) = λ k e below. c.entries.invariant k e (omega arith) in (
      λ wrong. absurd (false-true wrong),
      λ has. absurd (none-long es c.self.invariant.found least none
          (subst (λ tree. HasFileOf tree least) (sym c.self.view_is) has)),
    )
