use Rattle.std.proofs.Common.{◌≡◌, ◌∙◌, ◌++◌, ap, refl, subst, sym, length}
use Rattle.std.specs.Prelude.{filter}
use Rattle.std.specs.Cmp.Lexicographic.{bytes_decides}
use Rattle.redo_path.specs.Names.{IsPart}
use Rattle.redo_which.specs.Candidates.{is_dot, suffixes}
use Rattle.redo_which.specs.inside.Passed.{Passes, places_left}
use Rattle.redo_which.specs.inside.Slots.{IsNext, slots_by, slots_left}
use Rattle.redo_which.proofs.PassedLemmas.{fewer-by, passes-by, passes-more}
use Rattle.redo_which.proofs.candidates.Candidates.skip_directories.Goals as goal

-- The directory is passed over as a whole.
pub loop-self-preserved : goal.loop-self-preserved
loop-self-preserved c =
    let tree = c.args.tree.now in
    let name = c.loop-self.self-inside.name.now in
    let next = c.loop-self.self-inside.next in
    let dir = c.in-Suffix.dir.now in
    let end = c.in-Suffix.end.now in
    let before = c.loop-self.invariant in
    let split : slots_left name next ≡ slots_by (suffixes end) dir ++ slots_left name c.above-self-inside.result = ap (slots_left name) c.in-Suffix.is ∙ ap (λ l. slots_by (suffixes end) dir ++ l) (sym c.above-self-inside.ensures.left) in
    let part : IsPart end = (subst (IsNext name) c.in-Suffix.is before.next).1 in
    let passes : Passes tree c.count_by-count.result (places_left name next) (places_left name c.above-self-inside.result) = passes-by tree dir end c.count_by-count.result _ _ (c.if-not-holds_defaults.ensures.none refl) part c.count_by-count.ensures split in
    record {
      passes = passes-more tree c.loop-self.count c.count_by-count.result _ _ _ before.passes passes;
      next = c.above-self-inside.ensures.next;
    }

pub loop-self-smaller : goal.loop-self-smaller
loop-self-smaller c =
    let name = c.loop-self.self-inside.name.now in
    let dir = c.in-Suffix.dir.now in
    let end = c.in-Suffix.end.now in
    let split : slots_left name c.loop-self.self-inside.next ≡ slots_by (suffixes end) dir ++ slots_left name c.above-self-inside.result = ap (slots_left name) c.in-Suffix.is ∙ ap (λ l. slots_by (suffixes end) dir ++ l) (sym c.above-self-inside.ensures.left) in
    fewer-by end dir _ _ split

-- The end is the whole name.
pub count_by-count-requires-clause-dots : goal.count_by-count-requires-clause-dots
count_by-count-requires-clause-dots c =
    let same = (bytes_decides c.in-Suffix.end.now c.self.inside.name.now).0 (sym c.if-eq.ensures) in
    c.dots-dots.ensures ∙ ap (λ text. length (filter is_dot text)) (sym same)
