use Rattle.std.proofs.Common.{◌≡◌, ◌∙◌, ◌≤◌, ◌++◌, ◌∷◌, [], ap, arith, length, map, rules, subst, sym, take}
use Rattle.std.proofs.lemmas.List.{map-append, take_all}
use Rattle.redo_book.specs.Book.{IsBook, Record, record_of, targets_of}
use Rattle.redo_ood.proofs.ScanLemmas.{mapped}
use Rattle.redo_ood.proofs.asked.targets.Goals as goal

pub loop-made-preserved : goal.loop-made-preserved
loop-made-preserved c =
    let ms = c.records-records.result.now in
    let i = c.loop-made.made-index in
    let made = c.made-item.result in
    let pushed : c.push.new.self.items ≡ c.loop-made.paths.items ++ c.in_ok-target.target ∷ [] = search rules in
    pushed ∙ ap (λ ps. ps ++ c.in_ok-target.target ∷ []) c.loop-made.invariant
    ∙ ap (λ t. targets_of (map record_of (take i ms)) ++ t ∷ []) c.in_ok-target.ensures.cases
    ∙ sym (ap targets_of (mapped record_of ms i made c.loop-made-test.true c.made-item.is)
    ∙ map-append (λ (r : Record). r.target) (map record_of (take i ms)) (record_of made ∷ []))

pub returns : goal.returns
returns c =
    let ms = c.records-records.result.now in
    let end : length ms ≤ c.loop-made.made-index = omega (arith, c.loop-made-test.false) in (
      c.loop-made.invariant ∙ ap (λ rs. targets_of (map record_of rs)) (take_all c.loop-made.made-index ms end)
          ∙ ap targets_of (c.records-records.ensures.records ∙ c.book.ensures.book),
      subst IsBook c.book.ensures.book c.records-records.ensures.book,
    )
