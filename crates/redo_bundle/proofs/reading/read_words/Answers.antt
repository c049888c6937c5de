use Rattle.std.proofs.Common.{rules, arith, ◌≡◌, take, drop, length, ◌-◌, ◌+◌, Some}
use Rattle.std.proofs.lemmas.Grind.{common_steps}
use Rattle.redo_bundle.specs.Bundle.{size_of}
use Rattle.redo_bundle.proofs.LineLemmas.{words_found}
use Rattle.redo_bundle.proofs.reading.read_words.Goals as goal

pub returns : goal.returns
returns c =
    let n = c.in_ok-blank.blank in
    let words = c.args.words.now in
    let rest : take (length words - (n + 1)) (drop (n + 1) words) ≡ drop (n + 1) words = grind (arith, common_steps) in
    let sized : size_of (take n words) ≡ Some c.in_ok-size.size = grind (arith, common_steps) in
    words_found words _ n c.in_ok-size.size (search rules) sized rest
