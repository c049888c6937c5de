use Rattle.std.proofs.Common.{◌≡◌, arith, length}
use Rattle.std.proofs.lemmas.Grind.{common_steps}
use Rattle.redo_path.proofs.CanonicalLemmas.{resolved-names}
use Rattle.redo_path.proofs.CutLemmas.{no_word_fault}
use Rattle.redo_path.proofs.FileNameLemmas.{Answers-file}
use Rattle.redo_path.proofs.words.resolve.Goals as goal

pub returns-then-are_names : goal.returns-then-are_names
returns-then-are_names c =
    let base = c.args.base.now in
    let top : length base ≡ 0 = let same = c.text.ensures.text in let none = c.if-is_empty.ensures in grind (arith, common_steps) in
    let fine = no_word_fault _ _ c.in_ok-check_word.ensures in
    Answers-file c.spelled.result _ _ (resolved-names base c.args.word.now top fine (c.are_names.ensures.0 c.if-are_names.true)) c.spelled.ensures
