use Rattle.std.proofs.Common.{◌≡◌, ◌++◌, drop}
use Rattle.redo_script.specs.View.{words_of}
use Rattle.redo_step.specs.Operands.{all_as}
use Rattle.redo_step.specs.inside.Operands.{seen}
use Rattle.redo_step.proofs.operands.add_all.Given as goal

abbrev pub invariant-loop-word : goal.invariant-loop-word
invariant-loop-word l = seen l.operands.items ++ all_as l.role (words_of (drop l.word-index l.words)) ≡ seen l.initial.operands.items ++ all_as l.role (words_of l.words)
