use Rattle.std.proofs.Common.{◌≡◌, drop}
use Rattle.redo_script.specs.View.{words_of}
use Rattle.redo_step.specs.Words.{texts_of}
use Rattle.redo_step.specs.inside.Scene.{scene_setting}
use Rattle.redo_step.proofs.LoopLemmas.{after_front, each_of, word_text}
use Rattle.redo_step.proofs.scene.Scene.texts.Given as goal

abbrev pub invariant-loop-word : goal.invariant-loop-word
invariant-loop-word l =
    after_front l.texts.items (each_of (word_text (scene_setting l.self) l.line) (drop l.word-index l.words)) ≡ texts_of (scene_setting l.self) l.line (words_of l.words)
