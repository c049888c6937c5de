use Rattle.std.proofs.Common.{◌≡◌}
use Rattle.std.specs.List.{AllByRecursion}
use Rattle.redo_path.specs.Names.{IsName, IsPart, names, parts}
use Rattle.redo_path.specs.Resolve.{walk}
use Rattle.redo_path.proofs.CutLemmas.{parts_left}
use Rattle.redo_path.proofs.words.follow_word.Given as goal

-- what is left of the word leads on from here to where the word leads
abbrev pub invariant-loop-part : goal.invariant-loop-part
invariant-loop-part l = record {
  named : AllByRecursion IsName (names l.text.items);
  cut : AllByRecursion IsPart (parts_left l.part-iterator);
  leads : walk (names l.text.items) (parts_left l.part-iterator) ≡ walk (names l.fn.base) (parts l.fn.word);
}
