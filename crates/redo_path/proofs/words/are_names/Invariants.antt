use Rattle.std.specs.List.{AllByRecursion}
use Rattle.redo_path.specs.Names.{IsName, IsPart, parts}
use Rattle.redo_path.proofs.CutLemmas.{parts_left}
use Rattle.redo_path.proofs.words.are_names.Given as goal

-- what was seen of the word are names
abbrev pub invariant-loop-part : goal.invariant-loop-part
invariant-loop-part l = record {
  cut : AllByRecursion IsPart (parts_left l.part-iterator);
  to_whole : AllByRecursion IsName (parts_left l.part-iterator) → AllByRecursion IsName (parts l.fn.word);
  from_whole : AllByRecursion IsName (parts l.fn.word) → AllByRecursion IsName (parts_left l.part-iterator);
}
