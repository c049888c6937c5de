use Rattle.std.proofs.Common.{ap}
use Rattle.redo_script.specs.Reading.{Reader, tokens_of}
use Rattle.redo_script.proofs.HandedLemmas.{first}
use Rattle.redo_script.proofs.reader.passes.Passes.new.Goals as goal

pub returns : goal.returns
unfolding tokens_of
returns c = record {
  reads = λ text. rw c.new.ensures.reader (first c.new-2.result text c.new-2.ensures);
  handed = ap (λ (r : Reader). r.tokens) c.new.ensures.reader;
  line = c.new.ensures.line;
}
