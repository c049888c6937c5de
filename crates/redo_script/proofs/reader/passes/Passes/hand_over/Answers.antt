use Rattle.std.proofs.Common.{◌∙◌, ap, sym}
use Rattle.redo_script.specs.Reading.{Reader}
use Rattle.redo_script.specs.inside.Lexer.{reader_of}
use Rattle.redo_script.proofs.HandedLemmas.{tokens_taken}
use Rattle.redo_script.proofs.reader.passes.Passes.hand_over.Goals as goal

pub reuse-requires : goal.reuse-requires
reuse-requires c = ap (λ (r : Reader). r.tokens) c.take_tokens-tokens.ensures.taken

pub returns : goal.returns
returns c =
    let old = c.args.self.now in
    let taken = c.reuse.ensures.same ∙ c.take_tokens-tokens.ensures.taken in
    record {
      reads = λ left total h. tokens_taken old.statements c.tokens.new.self _ (reader_of old.lexer) (reader_of c.reuse.new.self) left total (sym c.take_tokens-tokens.ensures.tokens) taken c.in_ok-tokens.ensures.reads h;
      memory = tt;
      handed = ap (λ (r : Reader). r.tokens) taken;
      line = c.reuse.ensures.line ∙ c.take_tokens-tokens.ensures.line;
    }
