use Rattle.std.proofs.Common.{sym, ◌∙◌}
use Rattle.redo_script.specs.inside.Lexer.{reader_of}
use Rattle.redo_script.proofs.QuotedRunLemmas.{parameter_taken}
use Rattle.redo_script.proofs.lexer.Lexer.quoted_parameter.Goals as goal

pub returns-clause-reads : goal.returns-clause-reads
returns-clause-reads c = parameter_taken (reader_of c.args.self.now) (reader_of c.push_parameter.new.self) c.args.text.now c.in-Some.parameter c.in-len2-up.len_at_least c.if-dollar-ne36.false (sym c.parameter_of.ensures ∙ c.in-Some.is) c.requires c.in_ok-push_parameter.ensures.reads
