use Rattle.std.proofs.Common.{◌≡◌, ◌++◌, rules, refl, arith, inr}
use Rattle.std.proofs.lemmas.Grind.{common_steps}
use Rattle.redo_script.specs.inside.Lexer.{reader_of}
use Rattle.redo_script.proofs.QuotedRunLemmas.{piece_taken, quoted_taken}
use Rattle.redo_script.proofs.lexer.Lexer.double_run.Goals as goal

pub returns-then-matches-clause-reads : goal.returns-then-matches-clause-reads
returns-then-matches-clause-reads c = piece_taken (reader_of c.args.self.now) (reader_of c.push_literal.new.self) c.args.text.now c.split_at.result.0.now c.split_at.result.1.now c.quotable_len.result c.requires c.split_at.ensures.by_index.0 c.split_at.ensures.front c.quotable_len.ensures.quotable c.in_ok-push_literal.ensures.reads

pub returns-clause-reads : goal.returns-clause-reads
returns-clause-reads c =
    let old = c.args.self.now in
    let bytes = c.split_at.result.0.now in
    let literal : c.extend_from_slice.new.self.items ≡ old.literal.items ++ bytes = first_of (search rules, grind (arith, common_steps)) in
    quoted_taken (reader_of old) c.args.text.now bytes c.split_at.result.1.now c.quotable_len.result old.parts.items old.literal.items c.extend_from_slice.new.self.items (inr c.requires) refl c.split_at.ensures.by_index.0 c.split_at.ensures.front c.quotable_len.ensures.quotable literal
