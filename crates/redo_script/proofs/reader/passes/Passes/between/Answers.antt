use Rattle.std.proofs.Common.{rules}
use Rattle.redo_script.specs.inside.Lexer.{reader_of}
use Rattle.redo_script.proofs.RunLemmas.{comment_once}
use Rattle.redo_script.proofs.reader.passes.Passes.between.Goals as goal

pub returns-in-35-clause-reads : goal.returns-in-35-clause-reads
returns-in-35-clause-reads c =
    let r = reader_of c.args.self.now.lexer in
    let gap = c.is_between.ensures c.if-not-is_between.false in
    λ total h. rw (comment_once r c.args.text.now c.past_comment.result.now c.in-35.len_at_least (search rules) gap (c.past_comment.ensures.gap r gap)) h
