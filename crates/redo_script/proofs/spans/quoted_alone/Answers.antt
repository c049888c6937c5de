use Rattle.std.proofs.Common.{sym, ◌∙◌, rules}
use Rattle.redo_script.proofs.QuotedRunLemmas.{quoted_here}
use Rattle.redo_script.proofs.spans.quoted_alone.Goals as goal

pub returns-clause-reads : goal.returns-clause-reads
returns-clause-reads c = quoted_here c.args.text.now c.split_at.result.0.now c.split_at.result.1.now c.quotable_len.result c.in-len1-up.len_at_least c.in-len1-up-closing.len_at_least (sym c.is_quote_byte.ensures ∙ c.if-not-is_quote_byte.false) (search rules) c.split_at.ensures.by_index.0 c.split_at.ensures.front c.quotable_len.ensures.quotable (sym c.is_word_end.ensures ∙ c.if-not-is_word_end.false)
