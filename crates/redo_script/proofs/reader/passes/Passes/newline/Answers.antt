use Rattle.std.proofs.Common.{◌∙◌, ◌∷◌, ◌-◌, ◌+◌, [], ap, drop, length, rules, sym, take}
use Rattle.redo_script.specs.Tokens.{newline}
use Rattle.redo_script.specs.Reading.{Reader, read_on}
use Rattle.redo_script.specs.inside.Lexer.{reader_of}
use Rattle.redo_script.proofs.HandedLemmas.{handed}
use Rattle.redo_script.proofs.ReadOnceLemmas.{handed_on, newline_once}
use Rattle.redo_script.proofs.reader.passes.Passes.newline.Goals as goal

pub returns-clause-reads : goal.returns-clause-reads
returns-clause-reads c =
    let old = c.args.self.now in
    let r = reader_of old.lexer in
    let next : Reader = record r { line = r.line + 1 } in
    let text = c.args.text.now in
    let rest = take (length text - 1) (drop 1 text) in
    let once = newline_once r text c.in-10.len_at_least (search rules) c.requires.between.0 c.requires.between.1 in
    let same = once ∙ ap (λ l. handed (newline l ∷ []) (read_on next rest)) (sym c.end_line.ensures.number) in
    λ total h. rw (c.end_line.ensures.line, c.past_blanks.ensures.reads next c.requires.between.0) (handed_on old.statements c.newline.new.self (newline c.end_line.result) (read_on next rest) total c.in_ok-newline.ensures.reads (rw same at h))
