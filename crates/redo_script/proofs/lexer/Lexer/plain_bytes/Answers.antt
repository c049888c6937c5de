use Rattle.std.proofs.Common.{◌≡◌, ◌++◌, ◌&&◌, rules, refl, arith}
use Rattle.std.proofs.lemmas.Grind.{common_steps}
use Rattle.redo_script.specs.inside.Lexer.{reader_of}
use Rattle.redo_script.specs.inside.Runs.{all_digits}
use Rattle.redo_script.proofs.RunLemmas.{bytes_taken}
use Rattle.redo_script.proofs.lexer.Lexer.plain_bytes.Goals.{then-self, else-self}
use Rattle.redo_script.proofs.lexer.Lexer.plain_bytes.Goals as goal

pub returns-clause-reads : goal.returns-clause-reads
returns-clause-reads c =
    let old = c.args.self.now in
    let bytes = c.split_at.result.0.now in
    let literal : c.extend_from_slice.new.self.items ≡ old.literal.items ++ bytes = first_of (search rules, grind (arith, common_steps)) in
    let number : c.if-self.self ≡ (old.is_number && all_digits bytes) = elim c.if-self.branch [
      | then-self w ↦ rw (w.self-is, w.if-self.true, w.is_number-self.ensures) refl
      | else-self w ↦ rw (w.self-is, w.if-self.false) refl
    ] in
    bytes_taken (reader_of old) c.args.text.now bytes c.split_at.result.1.now c.plain_len.result old.parts.items old.literal.items c.extend_from_slice.new.self.items c.if-self.self c.requires refl c.split_at.ensures.by_index.0 c.split_at.ensures.front c.plain_len.ensures.plain literal number
