-- What is wrong with a text is never want of memory.
use Rattle.std.proofs.Common.{◌≡◌, ◌≢◌, ℕ, ◌==◌, List, [], ◌∷◌, Result, Ok, Err}
use Rattle.redo_script.specs.declared.fault.ScriptFault.{ScriptFault}
use Rattle.redo_script.specs.declared.fault.Reason.TheVariants as reasons
use Rattle.redo_script.specs.declared.lexer.Mode.{Mode}
use Rattle.redo_script.specs.declared.lexer.Mode.TheVariants as modes
use Rattle.redo_script.specs.Tokens.{line_after}
use Rattle.redo_script.specs.Reading.{Reader, at_start, next_byte, at_end, read_on, tokens_of}
use Rattle.redo_script.specs.Texts.{nul_from, interpreter_is_fit, interpreter_of, script_in}
use Rattle.redo_script.proofs.OneByteLemmas.{at}
use Rattle.redo_script.proofs.LeadLemmas.{KeepsLine, keeps}
use Rattle.redo_script.proofs.BlameLemmas.{Blames, by_if, bound, blamed, statements_blame}

byte_blames : (l b : ℕ) (read : Result Reader ScriptFault) → KeepsLine l b read → Blames read
byte_blames l b (Ok r) k = tt
byte_blames l b (Err f) k = rw k (λ e. cc e)

end_blames : (m : Mode) (r : Reader) → Blames (at_end (at m r.line r))
unfolding at_end
end_blames modes.Gap r = tt
end_blames modes.Semicolon r = tt
end_blames modes.Redirect r = tt
end_blames modes.Comment r = tt
end_blames modes.Word r = tt
end_blames modes.Dollar r = λ e. cc e
end_blames modes.Name r = tt
end_blames modes.Single r = λ e. cc e
end_blames modes.Double r = λ e. cc e
end_blames modes.QuotedDollar r = λ e. cc e
end_blames modes.QuotedName r = λ e. cc e
end_blames modes.Escape r = λ e. cc e

read_blames : (r : Reader) (text : List ℕ) → Blames (read_on r text)
unfolding read_on
read_blames r [] = end_blames r.mode r
read_blames r (b ∷ bs) = bound (next_byte r b) _ (byte_blames r.line b (next_byte r b) (keeps r b)) (λ q. read_blames q bs)

nul_blames : (text : List ℕ) (line : ℕ) → Blames (nul_from line text)
nul_blames [] line = tt
nul_blames (b ∷ bs) line = by_if (b == 0) _ _ (λ e. cc e) (nul_blames bs (line_after line b))

text_blames : (text : List ℕ) → Blames (script_in text)
unfolding script_in tokens_of
text_blames text =
    bound (nul_from 1 text) _ (nul_blames text 1) (λ none.
    bound (interpreter_of text) _ (by_if (interpreter_is_fit text) _ _ tt (λ e. cc e)) (λ fit.
    bound (tokens_of text) _ (read_blames at_start text) (λ ts. statements_blame ts)))

pub of_texts : (text : List ℕ) (fault : ScriptFault) → script_in text ≡ Err fault → fault.why ≢ reasons.Memory
of_texts text fault e = blamed (script_in text) fault (text_blames text) e
