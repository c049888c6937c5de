-- What `parse` answers, by the grammar.
use Rattle.std.proofs.Common.{◌≡◌, ◌≢◌, ℕ, List, Result, Ok, Err, inl, inr, ap}
use Rattle.std.specs.Prelude.{IfOk, IfErr}
use Rattle.redo_script.specs.declared.fault.ScriptFault.{ScriptFault}
use Rattle.redo_script.specs.Faults.{Gives, no_memory}
use Rattle.redo_script.specs.Syntax.{Script}
use Rattle.redo_grammar.specs.Texts.{IsScript, IsRefused}
use Rattle.redo_script.specs.Texts.{script_in}
use Rattle.redo_grammar.proofs.MemoryLemmas.{of_texts}
use Rattle.redo_grammar.proofs.WholeScriptLemmas.{only_scripts, found_scripts}
use Rattle.redo_grammar.proofs.RefusedTextLemmas.{refused_text}
use Rattle.redo_script.specs.declared.fault.Reason.TheVariants as reasons

-- what reading gives is in the grammar
pub given_found : {X : Type 0} (view : X → Script) (text : List ℕ) (r : Result X ScriptFault) → Gives view r (script_in text) → IfOk r (λ x. IsScript text (view x))
given_found view text (Ok x) h = found_scripts text (view x) h
given_found view text (Err e) h = tt

-- what is in the grammar is what reading gives
pub given_only : {X : Type 0} (view : X → Script) (text : List ℕ) (r : Result X ScriptFault) → Gives view r (script_in text) → (s : Script) → IsScript text s → Gives view r (Ok s)
given_only view text r h s g = rw (only_scripts text s g) at h

-- want of memory is none that a text has
pub given_memory : {X : Type 0} (view : X → Script) (text : List ℕ) (r : Result X ScriptFault) → Gives view r (script_in text) → IfErr r (λ fault. fault.why ≡ reasons.Memory → fault ≡ no_memory)
given_memory view text (Ok x) h = tt
given_memory view text (Err e) (inl m) = λ w. m
given_memory view text (Err e) (inr h) = λ w. absurd (of_texts text e h w)

-- what reading refuses has this fault
pub given_refused : {X : Type 0} (view : X → Script) (text : List ℕ) (r : Result X ScriptFault) → Gives view r (script_in text) → IfErr r (λ fault. fault.why ≢ reasons.Memory → IsRefused text fault)
given_refused view text (Ok x) h = tt
given_refused view text (Err e) (inl m) = λ n. absurd (n (ap (λ (f : ScriptFault). f.why) m))
given_refused view text (Err e) (inr h) = λ n. refused_text text e h
