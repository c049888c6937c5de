-- The passes over a text, one after the other.
use Rattle.std.proofs.Common.{◌≡◌, ℕ, true, false, List, [], Result, Ok, refl, inl, inr}
use Rattle.redo_script.specs.declared.fault.ScriptFault.{ScriptFault}
use Rattle.redo_script.specs.Faults.{◌>>=◌, Fails, fault_at}
use Rattle.redo_script.specs.inside.Passes.{script_by_tokens}
use Rattle.redo_script.specs.Texts.{nul_from, interpreter_is_fit, script_in}
use Rattle.redo_script.specs.declared.fault.Reason.TheVariants as reasons

fails_on : {A C : Type 0} (m : Result A ScriptFault) (f : A → Result C ScriptFault) (fault : ScriptFault) → Fails fault m → Fails fault (m >>= f)
fails_on m f fault (inl none) = inl none
fails_on m f fault (inr e) = inr (rw e refl)

pub nul_fails : (text : List ℕ) (fault : ScriptFault) → Fails fault (nul_from 1 text) → Fails fault (script_in text)
unfolding script_in
nul_fails text fault h = fails_on _ _ fault h

pub interpreter_fails : (text : List ℕ) → nul_from 1 text ≡ Ok [] → interpreter_is_fit text ≡ false → script_in text ≡ fault_at 1 reasons.Interpreter
unfolding script_in
interpreter_fails text n i = rw (n, i) refl

pub tokens_follow : (text : List ℕ) → nul_from 1 text ≡ Ok [] → interpreter_is_fit text ≡ true → script_in text ≡ script_by_tokens text
unfolding script_in
tokens_follow text n i = rw (n, i) refl
