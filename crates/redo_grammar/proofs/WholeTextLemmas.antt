-- A text is a script or has a fault, and never both.
use Rattle.std.proofs.Common.{◌≡◌, ℕ, List, Result, Ok, Err, refl, sym, ◌∙◌, inl, inr}
use Rattle.redo_script.specs.declared.fault.ScriptFault.{ScriptFault}
use Rattle.redo_script.specs.Syntax.{Script}
use Rattle.redo_grammar.specs.Texts.{IsScript, IsRefused, IsScriptOrRefused}
use Rattle.redo_script.specs.Texts.{script_in}
use Rattle.redo_grammar.proofs.WholeScriptLemmas.{found_scripts, only_scripts}
use Rattle.redo_grammar.proofs.RefusedTextLemmas.{refused_text}
use Rattle.redo_grammar.proofs.OneFaultLemmas.{answered}

by_reading : (text : List ℕ) (r : Result Script ScriptFault) → script_in text ≡ r → IsScriptOrRefused text
by_reading text (Ok script) e = inl (script, found_scripts text script e)
by_reading text (Err fault) e = inr (fault, refused_text text fault e)

pub each_text : (text : List ℕ) → IsScriptOrRefused text
each_text text = by_reading text (script_in text) refl

pub never_both : (text : List ℕ) (script : Script) (fault : ScriptFault) → IsScript text script → IsRefused text fault → ⊥
never_both text script fault h k =
    let same : ◌≡◌ {A = Result Script ScriptFault} (Ok script) (Err fault) = sym (only_scripts text script h) ∙ answered text fault k in cc

pub one_fault : (text : List ℕ) (fault other : ScriptFault) → IsRefused text fault → IsRefused text other → fault ≡ other
one_fault text fault other h k =
    let same : ◌≡◌ {A = Result Script ScriptFault} (Err fault) (Err other) = sym (answered text fault h) ∙ answered text other k in cc
