-- A text is a script by the grammar where it is read as one, and has one tree.
use Rattle.std.proofs.Common.{◌≡◌, ℕ, true, ◌==◌, List, [], ◌∷◌, Ok, refl, sym, ◌∙◌, inl, inr}
use Rattle.std.proofs.lemmas.Bool.{cases_Bool}
use Rattle.redo_script.specs.Faults.{◌>>=◌}
use Rattle.redo_script.specs.Syntax.{Script}
use Rattle.redo_script.specs.Tokens.{line_after}
use Rattle.redo_script.specs.Reading.{tokens_of}
use Rattle.redo_script.specs.Parsing.{statements_of}
use Rattle.redo_grammar.specs.Texts.{IsScript}
use Rattle.redo_script.specs.Texts.{has_no_nul, nul_from, interpreter_is_fit, interpreter_of, script_in}
use Rattle.redo_script.proofs.BitLemmas.{never, injected}
use Rattle.redo_grammar.proofs.ByteLemmas.{bind_ok}
use Rattle.redo_grammar.proofs.OnlyTokenLemmas.{only_tokens}
use Rattle.redo_grammar.proofs.FoundTokenLemmas.{found_tokens}
use Rattle.redo_grammar.proofs.OnlyScriptLemmas.{only_programs}
use Rattle.redo_grammar.proofs.FoundScriptLemmas.{found_programs}
use Rattle.redo_grammar.proofs.RefusedTextLemmas.{nul_passes}

no_nul_found : (text : List ℕ) (line : ℕ) (x : List ℕ) → nul_from line text ≡ Ok x → has_no_nul text ≡ true
no_nul_found [] line x h = refl
no_nul_found (b ∷ bs) line x h = elim (cases_Bool (b == 0)) [
  | inl e ↦ never (rw e at h)
  | inr e ↦ rw e (no_nul_found bs (line_after line b) x (rw e at h))
]

fit_found : (text x : List ℕ) → interpreter_of text ≡ Ok x → interpreter_is_fit text ≡ true
fit_found text x h = elim (cases_Bool (interpreter_is_fit text)) [ inl e ↦ e | inr e ↦ never (rw e at h) ]

pub only_scripts : (text : List ℕ) (s : Script) → IsScript text s → script_in text ≡ Ok s
unfolding script_in
only_scripts text s g =
    rw (nul_passes text 1 g.no_nul, g.interpreter, only_tokens text g.tokens g.are_tokens) (only_programs g.tokens s g.statements)

pub found_scripts : (text : List ℕ) (s : Script) → script_in text ≡ Ok s → IsScript text s
unfolding script_in
found_scripts text s h =
    let one = bind_ok (nul_from 1 text) (λ none. interpreter_of text >>= λ fit. tokens_of text >>= statements_of) s h in
    let two = bind_ok (interpreter_of text) (λ fit. tokens_of text >>= statements_of) s one.2 in
    let three = bind_ok (tokens_of text) statements_of s two.2 in
    record {
      tokens = three.0;
      no_nul = no_nul_found text 1 one.0 one.1;
      interpreter = fit_found text two.0 two.1;
      are_tokens = found_tokens text three.0 three.1;
      statements = found_programs three.0 s three.2;
    }

pub one_tree : (text : List ℕ) (s t : Script) → IsScript text s → IsScript text t → s ≡ t
one_tree text s t g k = injected (sym (only_scripts text s g) ∙ only_scripts text t k)
