-- A text that isn't read has the fault of the first pass that has one.
use Rattle.std.proofs.Common.{◌≡◌, ◌⊎◌, ℕ, true, ◌==◌, List, [], ◌∷◌, ◌++◌, Result, Ok, Err, refl, ap, subst, inl}
use Rattle.std.proofs.Common.{inr}
use Rattle.std.proofs.lemmas.Bool.{cases_Bool, eqb-true}
use Rattle.redo_script.specs.declared.fault.ScriptFault.{ScriptFault}
use Rattle.redo_script.specs.Faults.{◌>>=◌}
use Rattle.redo_script.specs.Syntax.{Script}
use Rattle.redo_script.specs.Tokens.{Token, line_after}
use Rattle.redo_script.specs.Reading.{tokens_of}
use Rattle.redo_script.specs.Parsing.{statements_of}
use Rattle.redo_script.specs.Texts.{has_no_nul, nul_from, interpreter_is_fit, script_in}
use Rattle.redo_script.specs.Marks.{line_from}
use Rattle.redo_grammar.specs.Refusals.{in_line}
use Rattle.redo_grammar.specs.Texts.{IsRefused, by_nul, by_interpreter, by_tokens, by_commands}
use Rattle.redo_grammar.proofs.FoundTokenLemmas.{found_tokens}
use Rattle.redo_grammar.proofs.StopTokenLemmas.{stops_tokens}
use Rattle.redo_grammar.proofs.RefusedLemmas.{refused}
use Rattle.redo_script.specs.declared.fault.Reason.TheVariants as reasons

-- where the first byte 0 is, from this line on
record FirstNul (line : ℕ) (text : List ℕ) (fault : ScriptFault) : Type 0 where
  before : List ℕ
  after : List ℕ
  is : text ≡ before ++ 0 ∷ after
  is_first : has_no_nul before ≡ true
  fault_is : fault ≡ in_line (line_from line before) reasons.Nul

nul_stands : (text : List ℕ) (line : ℕ) → (has_no_nul text ≡ true) ⊎ ((fault : ScriptFault) × (nul_from line text ≡ Err fault) × FirstNul line text fault)
nul_stands [] line = inl refl
nul_stands (b ∷ bs) line = elim (cases_Bool (b == 0)) [
  | inl e ↦ inr (in_line line reasons.Nul, rw e refl, record { before = []; after = bs; is = ap (λ x. x ∷ bs) (eqb-true b 0 e); is_first = refl; fault_is = refl })
  | inr e ↦ elim (nul_stands bs (line_after line b)) [
    | inl none ↦ inl (rw e none)
    | inr f ↦ inr (f.0, rw e f.1, record { before = b ∷ f.2.before; after = f.2.after; is = ap (λ x. b ∷ x) f.2.is; is_first = rw e f.2.is_first; fault_is = f.2.fault_is })
  ]
]

pub nul_passes : (text : List ℕ) (line : ℕ) → has_no_nul text ≡ true → nul_from line text ≡ Ok []
nul_passes [] line h = refl
nul_passes (b ∷ bs) line h = elim (cases_Bool (b == 0)) [
  | inl e ↦ absurd (cc (rw e at h))
  | inr e ↦ rw e (nul_passes bs (line_after line b) (rw e at h))
]

same_fault : (f fault : ScriptFault) → (let left : Result Script ScriptFault = Err f in left ≡ Err fault) → f ≡ fault
same_fault f fault h = cc h

by_pass : (text : List ℕ) (fault : ScriptFault) → has_no_nul text ≡ true → script_in text ≡ Err fault → IsRefused text fault
unfolding script_in
by_pass text fault none h = elim (cases_Bool (interpreter_is_fit text)) [
  | inr e ↦
      let f : in_line 1 reasons.Interpreter ≡ fault = same_fault _ fault (rw (nul_passes text 1 none, e) at h) in
      subst (λ (x : ScriptFault). IsRefused text x) f (by_interpreter none e)
  | inl e ↦ go e (tokens_of text) refl (rw (nul_passes text 1 none, e) at h)
]
  where
    go : interpreter_is_fit text ≡ true → (x : Result (List Token) ScriptFault) → tokens_of text ≡ x → (tokens_of text >>= statements_of) ≡ Err fault → IsRefused text fault
    go fit (Ok ts) e k = by_commands none fit (found_tokens text ts e) (refused ts fault (rw e at k))
    go fit (Err f) e k =
        let same : f ≡ fault = same_fault f fault (rw e at k) in
        subst (λ (x : ScriptFault). IsRefused text x) same (by_tokens none fit (stops_tokens text f e))

pub refused_text : (text : List ℕ) (fault : ScriptFault) → script_in text ≡ Err fault → IsRefused text fault
unfolding script_in
refused_text text fault h = elim (nul_stands text 1) [
  | inl none ↦ by_pass text fault none h
  | inr f ↦
      let same : f.0 ≡ fault = same_fault f.0 fault (rw f.1 at h) in
      subst (λ (x : ScriptFault). IsRefused text x) same (by_nul (record { before = f.2.before; after = f.2.after; is = f.2.is; is_first = f.2.is_first; fault_is = f.2.fault_is }))
]
