-- A text has at most one fault.
use Rattle.std.proofs.Common.{◌≡◌, ◌⊎◌, ℕ, true, ◌==◌, List, [], ◌∷◌, ◌++◌, Result, Ok, Err, refl, sym, ap}
use Rattle.std.proofs.Common.{◌∙◌, subst, append_assoc, inl, inr}
use Rattle.std.proofs.lemmas.Bool.{both_ways}
use Rattle.std.proofs.lemmas.List.{append-nil}
use Rattle.redo_script.specs.declared.fault.ScriptFault.{ScriptFault}
use Rattle.redo_script.specs.Tokens.{Token, line_after}
use Rattle.redo_grammar.specs.Tokens.{AreTokens}
use Rattle.redo_script.specs.Reading.{tokens_of}
use Rattle.redo_script.specs.Texts.{has_no_nul, nul_from, script_in}
use Rattle.redo_script.specs.Marks.{line_from}
use Rattle.redo_grammar.specs.Places.{CanGoOn, QuoteIsOpen, StopsAtByte, StopsAtEnd}
use Rattle.redo_grammar.specs.Refusals.{in_line}
use Rattle.redo_grammar.specs.Texts.{IsRefused, by_nul, by_interpreter, by_tokens, by_commands}
use Rattle.redo_grammar.proofs.OnlyTokenLemmas.{only_tokens}
use Rattle.redo_grammar.proofs.FoundTokenLemmas.{found_tokens}
use Rattle.redo_grammar.proofs.StopTokenLemmas.{stops_tokens, lacks_none}
use Rattle.redo_grammar.proofs.RefusedTextLemmas.{nul_passes}
use Rattle.redo_grammar.proofs.RefusingLemmas.{refusing}
use Rattle.redo_script.specs.declared.fault.Reason.TheVariants as reasons

-- the second beginning goes on behind the first and the byte behind that
record Longer (x : List ℕ) (b : ℕ) (y x' y' : List ℕ) : Type 0 where
  more : List ℕ
  is : x' ≡ x ++ b ∷ more
  behind : y ≡ more ++ y'

longer_by : (a b : ℕ) (x y x' y' : List ℕ) → Longer x b y x' y' → Longer (a ∷ x) b y (a ∷ x') y'
longer_by a b x y x' y' g = record { more = g.more; is = ap (λ z. a ∷ z) g.is; behind = g.behind }

compared : (x x' : List ℕ) (b b' : ℕ) (y y' : List ℕ) → x ++ b ∷ y ≡ x' ++ b' ∷ y' → (x ≡ x') ⊎ (Longer x b y x' (b' ∷ y') ⊎ Longer x' b' y' x (b ∷ y))
compared [] [] b b' y y' e = inl refl
compared [] (c ∷ x') b b' y y' e =
    let one : b ≡ c = cc e in
    let on : y ≡ x' ++ b' ∷ y' = cc e in
    inr (inl (record { more = x'; is = rw one refl; behind = on }))
compared (c ∷ x) [] b b' y y' e =
    let one : b' ≡ c = cc e in
    let on : y' ≡ x ++ b ∷ y = cc e in
    inr (inr (record { more = x; is = rw one refl; behind = on }))
compared (c ∷ x) (d ∷ x') b b' y y' e =
    let one : c ≡ d = cc e in
    let on : x ++ b ∷ y ≡ x' ++ b' ∷ y' = cc e in
    elim (compared x x' b b' y y' on) [
      | inl same ↦ inl (rw (one, same) refl)
      | inr (inl g) ↦ inr (inl (rw one (longer_by d b x y x' (b' ∷ y') g)))
      | inr (inr g) ↦ inr (inr (rw one (longer_by d b' x' y' x (b ∷ y) g)))
    ]

-- a beginning of what can go on can go on
shorter_goes : (x y all : List ℕ) → all ≡ x ++ y → CanGoOn all → CanGoOn x
shorter_goes x y all e g = record {
  more = y ++ g.more;
  tokens = g.tokens;
  are_tokens = subst (λ (z : List ℕ). AreTokens z g.tokens) (ap (λ (z : List ℕ). z ++ g.more) e ∙ append_assoc x y g.more) g.are_tokens;
}

same_bytes_stop : (text : List ℕ) (f g : ScriptFault) → StopsAtByte text f → StopsAtByte text g → f ≡ g
same_bytes_stop text f g s t = elim (compared s.before t.before s.byte t.byte s.after t.after (sym s.is ∙ t.is)) [
  | inl e ↦ s.fault_is ∙ (ap (λ x. in_line (line_from 1 x) reasons.Unsupported) e ∙ sym t.fault_is)
  | inr (inl l) ↦ absurd (s.stops (shorter_goes (s.before ++ s.byte ∷ []) l.more t.before (l.is ∙ sym (append_assoc s.before (s.byte ∷ []) l.more)) t.can_go_on))
  | inr (inr l) ↦ absurd (t.stops (shorter_goes (t.before ++ t.byte ∷ []) l.more s.before (l.is ∙ sym (append_assoc t.before (t.byte ∷ []) l.more)) s.can_go_on))
]

stops_before_end : {C : Type 0} (text : List ℕ) (f : ScriptFault) → StopsAtByte text f → CanGoOn text → C
stops_before_end text f s g = absurd (s.stops (shorter_goes (s.before ++ s.byte ∷ []) s.after text (s.is ∙ sym (append_assoc s.before (s.byte ∷ []) s.after)) g))

same_quotes : (text : List ℕ) (f g : ScriptFault) → QuoteIsOpen text f → QuoteIsOpen text g → f ≡ g
same_quotes text f g s t = elim (compared s.before t.before s.quote t.quote s.inside t.inside (sym s.is ∙ t.is)) [
  | inl e ↦ s.fault_is ∙ (ap (λ x. in_line (line_from 1 x) reasons.OpenQuote) e ∙ sym t.fault_is)
  | inr (inl l) ↦ absurd (s.is_longest l.more (t.quote ∷ t.inside) t.tokens l.behind (subst (λ (x : List ℕ). AreTokens x t.tokens) l.is t.has_tokens))
  | inr (inr l) ↦ absurd (t.is_longest l.more (s.quote ∷ s.inside) s.tokens l.behind (subst (λ (x : List ℕ). AreTokens x s.tokens) l.is s.has_tokens))
]

same_ends : (text : List ℕ) (f g : ScriptFault) → StopsAtEnd text f → StopsAtEnd text g → f ≡ g
same_ends text f g s t = elim s.fault_is [
  | inl a ↦ elim t.fault_is [ inl b ↦ a.1 ∙ sym b.1 | inr b ↦ absurd (b.0 a.0) ]
  | inr a ↦ elim t.fault_is [ inl b ↦ absurd (a.0 b.0) | inr b ↦ same_quotes text f g a.1 b.1 ]
]

same_stop : (text : List ℕ) (f g : ScriptFault) → StopsAtByte text f ⊎ StopsAtEnd text f → StopsAtByte text g ⊎ StopsAtEnd text g → f ≡ g
same_stop text f g (inl s) (inl t) = same_bytes_stop text f g s t
same_stop text f g (inl s) (inr t) = stops_before_end text f s t.can_go_on
same_stop text f g (inr s) (inl t) = stops_before_end text g t s.can_go_on
same_stop text f g (inr s) (inr t) = same_ends text f g s t

no_tokens : {C : Type 0} (text : List ℕ) (ts : List Token) (f : ScriptFault) → tokens_of text ≡ Ok ts → StopsAtByte text f ⊎ StopsAtEnd text f → C
no_tokens text ts f h (inl s) = stops_before_end text f s (record { more = []; tokens = ts; are_tokens = subst (λ (x : List ℕ). AreTokens x ts) (sym (append-nil text)) (found_tokens text ts h) })
no_tokens text ts f h (inr s) = elim s.fault_is [
  | inl a ↦ absurd (lacks_none text ts h a.0)
  | inr a ↦ absurd (a.1.is_longest a.1.inside [] ts (sym (append-nil a.1.inside)) (subst (λ (x : List ℕ). AreTokens x ts) a.1.is (found_tokens text ts h)))
]

pub stopped : (text : List ℕ) (fault : ScriptFault) → StopsAtByte text fault ⊎ StopsAtEnd text fault → tokens_of text ≡ Err fault
stopped text fault s = go (tokens_of text) refl
  where
    go : (x : Result (List Token) ScriptFault) → tokens_of text ≡ x → x ≡ Err fault
    go (Ok ts) e = no_tokens text ts fault e s
    go (Err f) e = ap (λ x. Err x) (same_stop text f fault (stops_tokens text f e) s)

nul_found : (before after : List ℕ) (line : ℕ) → has_no_nul before ≡ true → nul_from line (before ++ 0 ∷ after) ≡ Err (in_line (line_from line before) reasons.Nul)
nul_found [] after line h = refl
nul_found (b ∷ before) after line h = elim (Rattle.std.proofs.lemmas.Bool.cases_Bool (b == 0)) [
  | inl e ↦ absurd (both_ways true (sym (rw e at h)) refl)
  | inr e ↦ rw e (nul_found before after (line_after line b) (rw e at h))
]

pub answered : (text : List ℕ) (fault : ScriptFault) → IsRefused text fault → script_in text ≡ Err fault
unfolding script_in
answered text fault (by_nul g) =
    let e : nul_from 1 text ≡ Err fault = ap (λ x. nul_from 1 x) g.is ∙ (nul_found g.before g.after 1 g.is_first ∙ ap (λ x. Err x) (sym g.fault_is)) in
    rw e refl
answered text fault (by_interpreter n e) = rw (nul_passes text 1 n, e) refl
answered text fault (by_tokens n e s) = rw (nul_passes text 1 n, e, stopped text fault s) refl
answered text fault (by_commands {ts} n e g s) = rw (nul_passes text 1 n, e, only_tokens text ts g) (refusing ts fault s)
