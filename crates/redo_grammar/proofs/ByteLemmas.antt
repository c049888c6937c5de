-- What `>` and what stands behind `$` do to reading.
use Rattle.std.proofs.Common.{◌≡◌, ℕ, Bool, true, false, ◌&&◌, List, [], ◌∷◌, ◌++◌, Ok, refl, sym, ap, ◌∙◌}
use Rattle.std.proofs.Common.{append_assoc, if◌then◌else◌, Result, Err}
use Rattle.std.proofs.lemmas.List.{append-nil}
use Rattle.std.proofs.lemmas.Bool.{ne_eqb}
use Rattle.redo_script.specs.declared.ast.Parameter.{Parameter}
use Rattle.redo_script.specs.Faults.{◌>>=◌}
use Rattle.redo_script.specs.Syntax.{quoted, bare, named_quoted, named_bare}
use Rattle.redo_script.specs.Tokens.{redirect, IsNotBefore}
use Rattle.redo_grammar.specs.Tokens.{Names, one, two, three, AtNameEnd, EndsName, ends_here, one_more}
use Rattle.redo_script.specs.Reading.{Reader, next_byte, at_end, read_on}
use Rattle.redo_script.proofs.BitLemmas.{never}
use Rattle.redo_script.specs.declared.fault.ScriptFault.{ScriptFault}
use Rattle.redo_script.proofs.OneByteLemmas.{at, symbol_more, token_more}
use Rattle.redo_script.specs.declared.lexer.Mode.TheVariants as modes

pub bind_ok : {A C : Type 0} (m : Result A ScriptFault) (f : A → Result C ScriptFault) (x : C) → (m >>= f) ≡ Ok x → (a : A) × (m ≡ Ok a) × (f a ≡ Ok x)
bind_ok (Ok a) f x h = (a, refl, h)
bind_ok (Err e) f x h = never h

pub number_on : (n d t f : Bool) → (n && (if d then t else f)) ≡ false → ((n && d) && t) ≡ false
number_on false d t f h = refl
number_on true true t f h = h
number_on true false t f h = refl

pub number_back : (n d t f : Bool) → ((n && d) && t) ≡ false → f ≡ false → (n && (if d then t else f)) ≡ false
number_back false d t f h e = refl
number_back true true t f h e = h
number_back true false t f h e = e

-- within a word that isn't plain bytes alone
abbrev pub ill : Reader → Reader
ill r = record r { is_plain = false; is_number = false }

pub redirect_gap : (l : ℕ) (r : Reader) (bs : List ℕ) → IsNotBefore 62 bs → read_on (at modes.Redirect l r) bs ≡ read_on (at modes.Gap l (token_more r (redirect l false))) bs
unfolding read_on next_byte at_end
redirect_gap l r [] n = refl
redirect_gap l r (b ∷ bs) n = rw (ne_eqb b 62 n) refl

pub dollar_named : (l : ℕ) (r : Reader) (c : ℕ) (k : Parameter) (bs : List ℕ) → Names c k → read_on (at modes.Dollar l r) (c ∷ bs) ≡ read_on (at modes.Word l (symbol_more r (bare k))) bs
unfolding read_on next_byte
dollar_named l r c k bs one = refl
dollar_named l r c k bs two = refl
dollar_named l r c k bs three = refl

pub quoted_dollar_named : (l : ℕ) (r : Reader) (c : ℕ) (k : Parameter) (bs : List ℕ) → Names c k → read_on (at modes.QuotedDollar l r) (c ∷ bs) ≡ read_on (at modes.Double l (symbol_more r (quoted k))) bs
unfolding read_on next_byte
quoted_dollar_named l r c k bs one = refl
quoted_dollar_named l r c k bs two = refl
quoted_dollar_named l r c k bs three = refl

-- a name behind `$`
abbrev pub name_begun : Reader → ℕ → Reader
name_begun r b = record r { name = b ∷ [] }

abbrev pub name_more : Reader → List ℕ → Reader
name_more r name = record r { name = r.name ++ name }

-- a name ends
abbrev pub name_ended : Reader → Reader
name_ended r = symbol_more r (named_bare r.name)

abbrev pub quoted_name_ended : Reader → Reader
quoted_name_ended r = symbol_more r (named_quoted r.name)

pub name_ends : (l : ℕ) (r : Reader) (bs : List ℕ) → AtNameEnd bs → read_on (at modes.Name l r) bs ≡ read_on (at modes.Word l (name_ended r)) bs
unfolding read_on next_byte at_end
name_ends l r [] e = refl
name_ends l r (b ∷ bs) e = rw e refl

pub quoted_name_ends : (l : ℕ) (r : Reader) (bs : List ℕ) → AtNameEnd bs → read_on (at modes.QuotedName l r) bs ≡ read_on (at modes.Double l (quoted_name_ended r)) bs
unfolding read_on next_byte at_end
quoted_name_ends l r [] e = refl
quoted_name_ends l r (b ∷ bs) e = rw e refl

pub name_read : {bs name rest : List ℕ} → EndsName bs name rest → (l : ℕ) (r : Reader) → read_on (at modes.Name l r) bs ≡ read_on (at modes.Word l (name_ended (name_more r name))) rest
unfolding read_on next_byte
name_read (ends_here {bs} e) l r = name_ends l r bs e ∙ ap (λ (n : List ℕ). read_on (at modes.Word l (name_ended (record r { name = n }))) bs) (sym (append-nil r.name))
name_read (one_more {b} {bs} {name} {rest} e g) l r = rw e (name_read g l (name_more r (b ∷ [])) ∙ ap (λ (n : List ℕ). read_on (at modes.Word l (name_ended (record r { name = n }))) rest) (append_assoc r.name (b ∷ []) name))

pub quoted_name_read : {bs name rest : List ℕ} → EndsName bs name rest → (l : ℕ) (r : Reader) → read_on (at modes.QuotedName l r) bs ≡ read_on (at modes.Double l (quoted_name_ended (name_more r name))) rest
unfolding read_on next_byte
quoted_name_read (ends_here {bs} e) l r = quoted_name_ends l r bs e ∙ ap (λ (n : List ℕ). read_on (at modes.Double l (quoted_name_ended (record r { name = n }))) bs) (sym (append-nil r.name))
quoted_name_read (one_more {b} {bs} {name} {rest} e g) l r = rw e (quoted_name_read g l (name_more r (b ∷ [])) ∙ ap (λ (n : List ℕ). read_on (at modes.Double l (quoted_name_ended (record r { name = n }))) rest) (append_assoc r.name (b ∷ []) name))
