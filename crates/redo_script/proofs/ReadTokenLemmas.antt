-- Reading token after token, as a loop does.
use Rattle.std.proofs.Common.{◌≡◌, ◌≢◌, false, List, [], ◌∷◌, Option, Some, None, Result, Ok, Err, refl, sym, ap, inl}
use Rattle.std.proofs.Common.{inr, ℕ, zero, suc, ◌+◌, ◌<◌, length, drop, get_or, set, add-one, ◌∙◌, arith}
use Rattle.std.proofs.Math.Seq.{drop-cons}
use Rattle.std.proofs.lemmas.List.{drop-set-lt}
use Rattle.std.specs.Option.{is_some}
use Rattle.redo_script.specs.declared.fault.ScriptFault.{ScriptFault}
use Rattle.redo_script.specs.declared.statements.Statements.{Statements}
use Rattle.redo_script.specs.Faults.{Fails, no_memory}
use Rattle.redo_script.specs.Syntax.{Script}
use Rattle.redo_script.specs.Tokens.{Token}
use Rattle.redo_script.specs.Parsing.{Parser, next_token, end_by_phase, parse_on}
use Rattle.redo_script.specs.inside.Parser.{parser_of}
use Rattle.redo_script.specs.inside.Passes.{IsOn, ParsesOn}
use Rattle.redo_script.specs.inside.Calls.{Leaves}
use Rattle.redo_script.specs.declared.parser.Parser.{Parser as ParserTree}
use Rattle.std.specs.Prelude.{IfErr}
use Rattle.redo_script.specs.declared.fault.Reason.TheVariants as reasons
use Rattle.redo_script.proofs.BlameLemmas.{of_commands}

pub token_read : (p q : Parser) (t : Token) (ts : List Token) (total : Result Script ScriptFault) → next_token p t ≡ Ok q → parse_on p (t ∷ ts) ≡ total → parse_on q ts ≡ total
unfolding parse_on
token_read p q t ts total e h = rw e at h

pub token_fails : (p : Parser) (t : Token) (ts : List Token) (fault : ScriptFault) (total : Result Script ScriptFault) → Fails fault (next_token p t) → parse_on p (t ∷ ts) ≡ total → Fails fault total
unfolding parse_on
token_fails p t ts fault total (inl m) h = inl m
token_fails p t ts fault total (inr e) h = inr (sym (rw e at h))

-- a token that the parser read, or at which it stopped
pub one_more : {U : Type 0} (p : Parser) (new : ParserTree) (t : Token) (ts : List Token) (total : Result Script ScriptFault) (outcome : Result U ScriptFault) → Leaves parser_of new outcome (next_token p t) → parse_on p (t ∷ ts) ≡ total → ParsesOn (parser_of new) outcome ts total
one_more p new t ts total (Ok u) e h = token_read p (parser_of new) t ts total e h
one_more p new t ts total (Err f) e h = token_fails p t ts f total e h

pub is_read : (s : Statements) (ts : List Token) (total : Result Script ScriptFault) → s.fault ≡ None → IsOn s ts total → parse_on (parser_of s.parser) ts ≡ total
is_read s ts total none h = rw none at h

pub is_done : (s : Statements) (total : Result Script ScriptFault) → s.fault ≡ None → IsOn s [] total → end_by_phase (parser_of s.parser).phase (parser_of s.parser) ≡ total
unfolding parse_on
is_done s total none h = rw none at h

pub is_none : (kept : Option ScriptFault) → is_some kept ≡ false → kept ≡ None
is_none None e = refl
is_none (Some x) e = absurd (cc e)

-- a fault that isn't want of memory is the one that reading gives
pub is_kept : (fault : ScriptFault) (total : Result Script ScriptFault) → fault.why ≢ reasons.Memory → Fails fault total → total ≡ Err fault
is_kept fault total n (inl m) = absurd (n (ap (λ (f : ScriptFault). f.why) m))
is_kept fault total n (inr e) = e

-- want of memory is no fault that tokens have
pub is_wanting : (p : Parser) (ts : List Token) (fault : ScriptFault) → fault.why ≡ reasons.Memory → Fails fault (parse_on p ts) → fault ≡ no_memory
is_wanting p ts fault m (inl e) = e
is_wanting p ts fault m (inr e) = absurd (of_commands p ts fault e m)

-- the same, of what was kept of some tokens
pub keeps_wanting : {U V : Type 0} (p q : Parser) (ts : List Token) (outcome : Result U ScriptFault) (kept : Result V ScriptFault) → ParsesOn q outcome [] (parse_on p ts) → IfErr kept (λ fault. (fault.why ≡ reasons.Memory) × (outcome ≡ Err fault)) → IfErr kept (λ fault. fault ≡ no_memory)
keeps_wanting p q ts outcome (Ok v) h k = tt
keeps_wanting p q ts outcome (Err f) h k = is_wanting p ts f k.0 (rw k.1 at h)

drop_next : {A : Type 0} (xs : List A) (i : ℕ) (x : A) (rest : List A) → drop i xs ≡ x ∷ rest → drop (suc i) xs ≡ rest
drop_next [] zero x rest h = absurd (cc h)
drop_next (y ∷ ys) zero x rest h = cc h
drop_next [] (suc i) x rest h = absurd (cc h)
drop_next (y ∷ ys) (suc i) x rest h = drop_next ys i x rest h

-- a token more, which leaves another one in its place
pub tokens_next : {A : Type 0} (olds nows : List A) (k : ℕ) (token left : A) → k < length nows → get_or nows k token ≡ token → drop k nows ≡ drop k olds → (drop k olds ≡ token ∷ drop (k + 1) olds) × (drop (k + 1) (set nows k left) ≡ drop (k + 1) olds)
tokens_next olds nows k token left lt at same =
    let here : drop k nows ≡ token ∷ drop (suc k) nows = drop-cons nows k token lt ∙ ap (λ x. x ∷ drop (suc k) nows) at in
    let next : drop (suc k) olds ≡ drop (suc k) nows = drop_next olds k token (drop (suc k) nows) (sym same ∙ here) in
    rw (add-one k) (sym same ∙ (here ∙ ap (λ xs. token ∷ xs) (sym next)), drop-set-lt (suc k) nows k left (omega arith) ∙ sym next)
