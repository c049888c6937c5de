-- Where reading of bytes stops.
use Rattle.std.proofs.Common.{◌≡◌, ◌⊎◌, ℕ, ◌+◌, ◌-◌, true, ◌==◌, if◌then◌else◌, List, [], ◌∷◌, ◌++◌, length}
use Rattle.std.proofs.Common.{Some, None, Ok, Err, refl, sym, ◌∙◌, ap, subst, inl, inr, append_assoc, arith}
use Rattle.std.proofs.lemmas.Bool.{cases_Bool, eqb-true}
use Rattle.std.proofs.lemmas.List.{length-append}
use Rattle.redo_script.specs.declared.ast.Parameter.{Parameter}
use Rattle.redo_script.specs.declared.ast.Parameter.TheVariants.{One, Two, Three}
use Rattle.redo_script.specs.declared.fault.ScriptFault.{ScriptFault}
use Rattle.redo_script.specs.declared.lexer.Mode.{Mode}
use Rattle.redo_script.specs.Bytes.{begins_name}
use Rattle.redo_script.specs.Syntax.{Symbol, bare, quoted}
use Rattle.redo_script.specs.Tokens.{Token}
use Rattle.redo_grammar.specs.Tokens.{Names, one, two, three}
use Rattle.redo_script.specs.Reading.{Reader, at_start, with_name, parameter_named, with_parameter, next_byte, at_end}
use Rattle.redo_script.specs.Reading.{read_on, tokens_of}
use Rattle.redo_script.specs.Marks.{line_from, is_inside, is_dollar, stop_of}
use Rattle.redo_grammar.specs.Places.{CanGoOn, NeedsParameter, QuoteIsOpen, StopsAtByte, StopsAtEnd, StopsAt}
use Rattle.redo_script.proofs.BitLemmas.{never}
use Rattle.redo_grammar.proofs.ByteLemmas.{bind_ok}
use Rattle.redo_script.proofs.OneByteLemmas.{at}
use Rattle.redo_script.proofs.OpenQuoteLemmas.{inside_ends}
use Rattle.redo_script.proofs.StopMarkLemmas.{ByteStop, EndStop, ends_by, stopped}
use Rattle.redo_grammar.proofs.OnlyTokenLemmas.{only_tokens}
use Rattle.redo_grammar.proofs.FoundTokenLemmas.{found_tokens}
use Rattle.redo_script.proofs.LeadLemmas.{InQuote, Leads, Within, ends_in, further, goes_in, is_within, keeps}
use Rattle.redo_script.proofs.LeadLemmas.{leads_line, leads_on, leads_one, nowhere, reads_to, same_opened}
use Rattle.redo_script.specs.declared.fault.Reason.TheVariants as reasons
use Rattle.redo_script.specs.declared.lexer.Mode.TheVariants as modes

named : (b : ℕ) → ((p : Parameter) × Names b p) ⊎ (parameter_named b ≡ None)
named b = elim (cases_Bool (b == 49)) [
  | inl e ↦ inl (One, subst (λ (x : ℕ). Names x One) (sym (eqb-true b 49 e)) one)
  | inr e1 ↦ elim (cases_Bool (b == 50)) [
    | inl e ↦ inl (Two, subst (λ (x : ℕ). Names x Two) (sym (eqb-true b 50 e)) two)
    | inr e2 ↦ elim (cases_Bool (b == 51)) [
      | inl e ↦ inl (Three, subst (λ (x : ℕ). Names x Three) (sym (eqb-true b 51 e)) three)
      | inr e ↦ inr (rw (e1, e2, e) refl)
    ]
  ]
]

taken : {b : ℕ} {p : Parameter} → Names b p → parameter_named b ≡ Some p
taken one = refl
taken two = refl
taken three = refl

blank_names : (p : Parameter) → Names 32 p → ⊥
blank_names p g = let e : None ≡ Some p = taken g in cc e

-- Bytes that close what is open.
pub record Closes (r : Reader) : Type 0 where
  pub more : List ℕ
  pub tokens : List Token
  pub reads : read_on r more ≡ Ok tokens

mode_closes : (m : Mode) (r : Reader) → Closes (at m r.line r)
unfolding read_on next_byte at_end
mode_closes modes.Gap r = record { more = []; tokens = _; reads = refl }
mode_closes modes.Semicolon r = record { more = []; tokens = _; reads = refl }
mode_closes modes.Redirect r = record { more = []; tokens = _; reads = refl }
mode_closes modes.Comment r = record { more = []; tokens = _; reads = refl }
mode_closes modes.Word r = record { more = []; tokens = _; reads = refl }
mode_closes modes.Dollar r = record { more = 49 ∷ []; tokens = _; reads = refl }
mode_closes modes.Name r = record { more = []; tokens = _; reads = refl }
mode_closes modes.Single r = record { more = 39 ∷ []; tokens = _; reads = refl }
mode_closes modes.Double r = record { more = 34 ∷ []; tokens = _; reads = refl }
mode_closes modes.QuotedDollar r = record { more = 49 ∷ 34 ∷ []; tokens = _; reads = refl }
mode_closes modes.QuotedName r = record { more = 34 ∷ []; tokens = _; reads = refl }
mode_closes modes.Escape r = record { more = 92 ∷ 34 ∷ []; tokens = _; reads = refl }

closes : (r : Reader) → Closes r
closes r = mode_closes r.mode r

pub can_go_on : (before : List ℕ) (last : Reader) → Leads at_start before last → CanGoOn before
unfolding tokens_of
can_go_on before last k =
    let c = closes last in
    record { more = c.more; tokens = c.tokens; are_tokens = found_tokens (before ++ c.more) c.tokens (leads_on c.more k ∙ c.reads) }

pub can_not : (before : List ℕ) (b : ℕ) (last : Reader) (fault : ScriptFault) → Leads at_start before last → next_byte last b ≡ Err fault → CanGoOn (before ++ b ∷ []) → ⊥
unfolding tokens_of read_on
can_not before b last fault k e g =
    let all : read_on at_start ((before ++ b ∷ []) ++ g.more) ≡ Ok g.tokens = only_tokens ((before ++ b ∷ []) ++ g.more) g.tokens g.are_tokens in
    let stuck : read_on at_start (before ++ b ∷ g.more) ≡ Err fault = leads_on (b ∷ g.more) k ∙ rw e refl in
    let same : (before ++ b ∷ []) ++ g.more ≡ before ++ b ∷ g.more = append_assoc before (b ∷ []) g.more in
    never (sym stuck ∙ (rw same at all))

-- a beginning of what stands inside quotes leaves reading there
record Stays (r : Reader) (bs : List ℕ) : Type 0 where
  last : Reader
  leads : Leads r bs last
  is_in : is_inside last.mode ≡ true

cut : {r last : Reader} {bs : List ℕ} (x y : List ℕ) → Within r bs last → bs ≡ x ++ y → Stays r x
cut {r} [] y k e = record { last = r; leads = nowhere; is_in = is_within k }
cut (c ∷ x) y (ends_in i) e = absurd (cc e)
cut (c ∷ x) y (goes_in {r} {r'} {last} {b} {bs} i n k) e =
    let same : b ≡ c = cc e in
    let others : bs ≡ x ++ y = cc e in
    let on = cut x y k others in
    let one : next_byte r c ≡ Ok r' = ap (λ v. next_byte r v) (sym same) ∙ n in
    record { last = on.last; leads = further one on.leads; is_in = on.is_in }

pub quote_is_open : (text : List ℕ) (last : Reader) (fault : ScriptFault) → InQuote at_start text last → fault ≡ record { line = last.opened; why = reasons.OpenQuote } → QuoteIsOpen text fault
unfolding tokens_of read_on
quote_is_open text last fault q f = record {
  before = q.before;
  quote = q.quote;
  inside = q.inside;
  is = q.is;
  is_quote = q.opens.is_quote;
  tokens = q.opens.may_end.tokens;
  has_tokens = found_tokens q.before q.opens.may_end.tokens (reads_to q.leads ∙ q.opens.may_end.ends);
  is_longest = λ x y ts e g. no_longer x ts (cut x y q.within e) (only_tokens (q.before ++ q.quote ∷ x) ts g);
  fault_is = rw (same_opened q.within, q.opens.here, leads_line q.leads) at f;
}
  where
    no_longer : (x : List ℕ) (ts : List Token) → Stays q.inner x → read_on at_start (q.before ++ q.quote ∷ x) ≡ Ok ts → ⊥
    no_longer x ts s h =
        let stuck = inside_ends s.last.mode s.last s.is_in in
        let on : read_on q.mid (q.quote ∷ x) ≡ read_on q.inner x = rw q.step refl in
        let all : read_on at_start (q.before ++ q.quote ∷ x) ≡ Err stuck.0 = leads_on (q.quote ∷ x) q.leads ∙ (on ∙ (reads_to s.leads ∙ stuck.1)) in
        never (sym all ∙ h)

-- it is that quote
pub quote_place : (text : List ℕ) (last : Reader) (fault : ScriptFault) (q : InQuote at_start text last) (f : fault ≡ record { line = last.opened; why = reasons.OpenQuote }) → (quote_is_open text last fault q f).before ≡ q.before
unfolding quote_is_open
quote_place text last fault q f = refl

-- one more byte can come
goes_on : (text : List ℕ) (last next : Reader) (b : ℕ) → Leads at_start text last → next_byte last b ≡ Ok next → CanGoOn (text ++ b ∷ [])
goes_on text last next b k e = can_go_on (text ++ b ∷ []) next (leads_one b k e)

-- behind a `$` only a digit or a name can come
digit_next : (text : List ℕ) (last : Reader) (m n : Mode) (symbol : Parameter → Symbol) → Leads at_start text last → ((b : ℕ) → next_byte last b ≡ (if begins_name b then Ok (with_name last n b) else with_parameter last m symbol (parameter_named b))) → NeedsParameter text
digit_next text last m n symbol k e b g = elim (named b) [
  | inl n ↦ inl n
  | inr none ↦ elim (cases_Bool (begins_name b)) [
    | inl t ↦ inr t
    | inr f ↦ absurd (can_not text b last (record { line = last.line; why = reasons.Unsupported }) k (rw (e b, f, none) refl) g)
  ]
]

-- a blank in quotes stands for itself
no_digit : (text : List ℕ) (last next : Reader) → Leads at_start text last → next_byte last 32 ≡ Ok next → NeedsParameter text → ⊥
no_digit text last next k e g = elim (g 32 (goes_on text last next 32 k e)) [ inl n ↦ blank_names n.0 n.1 | inr b ↦ cc b ]

abbrev pub EndsAs : List ℕ → Reader → ScriptFault → Type 0
EndsAs text r fault =
    (NeedsParameter text × (fault ≡ record { line = r.line; why = reasons.Unsupported }))
    ⊎ ((NeedsParameter text → ⊥) × (is_inside r.mode ≡ true) × (fault ≡ record { line = r.opened; why = reasons.OpenQuote }))

pub end_fault : (text : List ℕ) (m : Mode) (r : Reader) (fault : ScriptFault) → Leads at_start text (at m r.line r) → at_end (at m r.line r) ≡ Err fault → EndsAs text (at m r.line r) fault
unfolding at_end next_byte
end_fault text modes.Gap r fault k h = absurd (cc h)
end_fault text modes.Semicolon r fault k h = absurd (cc h)
end_fault text modes.Redirect r fault k h = absurd (cc h)
end_fault text modes.Comment r fault k h = absurd (cc h)
end_fault text modes.Word r fault k h = absurd (cc h)
end_fault text modes.Dollar r fault k h = inl (digit_next text (at modes.Dollar r.line r) modes.Word modes.Name bare k (λ b. refl), cc h)
end_fault text modes.Name r fault k h = absurd (cc h)
end_fault text modes.QuotedDollar r fault k h = inl (digit_next text (at modes.QuotedDollar r.line r) modes.Double modes.QuotedName quoted k (λ b. refl), cc h)
end_fault text modes.QuotedName r fault k h = inr (no_digit text (at modes.QuotedName r.line r) _ k refl, refl, cc h)
end_fault text modes.Single r fault k h = inr (no_digit text (at modes.Single r.line r) _ k refl, refl, cc h)
end_fault text modes.Double r fault k h = inr (no_digit text (at modes.Double r.line r) _ k refl, refl, cc h)
end_fault text modes.Escape r fault k h = inr (no_digit text (at modes.Escape r.line r) _ k refl, refl, cc h)

byte_stop : (text : List ℕ) (fault : ScriptFault) (place : ℕ) → ByteStop text fault place → (stop : StopsAtByte text fault) × (length stop.before ≡ place)
byte_stop text fault place s = (
  record {
    before = s.before;
    byte = s.byte;
    after = s.after;
    is = s.is;
    can_go_on = can_go_on s.before s.last s.leads;
    stops = can_not s.before s.byte s.last fault s.leads s.stops;
    fault_is = let f : fault ≡ record { line = s.last.line; why = reasons.Unsupported } = rw s.stops at (keeps s.last s.byte) in rw (leads_line s.leads) at f;
  },
  s.is_place,
)

at_the_end : (text : List ℕ) (fault : ScriptFault) (place : ℕ) → EndStop text fault place → (NeedsParameter text × (fault ≡ record { line = line_from 1 text; why = reasons.Unsupported })) ⊎ ((NeedsParameter text → ⊥) × QuoteIsOpen text fault)
at_the_end text fault place s = elim (end_fault text s.last.mode s.last fault s.read.leads s.stops) [
  | inl e ↦ inl (e.0, rw (leads_line s.read.leads) at e.1)
  | inr q ↦ inr (q.0, quote_is_open text s.last fault (s.read.in_quote q.1).0 q.2)
]

pub stops_tokens : (text : List ℕ) (fault : ScriptFault) → tokens_of text ≡ Err fault → StopsAtByte text fault ⊎ StopsAtEnd text fault
stops_tokens text fault h = elim (stopped text fault h) [
  | inl s ↦ inl (byte_stop text fault (stop_of text) s).0
  | inr s ↦ inr (record { can_go_on = can_go_on text s.last s.read.leads; fault_is = at_the_end text fault (stop_of text) s })
]

-- the place at the end is that of the `$` or the quote
end_stop : (text : List ℕ) (fault : ScriptFault) (place : ℕ) → EndStop text fault place → StopsAt text fault place
end_stop text fault place s = elim (ends_by s.last fault s.stops) [
  | inl d ↦
      let last = s.read.behind_dollar d.0 in
      let here : place ≡ length text - 1 = rw d.0 at s.is_place in
      let size : length text ≡ length last.init + 1 = ap length last.is ∙ length-append last.init (last.last ∷ []) in
      inr (inl (needs d (at_the_end text fault place s), omega (arith, here, size)))
  | inr q ↦
      let o = s.read.in_quote q.1 in
      let here : place ≡ s.quote = rw q.0 at s.is_place in
      let stop : QuoteIsOpen text fault = quote_is_open text s.last fault o.0 q.2 in
      inr (inr (stop, ap length (quote_place text s.last fault o.0 q.2) ∙ (o.1 ∙ sym here)))
]
  where
    needs : (is_dollar s.last.mode ≡ true) × (fault ≡ record { line = s.last.line; why = reasons.Unsupported }) → (NeedsParameter text × (fault ≡ record { line = line_from 1 text; why = reasons.Unsupported })) ⊎ ((NeedsParameter text → ⊥) × QuoteIsOpen text fault) → NeedsParameter text
    needs d (inl n) = n.0
    needs d (inr q) =
        let unclosed : fault.why ≡ reasons.OpenQuote = ap (λ (f : ScriptFault). f.why) q.1.fault_is in
        let other : fault.why ≡ reasons.Unsupported = ap (λ (f : ScriptFault). f.why) d.1 in
        absurd (cc (sym unclosed ∙ other))

pub stops_at : (text : List ℕ) (fault : ScriptFault) → tokens_of text ≡ Err fault → StopsAt text fault (stop_of text)
stops_at text fault h = elim (stopped text fault h) [
  | inl s ↦ inl (byte_stop text fault (stop_of text) s)
  | inr s ↦ end_stop text fault (stop_of text) s
]

record LeadsToEnd (r : Reader) (text : List ℕ) (ts : List Token) : Type 0 where
  last : Reader
  leads : Leads r text last
  ends : at_end last ≡ Ok ts

lead_of : (text : List ℕ) (r : Reader) (ts : List Token) → read_on r text ≡ Ok ts → LeadsToEnd r text ts
unfolding read_on
lead_of [] r ts h = record { last = r; leads = nowhere; ends = h }
lead_of (b ∷ bs) r ts h =
    let one = bind_ok (next_byte r b) (λ q. read_on q bs) ts h in
    let on = lead_of bs one.0 ts one.2 in
    record { last = on.last; leads = further one.1 on.leads; ends = on.ends }

line_ends : (m : Mode) (r : Reader) (ts : List Token) → at_end (at m r.line r) ≡ Ok ts → (next : Reader) × (next_byte (at m r.line r) 10 ≡ Ok next)
unfolding next_byte at_end
line_ends modes.Gap r ts h = (_, refl)
line_ends modes.Semicolon r ts h = (_, refl)
line_ends modes.Redirect r ts h = (_, refl)
line_ends modes.Comment r ts h = (_, refl)
line_ends modes.Word r ts h = (_, refl)
line_ends modes.Dollar r ts h = never h
line_ends modes.Name r ts h = (_, refl)
line_ends modes.Single r ts h = never h
line_ends modes.Double r ts h = never h
line_ends modes.QuotedDollar r ts h = never h
line_ends modes.QuotedName r ts h = never h
line_ends modes.Escape r ts h = never h

-- a text that has tokens lacks no digit
pub lacks_none : (text : List ℕ) (ts : List Token) → tokens_of text ≡ Ok ts → NeedsParameter text → ⊥
unfolding tokens_of
lacks_none text ts h needs =
    let k = lead_of text at_start ts h in
    let next = line_ends k.last.mode k.last ts k.ends in
    elim (needs 10 (goes_on text k.last next.0 10 k.leads next.1)) [
      | inl n ↦ let e : None ≡ Some n.0 = taken n.1 in cc e
      | inr b ↦ cc b
    ]
