-- The place at which tokens stop, byte by byte.
use Rattle.std.proofs.Common.{◌≡◌, ◌≢◌, ◌⊎◌, ℕ, suc, ◌+◌, ◌-◌, ◌≤◌, ◌<◌, true, false, ◌==◌, if◌then◌else◌, List, []}
use Rattle.std.proofs.Common.{◌∷◌, ◌++◌, length, take, drop, get_or, Result, Ok, Err, Option, Some, None, IfOk, IfSome}
use Rattle.std.proofs.Common.{refl, sym, ap, ◌∙◌, subst, inl, inr, add-one, arith, append_assoc}
use Rattle.std.proofs.Math.Seq.{drop-cons, drop-length}
use Rattle.std.proofs.lemmas.Bool.{cases_Bool, eqb-true}
use Rattle.std.proofs.lemmas.List.{append-nil, length-append, take_at}
use Rattle.redo_script.specs.declared.fault.ScriptFault.{ScriptFault}
use Rattle.redo_script.specs.declared.fault.Reason.TheVariants as reasons
use Rattle.redo_script.specs.declared.lexer.Mode.{Mode}
use Rattle.redo_script.specs.declared.lexer.Mode.TheVariants as modes
use Rattle.redo_script.specs.declared.lexer.stops.Stop.{Stop}
use Rattle.redo_script.specs.Faults.{Fails}
use Rattle.redo_script.specs.Tokens.{Token, line_after}
use Rattle.redo_script.specs.Reading.{Reader, at_start, next_byte, at_end, read_on, tokens_of}
use Rattle.redo_script.specs.Marks.{line_from, is_inside, is_dollar, quote_after, stop_from, stop_of}
use Rattle.redo_script.specs.inside.Stops.{Ends, IsAtEnd, StopsWith}
use Rattle.redo_script.proofs.BitLemmas.{never, injected}
use Rattle.redo_script.proofs.OneByteLemmas.{at}
use Rattle.redo_script.proofs.OpenQuoteLemmas.{out, opens_from}
use Rattle.redo_script.proofs.LeadLemmas.{Leads, nowhere, leads_line, leads_one, keeps, Within, ends_in, goes_in}
use Rattle.redo_script.proofs.LeadLemmas.{same_opened, InQuote}

moded : (r last : Reader) → (let left : Result Reader ScriptFault = Ok r in left ≡ Ok last) → is_dollar r.mode ≡ false → is_dollar last.mode ≡ false
moded r last e n = let same : r ≡ last = injected e in subst (λ (q : Reader). is_dollar q.mode ≡ false) same n

-- a newline is no `$`
behind_newline : (m : Mode) (r last : Reader) → next_byte (at m r.line r) 10 ≡ Ok last → is_dollar last.mode ≡ false
unfolding next_byte
behind_newline modes.Gap r last e = moded _ last e refl
behind_newline modes.Semicolon r last e = moded _ last e refl
behind_newline modes.Redirect r last e = moded _ last e refl
behind_newline modes.Comment r last e = moded _ last e refl
behind_newline modes.Word r last e = moded _ last e refl
behind_newline modes.Dollar r last e = never e
behind_newline modes.Name r last e = moded _ last e refl
behind_newline modes.Single r last e = moded _ last e refl
behind_newline modes.Double r last e = moded _ last e refl
behind_newline modes.QuotedDollar r last e = never e
behind_newline modes.QuotedName r last e = moded _ last e refl
behind_newline modes.Escape r last e = never e

-- the quote that is open here, at this place
abbrev pub QuoteAt : List ℕ → Reader → ℕ → Type 0
QuoteAt text r quote = (o : InQuote at_start text r) × (length o.before ≡ quote)

-- the text ends with a byte in the same line
pub record EndsInLine (text : List ℕ) (r : Reader) : Type 0 where
  pub init : List ℕ
  pub last : ℕ
  pub is : text ≡ init ++ last ∷ []
  pub line_is : line_from 1 init ≡ r.line

-- what is known after these bytes
pub record Read (text : List ℕ) (r : Reader) (quote : ℕ) : Type 0 where
  pub leads : Leads at_start text r
  pub in_quote : is_inside r.mode ≡ true → QuoteAt text r quote
  pub behind_dollar : is_dollar r.mode ≡ true → EndsInLine text r

read_none : Read [] at_start 0
read_none = record { leads = nowhere; in_quote = λ h. out h; behind_dollar = λ h. out h }

within_one : {r mid last : Reader} {bs : List ℕ} (b : ℕ) → Within r bs mid → next_byte mid b ≡ Ok last → is_inside last.mode ≡ true → Within r (bs ++ b ∷ []) last
within_one b (ends_in i) e j = goes_in i e (ends_in j)
within_one b (goes_in i n k) e j = goes_in i n (within_one b k e j)

quote_on : (text : List ℕ) (r last : Reader) (b place quote : ℕ) → Read text r quote → next_byte r b ≡ Ok last → length text ≡ place → is_inside last.mode ≡ true → QuoteAt (text ++ b ∷ []) last (quote_after r.mode last.mode place quote)
quote_on text r last b place quote k e size j = elim (cases_Bool (is_inside r.mode)) [
  | inl i ↦
      let o = k.in_quote i in
      let q = o.0 in
      let kept : quote ≡ quote_after r.mode last.mode place quote = rw i refl in (
        record {
          before = q.before;
          quote = q.quote;
          inside = q.inside ++ b ∷ [];
          mid = q.mid;
          inner = q.inner;
          is = ap (λ l. l ++ b ∷ []) q.is ∙ append_assoc q.before (q.quote ∷ q.inside) (b ∷ []);
          leads = q.leads;
          opens = q.opens;
          step = q.step;
          within = within_one b q.within e j;
        },
        o.1 ∙ kept,
      )
  | inr i ↦
      let here : place ≡ quote_after r.mode last.mode place quote = rw (i, j) refl in (
        record {
          before = text;
          quote = b;
          inside = [];
          mid = r;
          inner = last;
          is = refl;
          leads = k.leads;
          opens = opens_from r.mode r last b i e j;
          step = e;
          within = ends_in j;
        },
        size ∙ here,
      )
]

dollar_on : (text : List ℕ) (r last : Reader) (b : ℕ) → Leads at_start text r → next_byte r b ≡ Ok last → is_dollar last.mode ≡ true → EndsInLine (text ++ b ∷ []) last
dollar_on text r last b k e d = elim (cases_Bool (b == 10)) [
  | inl n ↦ let no = behind_newline r.mode r last (rw (eqb-true b 10 n) at e) in out (sym no ∙ d)
  | inr n ↦
      let kept : last.line ≡ line_after r.line b = rw e at (keeps r b) in
      let same : line_after r.line b ≡ r.line = rw n refl in
      record { init = text; last = b; is = refl; line_is = sym (leads_line k) ∙ (sym same ∙ sym kept) }
]

-- one byte more
read_one : (text : List ℕ) (r last : Reader) (b place quote : ℕ) → Read text r quote → next_byte r b ≡ Ok last → length text ≡ place → Read (text ++ b ∷ []) last (quote_after r.mode last.mode place quote)
read_one text r last b place quote k e size = record {
  leads = leads_one b k.leads e;
  in_quote = quote_on text r last b place quote k e size;
  behind_dollar = dollar_on text r last b k.leads e;
}

-- they stop at the byte at this place
pub record ByteStop (text : List ℕ) (fault : ScriptFault) (place : ℕ) : Type 0 where
  pub before : List ℕ
  pub byte : ℕ
  pub after : List ℕ
  pub last : Reader
  pub is : text ≡ before ++ byte ∷ after
  pub leads : Leads at_start before last
  pub stops : next_byte last byte ≡ Err fault
  pub is_place : length before ≡ place

-- they stop at the end of the text, where this place is that of the `$` or the quote
pub record EndStop (text : List ℕ) (fault : ScriptFault) (place : ℕ) : Type 0 where
  pub last : Reader
  pub quote : ℕ
  pub read : Read text last quote
  pub stops : at_end last ≡ Err fault
  pub is_place : place ≡ (if is_dollar last.mode then length text - 1 else quote)

abbrev pub Stopped : List ℕ → ScriptFault → ℕ → Type 0
Stopped text fault place = ByteStop text fault place ⊎ EndStop text fault place

same_fault : (f fault : ScriptFault) → (let left : Result (List Token) ScriptFault = Err f in left ≡ Err fault) → (let left : Result Reader ScriptFault = Err f in left ≡ Err fault)
same_fault f fault h = let e : f ≡ fault = cc h in ap (λ x. Err x) e

one_longer : (text : List ℕ) (b place : ℕ) → length text ≡ place → length (text ++ b ∷ []) ≡ place + 1
one_longer text b place size = length-append text (b ∷ []) ∙ ap (λ n. n + 1) size

-- at the next byte, if not later
stopped_next : (b : ℕ) (bs before : List ℕ) (r : Reader) (place quote : ℕ) (fault : ScriptFault) → Read before r quote → length before ≡ place → read_on r (b ∷ bs) ≡ Err fault → ((last : Reader) → next_byte r b ≡ Ok last → read_on last bs ≡ Err fault → Stopped ((before ++ b ∷ []) ++ bs) fault (stop_from last (place + 1) (quote_after r.mode last.mode place quote) bs)) → (x : Result Reader ScriptFault) → next_byte r b ≡ x → Stopped (before ++ b ∷ bs) fault (stop_from r place quote (b ∷ bs))
unfolding read_on stop_from
stopped_next b bs before r place quote fault k size h later (Err f) e =
    rw e (inl (record {
      before = before;
      byte = b;
      after = bs;
      last = r;
      is = refl;
      leads = k.leads;
      stops = e ∙ same_fault f fault (rw e at h);
      is_place = size;
    }))
stopped_next b bs before r place quote fault k size h later (Ok last) e =
    let on = later last e (rw e at h) in
    rw e (rw (append_assoc before (b ∷ []) bs) at on)

stopped_from : (bs before : List ℕ) (r : Reader) (place quote : ℕ) (fault : ScriptFault) → Read before r quote → length before ≡ place → read_on r bs ≡ Err fault → Stopped (before ++ bs) fault (stop_from r place quote bs)
unfolding read_on stop_from
stopped_from [] before r place quote fault k size h =
    rw (append-nil before) (inr (record { last = r; quote = quote; read = k; stops = h; is_place = rw size refl }))
stopped_from (b ∷ bs) before r place quote fault k size h =
    stopped_next b bs before r place quote fault k size h (λ last e g. stopped_from bs (before ++ b ∷ []) last (place + 1) (quote_after r.mode last.mode place quote) fault (read_one before r last b place quote k e size) (one_longer before b place size) g) (next_byte r b) refl

-- tokens with a fault stop where the definition says
pub stopped : (text : List ℕ) (fault : ScriptFault) → tokens_of text ≡ Err fault → Stopped text fault (stop_of text)
unfolding tokens_of stop_of
stopped text fault h = stopped_from text [] at_start 0 0 fault read_none refl h

-- what reading says at the end of a text that stops there
abbrev pub EndsBy : Mode → Reader → ScriptFault → Type 0
EndsBy m r fault =
    ((is_dollar m ≡ true) × (fault ≡ record { line = r.line; why = reasons.Unsupported }))
    ⊎ ((is_dollar m ≡ false) × (is_inside m ≡ true) × (fault ≡ record { line = r.opened; why = reasons.OpenQuote }))

end_mode : (m : Mode) (r : Reader) (fault : ScriptFault) → at_end (at m r.line r) ≡ Err fault → EndsBy m r fault
unfolding at_end
end_mode modes.Gap r fault e = absurd (cc e)
end_mode modes.Semicolon r fault e = absurd (cc e)
end_mode modes.Redirect r fault e = absurd (cc e)
end_mode modes.Comment r fault e = absurd (cc e)
end_mode modes.Word r fault e = absurd (cc e)
end_mode modes.Dollar r fault e = inl (refl, cc e)
end_mode modes.Name r fault e = absurd (cc e)
end_mode modes.Single r fault e = inr (refl, refl, cc e)
end_mode modes.Double r fault e = inr (refl, refl, cc e)
end_mode modes.QuotedDollar r fault e = inl (refl, cc e)
end_mode modes.QuotedName r fault e = inr (refl, refl, cc e)
end_mode modes.Escape r fault e = inr (refl, refl, cc e)

pub ends_by : (r : Reader) (fault : ScriptFault) → at_end r ≡ Err fault → EndsBy r.mode r fault
ends_by r fault e = end_mode r.mode r fault e

-- a place in the text, in the fault's line
abbrev InLine : List ℕ → ScriptFault → ℕ → Type 0
InLine text fault place = (place ≤ length text) × (line_from 1 (take place text) ≡ fault.line)

in_line_at : (text before others : List ℕ) (fault : ScriptFault) (place : ℕ) → text ≡ before ++ others → length before ≡ place → line_from 1 before ≡ fault.line → InLine text fault place
in_line_at text before others fault place is size line =
    let all : length text ≡ length before + length others = ap length is ∙ length-append before others in
    let init : take place text ≡ before = ap (λ l. take place l) is ∙ take_at before others place size in
    (omega (arith, all, size), ap (λ l. line_from 1 l) init ∙ line)

stopped_line : (text : List ℕ) (fault : ScriptFault) (place : ℕ) → Stopped text fault place → InLine text fault place
stopped_line text fault place (inl s) =
    let found : fault ≡ record { line = s.last.line; why = reasons.Unsupported } = rw s.stops at (keeps s.last s.byte) in
    in_line_at text s.before (s.byte ∷ s.after) fault place s.is s.is_place (sym (leads_line s.leads) ∙ sym (ap (λ (f : ScriptFault). f.line) found))
stopped_line text fault place (inr s) = elim (ends_by s.last fault s.stops) [
  | inl d ↦
      let last = s.read.behind_dollar d.0 in
      let here : place ≡ length text - 1 = rw d.0 at s.is_place in
      let size : length text ≡ length last.init + 1 = ap length last.is ∙ length-append last.init (last.last ∷ []) in
      in_line_at text last.init (last.last ∷ []) fault place last.is (omega (arith, here, size)) (last.line_is ∙ sym (ap (λ (f : ScriptFault). f.line) d.1))
  | inr q ↦
      let o = s.read.in_quote q.1 in
      let here : place ≡ s.quote = rw q.0 at s.is_place in
      let opened : s.last.opened ≡ line_from 1 o.0.before = same_opened o.0.within ∙ (o.0.opens.here ∙ leads_line o.0.leads) in
      in_line_at text o.0.before (o.0.quote ∷ o.0.inside) fault place o.0.is (o.1 ∙ sym here) (sym opened ∙ sym (ap (λ (f : ScriptFault). f.line) q.2))
]

stops_with : (text : List ℕ) (stop : Stop) → tokens_of text ≡ Err stop.fault → stop.at ≡ stop_of text → StopsWith text stop
stops_with text stop e here =
    let known = stopped_line text stop.fault (stop_of text) (stopped text stop.fault e) in
    record { is_fault = e; place = here; within = rw here known.0; line_is = rw here known.1 }

-- what is known after the bytes before this place: reading the others gives what reading all gives
pub record Reads (text : List ℕ) (i : ℕ) (r : Reader) (quote : ℕ) : Type 0 where
  reads : tokens_of text ≡ read_on r (drop i text)
  stops : stop_of text ≡ stop_from r i quote (drop i text)

pub reads_none : (text : List ℕ) → Reads text 0 at_start 0
unfolding tokens_of stop_of
reads_none text = record { reads = refl; stops = refl }

-- one byte more of the text
pub reads_next : (text : List ℕ) (i quote : ℕ) (r last : Reader) (new : ℕ) → i < length text → Reads text i r quote → next_byte r (get_or text i 0) ≡ Ok last → new ≡ quote_after r.mode last.mode i quote → Reads text (i + 1) last new
unfolding read_on stop_from
reads_next text i quote r last new lt k e n =
    let here : drop i text ≡ get_or text i 0 ∷ drop (suc i) text = drop-cons text i 0 lt in
    let next : drop (i + 1) text ≡ drop (suc i) text = ap (λ m. drop m text) (add-one i) in
    record { reads = k.reads ∙ rw (here, e, next) refl; stops = k.stops ∙ rw (here, e, next, n) refl }

-- what reading gives, where memory doesn't run out
reads_so : {Y : Type 0} (fault : ScriptFault) (read : Result Y ScriptFault) → Fails fault read → fault.why ≢ reasons.Memory → read ≡ Err fault
reads_so fault read (inl e) other = absurd (other (ap (λ (f : ScriptFault). f.why) e))
reads_so fault read (inr e) other = e

-- what was found of these tokens
abbrev Finds : {E : Type 0} → List ℕ → Result (Option Stop) E → Type 0
Finds text result = IfOk result (λ found. Ends (tokens_of text) found) × IfOk result (λ found. IfSome found (λ stop. StopsWith text stop))

stop_here : (text : List ℕ) (i quote : ℕ) (r : Reader) (fault : ScriptFault) → i < length text → Reads text i r quote → next_byte r (get_or text i 0) ≡ Err fault → StopsWith text (record { fault = fault; at = i })
unfolding read_on stop_from
stop_here text i quote r fault lt k e =
    let here : drop i text ≡ get_or text i 0 ∷ drop (suc i) text = drop-cons text i 0 lt in
    stops_with text (record { fault = fault; at = i }) (k.reads ∙ rw (here, e) refl) (sym (k.stops ∙ rw (here, e) refl))

pub byte_stopped : {E : Type 0} (text : List ℕ) (i quote : ℕ) (r : Reader) (fault : ScriptFault) (result : Result (Option Stop) E) → i < length text → Reads text i r quote → Fails fault (next_byte r (get_or text i 0)) → IfOk result (λ found. (found ≡ Some (record { fault = fault; at = i })) × (fault.why ≢ reasons.Memory)) → Finds text result
byte_stopped text i quote r fault (Ok found) lt k f e =
    let s = stop_here text i quote r fault lt k (reads_so fault _ f e.1) in
    (subst (λ o. Ends (tokens_of text) o) (sym e.0) s.is_fault, subst (λ o. IfSome o (λ stop. StopsWith text stop)) (sym e.0) s)
byte_stopped text i quote r fault (Err x) lt k f e = (tt, tt)

stop_end : (text : List ℕ) (quote : ℕ) (r : Reader) (stop : Stop) → Reads text (length text) r quote → at_end r ≡ Err stop.fault → (stop.fault.why ≡ reasons.OpenQuote → stop.at ≡ quote) → (stop.fault.why ≡ reasons.Unsupported → stop.at ≡ length text - 1) → StopsWith text stop
unfolding read_on stop_from
stop_end text quote r stop k e in_quote dollar =
    stops_with text stop (k.reads ∙ rw (drop-length text) e) (here (ends_by r stop.fault e) ∙ sym (k.stops ∙ rw (drop-length text) refl))
  where
    here : EndsBy r.mode r stop.fault → stop.at ≡ (if is_dollar r.mode then length text - 1 else quote)
    here (inl d) = rw d.0 (dollar (ap (λ (f : ScriptFault). f.why) d.1))
    here (inr q) = rw q.0 (in_quote (ap (λ (f : ScriptFault). f.why) q.2))

pub end_stopped : {E : Type 0} (text : List ℕ) (quote : ℕ) (r : Reader) (result : Result (Option Stop) E) → Reads text (length text) r quote → IfOk result (λ found. Ends (at_end r) found) → IfOk result (λ found. IsAtEnd quote (length text) found) → Finds text result
unfolding read_on
end_stopped text quote r (Ok None) k e p = ((λ fault h. e fault (sym (k.reads ∙ rw (drop-length text) refl) ∙ h)), tt)
end_stopped text quote r (Ok (Some stop)) k e p =
    let s = stop_end text quote r stop k e p.0 p.1 in
    (s.is_fault, s)
end_stopped text quote r (Err x) k e p = (tt, tt)
