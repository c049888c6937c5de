-- What lines make: their records, and no others.
use Rattle.std.proofs.Common.{◌≡◌, ℕ, Bool, true, false, not, ◌||◌, List, [], ◌∷◌, ◌++◌, refl, sym, ap}
use Rattle.std.proofs.Common.{subst, ◌∙◌, Option, Some, None, append_assoc, append-nil}
use Rattle.std.proofs.lemmas.Grind.{flat_map-append}
use Rattle.std.proofs.lemmas.List.{map-append}
use Rattle.std.specs.Cmp.Lexicographic.{nat_list_cmp_total, slice_cmp}
use Rattle.std.specs.List.{AllByRecursion, IsDistinct, flat_map, list_any}
use Rattle.std.specs.List.Sorted.{IsStrictlySortedBy}
use Rattle.std.specs.Option.{option_to_list}
use Rattle.std.specs.Ordering.{is_lt, nat_cmp}
use Rattle.std.specs.declared.cmp.Ordering.{Ordering}
use Rattle.std.specs.declared.cmp.Ordering.TheVariants.{Less, Equal, Greater}
use Rattle.std.specs.Prelude.{option_and_then, option_map}
use Rattle.std.specs.Str.{bytes_eq}
use Rattle.redo_path.specs.Names.{IsBelowRoot}
use Rattle.redo_path.proofs.ApartLemmas.{apart}
use Rattle.redo_path.proofs.PartLemmas.{AllByRecursion-append, AllByRecursion-front}
use Rattle.redo_book.specs.declared.book.BookEntry.{BookEntry}
use Rattle.redo_book.specs.declared.book.BookEntry.TheVariants.{Change, Create, Always}
use Rattle.redo_book.specs.declared.lines.Line.{Line}
use Rattle.redo_book.specs.declared.lines.Line.TheVariants.{Target, Entry}
use Rattle.redo_digest.specs.Digest.{IsState, State}
use Rattle.redo_book.specs.Book.{IsBook, IsEntry, IsRecord, Record, entry_line, is_newline}
use Rattle.redo_book.specs.Book.{record_lines, same_entry, targets_of}
use Rattle.redo_book.specs.inside.Reading.{Made, at_first, line_of, may_follow, next, records_of}
use Rattle.redo_book.specs.inside.Reading.{with_entry, with_line}
use Rattle.redo_book.proofs.WordLemmas.{IsLine, bytes_same, line_says, line_text, map_some, one_line}
use Rattle.redo_book.proofs.WordLemmas.{only_if-some, same_bytes, then_some}

-- ---- lists

pub behind : {X : Type 0} (P : X → Type 0) (xs ys : List X) → AllByRecursion P (xs ++ ys) → AllByRecursion P ys
behind P [] ys h = h
behind P (x ∷ xs) ys h = behind P xs ys h.1

-- ---- entries

bytes_back : (xs ys : List ℕ) (b : Bool) → bytes_eq xs ys ≡ b → bytes_eq ys xs ≡ b
bytes_back xs ys true h = let e = same_bytes xs ys h in rw e (bytes_same ys)
bytes_back xs ys false h =
    elim (bytes_eq ys xs) as (λ b. bytes_eq ys xs ≡ b → b ≡ false) [
      | true ↦ λ e. let s = same_bytes ys xs e in let t : bytes_eq xs ys ≡ true = rw s (bytes_same xs) in apart cc
      | false ↦ λ e. refl
    ] refl

same_back : (e f : BookEntry) (b : Bool) → same_entry e f ≡ b → same_entry f e ≡ b
same_back (Change s p) (Change t q) b h = bytes_back p q b h
same_back (Create p) (Create q) b h = bytes_back p q b h
same_back Always Always b h = h
same_back (Change s p) (Create q) b h = h
same_back (Change s p) Always b h = h
same_back (Create p) (Change t q) b h = h
same_back (Create p) Always b h = h
same_back Always (Change t q) b h = h
same_back Always (Create q) b h = h

no_other : (b c : Bool) → (b || c) ≡ false → (b ≡ false) × (c ≡ false)
no_other true c h = cc
no_other false c h = (refl, h)

-- a new entry is apart from all others
all_apart : (e : BookEntry) (es : List BookEntry) → list_any (same_entry e) es ≡ false → AllByRecursion (λ f. same_entry f e ≡ false) es
all_apart e [] h = tt
all_apart e (f ∷ fs) h = let k = no_other (same_entry e f) _ h in (same_back e f false k.0, all_apart e fs k.1)

pub none_same : (e : BookEntry) (es : List BookEntry) → AllByRecursion (λ f. same_entry f e ≡ false) es → list_any (same_entry e) es ≡ false
none_same e [] h = refl
none_same e (f ∷ fs) h = rw (same_back f e false h.0) (none_same e fs h.1)

once_more : (e : BookEntry) (es : List BookEntry) → IsDistinct same_entry es → AllByRecursion (λ f. same_entry f e ≡ false) es → IsDistinct same_entry (es ++ e ∷ [])
unfolding IsDistinct
once_more e [] h k = (tt, tt)
once_more e (f ∷ fs) h k = (AllByRecursion-append (λ g. same_entry f g ≡ false) fs (e ∷ []) h.0 (k.0, tt), once_more e fs h.1 k.1)

-- what stands before an entry is apart from it
pub apart_before : (e : BookEntry) (es fs : List BookEntry) → IsDistinct same_entry (es ++ e ∷ fs) → AllByRecursion (λ f. same_entry f e ≡ false) es
unfolding IsDistinct
apart_before e [] fs h = tt
apart_before e (f ∷ es) fs h = ((behind (λ g. same_entry f g ≡ false) es (e ∷ fs) h.0).0, apart_before e es fs h.1)

-- ---- the order of targets

-- a greater one may stand last
sorted_more : (ts : List (List ℕ)) (t u : List ℕ) → IsStrictlySortedBy (slice_cmp nat_cmp) (ts ++ t ∷ []) → slice_cmp nat_cmp t u ≡ Less → IsStrictlySortedBy (slice_cmp nat_cmp) ((ts ++ t ∷ []) ++ u ∷ [])
unfolding IsStrictlySortedBy
sorted_more [] t u h l = ((l, tt), (tt, tt))
sorted_more (v ∷ ts) t u h l =
    let last = behind (λ w. slice_cmp nat_cmp v w ≡ Less) ts (t ∷ []) h.0 in
    (AllByRecursion-append (λ w. slice_cmp nat_cmp v w ≡ Less) (ts ++ t ∷ []) (u ∷ []) h.0 (nat_list_cmp_total.trans v t u last.0 l, tt), sorted_more ts t u h.1 l)

-- each stands before the next
pub sorted_pair : (ts us : List (List ℕ)) (t u : List ℕ) → IsStrictlySortedBy (slice_cmp nat_cmp) ((ts ++ t ∷ []) ++ u ∷ us) → slice_cmp nat_cmp t u ≡ Less
unfolding IsStrictlySortedBy
sorted_pair [] us t u h = h.0.0
sorted_pair (v ∷ ts) us t u h = sorted_pair ts us t u h.1

less_true : (o : Ordering) → is_lt o ≡ true → o ≡ Less
less_true Less h = refl
less_true Equal h = apart cc
less_true Greater h = apart cc

-- ---- a line more

-- the records so far are in order, and there are none where no target came
pub record IsMade (b : Made) : Type 0 where
  pub book : IsBook (records_of b)
  pub empty : b.last ≡ None → b.done ≡ []

pub first_made : IsMade at_first
unfolding IsStrictlySortedBy
first_made = record { book = record { records = tt; sorted = tt }; empty = λ e. refl }

-- the next line was good
pub record Goes (b c : Made) (line : List ℕ) : Type 0 where
  pub made : IsMade c
  pub lines : flat_map record_lines (records_of c) ≡ flat_map record_lines (records_of b) ++ line ∷ []
  pub one : list_any is_newline line ≡ false

bare_record : List ℕ → State → Record
bare_record target state = record { target = target; state = state; entries = [] }

new_record : (target : List ℕ) (state : State) → IsState state → IsBelowRoot target → IsRecord (bare_record target state)
unfolding bare_record IsDistinct
new_record target state s t = record { target = t; state = s; entries = tt; once = tt }

-- a book of one record without entries
pub alone : (target : List ℕ) (state : State) → IsState state → IsBelowRoot target → IsBook (record { target = target; state = state; entries = [] } ∷ [])
unfolding bare_record IsStrictlySortedBy
alone target state s t = record { records = (new_record target state s t, tt); sorted = (tt, tt) }

follows : (done : List Record) (last : Option Record) (target : List ℕ) (state : State) → IsStrictlySortedBy (slice_cmp nat_cmp) (targets_of (done ++ option_to_list last)) → (last ≡ None → done ≡ []) → may_follow last target ≡ true → IsStrictlySortedBy (slice_cmp nat_cmp) (targets_of ((done ++ option_to_list last) ++ bare_record target state ∷ []))
unfolding bare_record IsStrictlySortedBy
follows done None target state h none m = rw (none refl) (tt, tt)
follows done (Some r) target state h none m =
    let lt = less_true (slice_cmp nat_cmp r.target target) m in
    let cut : targets_of (done ++ r ∷ []) ≡ targets_of done ++ r.target ∷ [] = map-append (λ r. r.target) done (r ∷ []) in
    let cut2 : targets_of ((done ++ r ∷ []) ++ bare_record target state ∷ []) ≡ targets_of (done ++ r ∷ []) ++ target ∷ [] = map-append (λ r. r.target) (done ++ r ∷ []) (bare_record target state ∷ []) in
    let S : List (List ℕ) → Type 0 = λ ts. IsStrictlySortedBy (slice_cmp nat_cmp) ts in
    subst S (sym (cut2 ∙ ap (λ ts. ts ++ target ∷ []) cut)) (sorted_more (targets_of done) r.target target (subst S cut h) lt)

target_goes : (b c : Made) (state : State) (target : List ℕ) → IsMade b → IsState state → IsBelowRoot target → with_line b (Target state target) ≡ Some c → Goes b c (line_text (Target state target))
unfolding bare_record
target_goes b c state target h s t e =
    let (may, is) = only_if-some (may_follow b.last target) (record { done = records_of b; last = Some (bare_record target state) }) c e in
    let rs = records_of b in
    let d : Made = record { done = rs; last = Some (bare_record target state) } in
    let goes : Goes b d (line_text (Target state target)) = record {
      made = record {
        book = record {
          records = AllByRecursion-append IsRecord rs (bare_record target state ∷ []) h.book.records (new_record target state s t, tt);
          sorted = follows b.done b.last target state h.book.sorted h.empty may;
        };
        empty = λ e. apart cc;
      };
      lines = flat_map-append record_lines rs (bare_record target state ∷ []);
      one = one_line (Target state target) (s, t);
    } in
    subst (λ d. Goes b d (line_text (Target state target))) is goes

-- a record with one more entry
more_of : Record → BookEntry → Record
more_of r e = record { target = r.target; state = r.state; entries = r.entries ++ e ∷ [] }

more_entry : (r : Record) (e : BookEntry) → IsRecord r → IsEntry e → list_any (same_entry e) r.entries ≡ false → IsRecord (more_of r e)
unfolding more_of
more_entry r e h k new = record {
  target = h.target;
  state = h.state;
  entries = AllByRecursion-append IsEntry r.entries (e ∷ []) h.entries (k, tt);
  once = once_more e r.entries h.once (all_apart e r.entries new);
}

same_targets : (done : List Record) (r : Record) (e : BookEntry) → targets_of (done ++ r ∷ []) ≡ targets_of (done ++ more_of r e ∷ [])
unfolding more_of
same_targets [] r e = refl
same_targets (q ∷ done) r e = ap (λ ts. q.target ∷ ts) (same_targets done r e)

more_lines : (done : List Record) (r : Record) (e : BookEntry) → flat_map record_lines (done ++ more_of r e ∷ []) ≡ flat_map record_lines (done ++ r ∷ []) ++ entry_line e ∷ []
unfolding more_of
more_lines done r e =
    let head = line_text (Target r.state r.target) in
    let own : record_lines (more_of r e) ≡ record_lines r ++ entry_line e ∷ [] = ap (λ ls. head ∷ ls) (map-append entry_line r.entries (e ∷ [])) in
    flat_map-append record_lines done (more_of r e ∷ [])
    ∙ ap (λ ls. flat_map record_lines done ++ ls) (append-nil (record_lines (more_of r e)) ∙ own)
    ∙ sym (append_assoc (flat_map record_lines done) (record_lines r) (entry_line e ∷ []))
    ∙ ap (λ ls. (flat_map record_lines done ++ ls) ++ entry_line e ∷ []) (sym (append-nil (record_lines r)))
    ∙ ap (λ ls. ls ++ entry_line e ∷ []) (sym (flat_map-append record_lines done (r ∷ [])))

was_not : (b : Bool) → not b ≡ true → b ≡ false
was_not true h = cc
was_not false h = refl

entry_goes : (done : List Record) (r : Record) (e : BookEntry) → IsBook (done ++ r ∷ []) → IsEntry e → list_any (same_entry e) r.entries ≡ false → Goes (record { done = done; last = Some r }) (record { done = done; last = Some (more_of r e) }) (entry_line e)
entry_goes done r e h k new = record {
  made = record {
    book = record {
      records = AllByRecursion-append IsRecord done (more_of r e ∷ []) (AllByRecursion-front IsRecord done (r ∷ []) h.records) (more_entry r e (behind IsRecord done (r ∷ []) h.records).0 k new, tt);
      sorted = subst (λ ts. IsStrictlySortedBy (slice_cmp nat_cmp) ts) (same_targets done r e) h.sorted;
    };
    empty = λ e. apart cc;
  };
  lines = more_lines done r e;
  one = one_line (Entry e) k;
}

last_goes : (done : List Record) (last : Option Record) (c : Made) (e : BookEntry) → IsBook (done ++ option_to_list last) → IsEntry e → option_and_then (λ r. option_map {U = Made} (λ s. record { done = done; last = Some s }) (with_entry r e)) last ≡ Some c → Goes (record { done = done; last = last }) c (entry_line e)
unfolding more_of
last_goes done None c e h k m = apart cc
last_goes done (Some r) c e h k m =
    let (s, some, same) = map_some {B = Made} (λ s. record { done = done; last = Some s }) (with_entry r e) c m in
    let (new, is) = only_if-some (not (list_any (same_entry e) r.entries)) (more_of r e) s some in
    let goes = entry_goes done r e h k (was_not _ new) in
    subst (λ d. Goes (record { done = done; last = Some r }) d (entry_line e)) (ap (λ s. record { done = done; last = Some s }) is ∙ same) goes

line_goes : (b c : Made) (line : Line) → IsMade b → IsLine line → with_line b line ≡ Some c → Goes b c (line_text line)
line_goes b c (Target state target) h k m = target_goes b c state target h k.0 k.1 m
line_goes b c (Entry e) h k m = last_goes b.done b.last c e h.book k m

-- what a good line makes
pub next_goes : (b c : Made) (text : List ℕ) → IsMade b → next b text ≡ Some c → Goes b c text
next_goes b c text h m =
    let (line, some, made) = then_some (λ l. with_line b l) (line_of text) c m in
    let says = line_says text line some in
    subst (λ t. Goes b c t) (sym says.whole) (line_goes b c line h says.is made)
