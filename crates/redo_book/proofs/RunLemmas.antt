-- Lines that are run one after another, and the lines of a book.
use Rattle.std.proofs.Common.{◌≡◌, ℕ, true, false, List, [], ◌∷◌, ◌++◌, refl, sym, ap}
use Rattle.std.proofs.Common.{subst, ◌∙◌, Option, Some, None, append_assoc, append-nil, map, ◌⊎◌, inl, inr}
use Rattle.std.proofs.lemmas.List.{map-append}
use Rattle.std.specs.Cmp.Lexicographic.{slice_cmp}
use Rattle.std.specs.List.{AllByRecursion, IsDistinct, flat_map, list_any}
use Rattle.std.specs.List.Sorted.{IsStrictlySortedBy}
use Rattle.std.specs.Option.{option_to_list}
use Rattle.std.specs.Ordering.{is_lt, nat_cmp}
use Rattle.std.specs.Prelude.{codes, option_and_then}
use Rattle.redo_path.proofs.ApartLemmas.{apart}
use Rattle.redo_path.proofs.PartLemmas.{AllByRecursion-append}
use Rattle.redo_book.specs.declared.book.BookEntry.{BookEntry}
use Rattle.redo_book.specs.declared.lines.Line.TheVariants.{Target, Entry}
use Rattle.redo_book.specs.Book.{IsBook, IsEntry, IsRecord, Record, book_lines, entry_line, is_newline, record_lines}
use Rattle.redo_book.specs.Book.{same_entry, targets_of}
use Rattle.redo_book.specs.inside.Reading.{Made, at_first, may_follow, next, records_of, run}
use Rattle.redo_book.proofs.MadeLemmas.{IsMade, apart_before, behind, next_goes, none_same, sorted_pair}
use Rattle.redo_book.proofs.WordLemmas.{line_spelled, line_text, one_line, then_some}

-- no line has a newline in it
abbrev pub AreLines : List (List ℕ) → Type 0
AreLines lines = AllByRecursion (λ line. list_any is_newline line ≡ false) lines

-- ---- what lines make

pub run-append : (b : Made) (xs ys : List (List ℕ)) → run b (xs ++ ys) ≡ option_and_then (λ c. run c ys) (run b xs)
run-append b [] ys = refl
run-append b (x ∷ xs) ys =
    elim (next b x) as (λ o. option_and_then (λ c. run c (xs ++ ys)) o ≡ option_and_then (λ c. run c ys) (option_and_then (λ c. run c xs) o)) [
      | None ↦ refl
      | Some c ↦ run-append c xs ys
    ]

-- lines were good
pub record Ran (b c : Made) (texts : List (List ℕ)) : Type 0 where
  pub made : IsMade c
  pub lines : flat_map record_lines (records_of c) ≡ flat_map record_lines (records_of b) ++ texts
  pub each : AreLines texts

pub run_goes : (b c : Made) (xs : List (List ℕ)) → IsMade b → run b xs ≡ Some c → Ran b c xs
run_goes b c [] h m =
    let same : b ≡ c = cc in
    subst (λ c. Ran b c []) same (record { made = h; lines = sym (append-nil (flat_map record_lines (records_of b))); each = tt })
run_goes b c (x ∷ xs) h m =
    let (d, one, more) = then_some (λ c. run c xs) (next b x) c m in
    let first = next_goes b d x h one in
    let rest = run_goes d c xs first.made more in
    record {
      made = rest.made;
      lines = rest.lines ∙ ap (λ ls. ls ++ xs) first.lines ∙ append_assoc (flat_map record_lines (records_of b)) (x ∷ []) xs;
      each = (first.one, rest.each);
    }

-- ---- a book's lines are good

entry_next : (done : List Record) (r : Record) (e : BookEntry) → IsEntry e → list_any (same_entry e) r.entries ≡ false
    → next (record { done = done; last = Some r }) (entry_line e) ≡ Some (record { done = done; last = Some (record { target = r.target; state = r.state; entries = r.entries ++ e ∷ [] }) })
entry_next done r e k new = rw (line_spelled (Entry e) k, new) refl

entries_run : (done : List Record) (r : Record) (es : List BookEntry) → AllByRecursion IsEntry es → IsDistinct same_entry (r.entries ++ es)
    → run (record { done = done; last = Some r }) (map entry_line es) ≡ Some (record { done = done; last = Some (record { target = r.target; state = r.state; entries = r.entries ++ es }) })
entries_run done r [] h k = ap (λ es. Some (record { done = done; last = Some (record { target = r.target; state = r.state; entries = es }) })) (sym (append-nil r.entries))
entries_run done r (e ∷ es) h k =
    let new = none_same e r.entries (apart_before e r.entries es k) in
    let s : Record = record { target = r.target; state = r.state; entries = r.entries ++ e ∷ [] } in
    let assoc : (r.entries ++ e ∷ []) ++ es ≡ r.entries ++ e ∷ es = append_assoc r.entries (e ∷ []) es in
    let rest = entries_run done s es h.1 (subst (λ l. IsDistinct same_entry l) (sym assoc) k) in
    ap (option_and_then (λ c. run c (map entry_line es))) (entry_next done r e h.0 new)
    ∙ rest ∙ ap (λ l. Some (record { done = done; last = Some (record { target = r.target; state = r.state; entries = l }) })) assoc

follow : (done : List Record) (last : Option Record) (r : Record) (rs : List Record) → IsStrictlySortedBy (slice_cmp nat_cmp) (targets_of ((done ++ option_to_list last) ++ r ∷ rs)) → may_follow last r.target ≡ true
follow done None r rs h = refl
follow done (Some q) r rs h =
    let cut : targets_of ((done ++ q ∷ []) ++ r ∷ rs) ≡ (targets_of done ++ q.target ∷ []) ++ r.target ∷ targets_of rs =
    map-append (λ r. r.target) (done ++ q ∷ []) (r ∷ rs) ∙ ap (λ ts. ts ++ r.target ∷ targets_of rs) (map-append (λ r. r.target) done (q ∷ [])) in
    let less = sorted_pair (targets_of done) (targets_of rs) q.target r.target (subst (λ ts. IsStrictlySortedBy (slice_cmp nat_cmp) ts) cut h) in
    ap is_lt less

target_next : (b : Made) (r : Record) → IsRecord r → may_follow b.last r.target ≡ true
    → next b (line_text (Target r.state r.target)) ≡ Some (record { done = records_of b; last = Some (record { target = r.target; state = r.state; entries = [] }) })
target_next b r h may = rw (line_spelled (Target r.state r.target) (h.state, h.target), may) refl

record_run : (b : Made) (r : Record) (rs : List Record) → IsBook (records_of b ++ r ∷ rs) → run b (record_lines r) ≡ Some (record { done = records_of b; last = Some r })
record_run b r rs h =
    let is = (behind IsRecord (records_of b) (r ∷ rs) h.records).0 in
    ap (option_and_then (λ c. run c (map entry_line r.entries))) (target_next b r is (follow b.done b.last r rs h.sorted))
    ∙ entries_run (records_of b) (record { target = r.target; state = r.state; entries = [] }) r.entries is.entries is.once

pub book_runs : (b : Made) (rs : List Record) → IsBook (records_of b ++ rs) → (c : Made) × (run b (flat_map record_lines rs) ≡ Some c) × (records_of c ≡ records_of b ++ rs)
book_runs b [] h = (b, refl, sym (append-nil (records_of b)))
book_runs b (r ∷ rs) h =
    let d : Made = record { done = records_of b; last = Some r } in
    let assoc : records_of d ++ rs ≡ records_of b ++ r ∷ rs = append_assoc (records_of b) (r ∷ []) rs in
    let (c, ran, same) = book_runs d rs (subst IsBook (sym assoc) h) in (
      c,
      run-append b (record_lines r) (flat_map record_lines rs) ∙ ap (option_and_then (λ c. run c (flat_map record_lines rs))) (record_run b r rs h) ∙ ran,
      same ∙ assoc,
    )

-- the lines of a whole book
pub whole_runs : (rs : List Record) → IsBook rs → (c : Made) × (run at_first (flat_map record_lines rs) ≡ Some c) × (records_of c ≡ rs)
whole_runs rs h = book_runs at_first rs h

pub no_end : (b : Made) → next b (codes "end") ≡ None
no_end b = refl

-- ---- where lines stop

-- a line that stands behind others in a list that ends with another
pub cut_last : {X : Type 0} (xs ys more : List X) (x z : X) → ys ++ z ∷ [] ≡ xs ++ x ∷ more → ((more ≡ []) × (x ≡ z)) ⊎ ((rest : List X) × (ys ≡ xs ++ x ∷ rest) × (more ≡ rest ++ z ∷ []))
cut_last [] [] [] x z e = inl (refl, cc)
cut_last [] [] (m ∷ ms) x z e = apart cc
cut_last [] (y ∷ ys) more x z e = let head : y ≡ x = cc in inr (ys, ap (λ y. y ∷ ys) head, cc)
cut_last (w ∷ []) [] more x z e = apart cc
cut_last (w ∷ v ∷ ws) [] more x z e = apart cc
cut_last (w ∷ ws) (y ∷ ys) more x z e =
    let head : y ≡ w = cc in
    let tail : ys ++ z ∷ [] ≡ ws ++ x ∷ more = cc in
    elim (cut_last ws ys more x z tail) [
      | inl last ↦ inl last
      | inr inner ↦ inr (inner.0, (λ i. head i ∷ inner.1 i), inner.2)
    ]

-- no book goes on by a line at which the lines stop, unless that is its end
pub stuck : (b : Made) (lines more : List (List ℕ)) (line : List ℕ) (rs : List Record) → run at_first lines ≡ Some b → next b line ≡ None → IsBook rs → book_lines rs ≡ lines ++ line ∷ more → (more ≡ []) × (line ≡ codes "end")
stuck b lines more line rs ran none h e =
    elim (cut_last lines (flat_map record_lines rs) more line (codes "end") e) [
      | inl last ↦ last
      | inr inner ↦
          let (c, whole, same) = whole_runs rs h in
          let stops : run at_first (flat_map record_lines rs) ≡ None =
          ap (run at_first) inner.1 ∙ run-append at_first lines (line ∷ inner.0) ∙ ap (option_and_then (λ c. run c (line ∷ inner.0))) ran ∙ ap (option_and_then (λ c. run c inner.0)) none in
          apart cc
    ]

-- a book's lines are those of one book
pub same_lines : (rs qs : List Record) → IsBook rs → IsBook qs → flat_map record_lines rs ≡ flat_map record_lines qs → rs ≡ qs
same_lines rs qs h k e =
    let (c, ran, same) = whole_runs rs h in
    let (d, walked, alike) = whole_runs qs k in
    let one : ◌≡◌ {A = Option Made} (Some c) (Some d) = sym ran ∙ ap (run at_first) e ∙ walked in
    let made : c ≡ d = cc in
    sym same ∙ ap records_of made ∙ alike

entries_are_lines : (es : List BookEntry) → AllByRecursion IsEntry es → AreLines (map entry_line es)
entries_are_lines [] h = tt
entries_are_lines (e ∷ es) h = (one_line (Entry e) h.0, entries_are_lines es h.1)

records_are_lines : (rs : List Record) → AllByRecursion IsRecord rs → AreLines (flat_map record_lines rs)
records_are_lines [] h = tt
records_are_lines (r ∷ rs) h =
    AllByRecursion-append (λ line. list_any is_newline line ≡ false) (record_lines r) (flat_map record_lines rs)
    (one_line (Target r.state r.target) (h.0.state, h.0.target), entries_are_lines r.entries h.0.entries) (records_are_lines rs h.1)

pub book_is_lines : (rs : List Record) → IsBook rs → AreLines (book_lines rs)
book_is_lines rs h = AllByRecursion-append (λ line. list_any is_newline line ≡ false) (flat_map record_lines rs) (codes "end" ∷ []) (records_are_lines rs h.records) (refl, tt)
