-- Entering paths one after the other.
use Rattle.std.proofs.Common.{◌≡◌, ℕ, zero, suc, ◌+◌, ◌<◌, Bool, false, cond, not, List, [], ◌∷◌, ◌++◌, Some, inl, inr}
use Rattle.std.proofs.Common.{length, take, drop, take-append-drop, slice_get, filter, filter_map, refl, sym, ap, subst}
use Rattle.std.proofs.Common.{◌∙◌, arith}
use Rattle.std.proofs.lemmas.Bool.{cases_Bool}
use Rattle.std.proofs.lemmas.List.Elements.{filter_map-append, filter-append}
use Rattle.redo_names.proofs.ListLemmas.{with_new-first}
use Rattle.redo_names.proofs.PathLemmas.{told-among}
use Rattle.redo_record.specs.declared.deps.Dep.{Dep}
use Rattle.redo_record.specs.Paths.{IsAmong, is_among}
use Rattle.redo_build.specs.Rules.{Rules, operands, changed}
use Rattle.redo_build.specs.Schedule.{Entry, paths_of, entered, new_entry}
use Rattle.redo_core.specs.inside.Slots.{table_entries, AreEnteredInto, GivenView, rules_for, Table}
use Rattle.redo_build.proofs.SeenLemmas.{entered-longer, paths_of-entered}

pub entered-append : (r : Rules) (es : List Entry) (ps qs : List (List ℕ)) → entered r es (ps ++ qs) ≡ entered r (entered r es ps) qs
entered-append r es [] qs = refl
entered-append r es (p ∷ ps) qs = entered-append r (cond (is_among (paths_of es) p) es (es ++ new_entry r p ∷ [])) ps qs

-- paths that were seen add nothing
pub entered-seen : (r : Rules) (es : List Entry) (ps : List (List ℕ)) → ((q : List ℕ) → IsAmong ps q → IsAmong (paths_of es) q) → entered r es ps ≡ es
entered-seen r es [] h = refl
entered-seen r es (p ∷ ps) h = rw (told-among (paths_of es) p (h p (inl refl))) (entered-seen r es ps (λ q m. h q (inr m)))

pub operands-append : (r : Rules) (ds es : List Dep) → operands r (ds ++ es) ≡ operands r ds ++ operands r es
operands-append r ds es =
    let test : List ℕ → Bool = λ p. not (r.is_source p) in
    ap (filter test) (filter_map-append (λ (d : Dep). changed d.kind d.path) ds es) ∙
    filter-append test (filter_map (λ (d : Dep). changed d.kind d.path) ds) (filter_map (λ (d : Dep). changed d.kind d.path) es)

-- paths that are left out add nothing where each was seen
pub entered-passed : (r : Rules) (f : List ℕ → Bool) (es : List Entry) (ps : List (List ℕ)) →
    ((q : List ℕ) → IsAmong ps q → f q ≡ false → IsAmong (paths_of es) q) → entered r es (filter f ps) ≡ entered r es ps
entered-passed r f es [] h = refl
entered-passed r f es (p ∷ ps) h = elim (cases_Bool (f p)) [
  | inl t ↦
      let A : List (List ℕ) → Type 0 = λ xs. (q : List ℕ) → IsAmong ps q → f q ≡ false → IsAmong xs q in
      let wider = subst A (sym (paths_of-entered r es (p ∷ []))) (λ q m n. with_new-first (paths_of es) (p ∷ []) q (h q (inr m) n)) in
      rw t (entered-passed r f (entered r es (p ∷ [])) ps wider)
  | inr n ↦ rw (n, told-among (paths_of es) p (h p (inl refl) n)) (entered-passed r f es ps (λ q m. h q (inr m)))
]

-- some paths and one more
pub path-take : (ps : List (List ℕ)) (i : ℕ) (p : List ℕ) → slice_get ps i ≡ Some p → take (i + 1) ps ≡ take i ps ++ p ∷ []
path-take [] i p h = cc
path-take (x ∷ ps) zero p h = let same : x ≡ p = cc in ap (λ y. y ∷ []) same
path-take (x ∷ ps) (suc i) p h = let e : suc i + 1 ≡ suc (i + 1) = omega arith in rw e (ap (λ l. x ∷ l) (path-take ps i p h))

-- where one passes the limit, all do
pub too-many-behind : (r : Rules) (es mid : List Entry) (limit : ℕ) (front back : List (List ℕ)) (p : List ℕ) → mid ≡ entered r es front →
    limit < length (entered r mid (p ∷ [])) → limit < length (entered r es ((front ++ p ∷ []) ++ back))
too-many-behind r es mid limit front back p at many =
    let so_far : entered r mid (p ∷ []) ≡ entered r es (front ++ p ∷ []) =
    ap (λ xs. entered r xs (p ∷ [])) at ∙ sym (entered-append r es front (p ∷ [])) in
    let all = entered-append r es (front ++ p ∷ []) back in
    omega (arith, many, ap length so_far, ap length all, entered-longer r (entered r es (front ++ p ∷ [])) back)

pub too-many : (r : Rules) (es mid : List Entry) (limit : ℕ) (ps : List (List ℕ)) (i : ℕ) (p : List ℕ) → slice_get ps i ≡ Some p →
    mid ≡ entered r es (take i ps) → limit < length (entered r mid (p ∷ [])) → limit < length (entered r es ps)
too-many r es mid limit ps i p get at many =
    let L : List (List ℕ) → Type 0 = λ xs. limit < length (entered r es xs) in
    let whole = ap (λ xs. xs ++ drop (i + 1) ps) (sym (path-take ps i p get)) ∙ take-append-drop (i + 1) ps in
    subst L whole (too-many-behind r es mid limit (take i ps) (drop (i + 1) ps) p at many)

module _ (given : GivenView) where
  abbrev r : Rules
  r = rules_for given

  -- some paths, and then others
  pub enter-more : (t u v : Table) (ps qs : List (List ℕ)) → AreEnteredInto given t u ps → AreEnteredInto given u v qs →
      AreEnteredInto given t v (ps ++ qs)
  enter-more t u v ps qs one two = record {
    table = two.table;
    entries = two.entries ∙ ap (λ es. entered (rules_for given) es qs) one.entries ∙ sym (entered-append (rules_for given) (table_entries given t) ps qs);
    ready = two.ready ∙ one.ready;
    keys_kept = λ k p h. two.keys_kept k p (one.keys_kept k p h);
    slots_kept = λ k slot h. two.slots_kept k slot (one.slots_kept k slot h);
    stages_kept = λ k s h. two.stages_kept k s (one.stages_kept k s h);
    fresh = λ k s h. elim (two.fresh k s h) [ inl mid ↦ one.fresh k s mid | inr new ↦ inr new ];
  }
