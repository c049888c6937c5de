-- Entries that are kept in a list or in a set.
use Rattle.std.proofs.Common.{◌≡◌, true, false, cond, ◌&&◌, ◌||◌, List, [], ◌∷◌, ◌++◌, refl, sym, ◌∙◌}
use Rattle.std.specs.Prelude.{bytes_eq}
use Rattle.redo_record.specs.declared.deps.Dep.{Dep}
use Rattle.redo_record.specs.Entries.{AreOnce, is_entered, same_kind, with_entry, with_all}
use Rattle.redo_record.proofs.SearchLemmas.{all-new, any_found, entered-append, neither, or_false, same_kind-flips}
use Rattle.redo_record.proofs.SearchLemmas.{same_way}

pub once-append : (es : List Dep) (d : Dep) → AreOnce es → is_entered es d.kind d.path ≡ false → AreOnce (es ++ d ∷ [])
once-append [] d once new = (refl, tt)
once-append (e ∷ es) d once new =
    let each = neither (same_kind d.kind e.kind && bytes_eq d.path e.path) (is_entered es d.kind d.path) new in
    let one : is_entered (es ++ d ∷ []) e.kind e.path ≡ false =
    entered-append es (d ∷ []) e.kind e.path ∙ (λ i. once.0 i || (((same_kind-flips e.kind d.kind i) && (same_way e.path d.path i)) || false)) ∙ or_false (same_kind d.kind e.kind && bytes_eq d.path e.path) ∙ each.0 in
    (one, once-append es d once.1 each.1)

-- an entry more leaves each once
pub once-with : (es : List Dep) (d : Dep) → AreOnce es → AreOnce (with_entry es d.kind d.path)
once-with es d once =
    elim (is_entered es d.kind d.path) as (λ b. is_entered es d.kind d.path ≡ b → AreOnce (cond b es (es ++ d ∷ []))) [
      | true ↦ λ e. once
      | false ↦ λ e. once-append es d once e
    ] refl

none-found : (ds : List Dep) → any_found [] ds ≡ false
none-found [] = refl
none-found (d ∷ ds) = none-found ds

-- entries that stand once each, put in one by one
pub put-in : (ds : List Dep) → AreOnce ds → with_all [] ds ≡ ds
put-in ds once = sym (all-new [] ds once (none-found ds))
