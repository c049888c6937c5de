-- What a record asks for.
use Rattle.std.proofs.Common.{◌≡◌, ◌∙◌, ◌<◌, inl, inr, ℕ, zero, suc, List, [], ◌∷◌, ◌++◌, Option, Some, None, refl, sym, ap, subst, arith, length}
use Rattle.std.specs.List.{cons_option}
use Rattle.std.specs.Prelude.{slice_index_or}
use Rattle.redo_names.specs.Paths.{IsAmong}
use Rattle.redo_record.specs.Entries.{entries_of, search_entries}
use Rattle.redo_record.specs.Progress.{changed, changes}
use Rattle.redo_record.specs.declared.deps.Dep.{Dep}
use Rattle.redo_record.specs.declared.deps.DepKind.TheVariants.{Change}

among-more : (o : Option (List ℕ)) (ps : List (List ℕ)) (p : List ℕ) → IsAmong ps p → IsAmong (cons_option o ps) p
among-more None ps p is = is
among-more (Some q) ps p is = inr is

change-at : (ds : List Dep) (i : ℕ) (d : Dep) → i < length ds → d ≡ slice_index_or ds i d → d.kind ≡ Change → IsAmong (changes ds) d.path
change-at [] i d under is kind = absurd (omega (arith, under))
change-at (e ∷ ds) zero d under is kind =
    let first = ap (λ (x : Dep). cons_option (changed x.kind x.path) (changes ds)) (sym is)
    ∙ ap (λ k. cons_option (changed k d.path) (changes ds)) kind in
    subst (λ ps. IsAmong ps d.path) (sym first) (inl refl)
change-at (e ∷ ds) (suc i) d under is kind =
    among-more (changed e.kind e.path) (changes ds) d.path (change-at ds i d (omega (arith, under)) is kind)

changes-behind : (front ds : List Dep) (p : List ℕ) → IsAmong (changes ds) p → IsAmong (changes (front ++ ds)) p
changes-behind [] ds p is = is
changes-behind (e ∷ front) ds p is = among-more (changed e.kind e.path) (changes (front ++ ds)) p (changes-behind front ds p is)

-- what a script declared is among the changes of the whole record
pub own-change : (deps own : List Dep) (missing : List (List ℕ)) (do_file : Option (List ℕ)) (i : ℕ) (d : Dep) (p : List ℕ) →
    deps ≡ entries_of missing do_file own → i < length own → d ≡ slice_index_or own i d → d.kind ≡ Change → d.path ≡ p → IsAmong (changes deps) p
own-change deps own missing do_file i d p parts under is kind same =
    subst (λ ds. IsAmong (changes ds) p) (sym parts)
    (changes-behind (search_entries missing do_file) own p
    (subst (IsAmong (changes own)) same (change-at own i d under is kind)))
