-- Entries behind others.
use Rattle.std.proofs.Common.{◌≡◌, Bool, true, false, cond, List, [], ◌∷◌, ◌++◌, refl, sym, ap, ◌∙◌, append_assoc}
use Rattle.std.proofs.Common.{append-nil}
use Rattle.redo_record.specs.declared.deps.Dep.{Dep}
use Rattle.redo_record.specs.declared.deps.DepKind.{DepKind}
use Rattle.redo_record.specs.Entries.{is_entered, with_entry, with_entries}
use Rattle.redo_record.specs.Paths.{Path}

-- the second list begins with the first
abbrev pub IsBeginning : List Dep → List Dep → Type 0
IsBeginning xs ys = (more : List Dep) × (ys ≡ xs ++ more)

pub beginning-refl : (xs : List Dep) → IsBeginning xs xs
beginning-refl xs = ([], sym (append-nil xs))

pub beginning-trans : (xs ys zs : List Dep) → IsBeginning xs ys → IsBeginning ys zs → IsBeginning xs zs
beginning-trans xs ys zs a b = (a.0 ++ b.0, b.1 ∙ ap (λ us. us ++ b.0) a.1 ∙ append_assoc xs a.0 b.0)

pub entry-begins : (es : List Dep) (k : DepKind) (p : Path) → IsBeginning es (with_entry es k p)
entry-begins es k p =
    elim (is_entered es k p) as (λ (v : Bool). IsBeginning es (cond v es (es ++ record { kind = k; path = p } ∷ [])))
    [ true ↦ beginning-refl es | false ↦ (record { kind = k; path = p } ∷ [], refl) ]

pub entries-begin : (es : List Dep) (k : DepKind) (ps : List Path) → IsBeginning es (with_entries es k ps)
entries-begin es k [] = beginning-refl es
entries-begin es k (p ∷ ps) = beginning-trans es (with_entry es k p) (with_entries (with_entry es k p) k ps) (entry-begins es k p) (entries-begin (with_entry es k p) k ps)
