-- The entries of a record as the search and the script made them.
use Rattle.std.proofs.Common.{◌≡◌, Bool, true, false, cond, ◌&&◌, ◌||◌, List, [], ◌∷◌, ◌++◌, refl, sym, ap, ◌∙◌, Some}
use Rattle.std.proofs.Common.{None, append_assoc, append-nil}
use Rattle.std.specs.List.{list_any}
use Rattle.std.specs.Prelude.{bytes_eq}
use Rattle.std.proofs.lemmas.List.{map-append}
use lib.Pointwise.{bytes_decides}
use Rattle.redo_path.proofs.ApartLemmas.{apart}
use Rattle.redo_which.specs.Missing.{AreDistinct, AreNewAfter}
use Rattle.redo_record.specs.declared.deps.Dep.{Dep}
use Rattle.redo_record.specs.declared.deps.DepKind.{DepKind}
use Rattle.redo_record.specs.declared.deps.DepKind.TheVariants as kinds
use Rattle.redo_record.specs.Entries.{AreOnce, change_of, creates, entries_of, search_entries, is_entered, same_kind}
use Rattle.redo_record.specs.Entries.{with_entry, with_entries, search_deps, with_all}
use Rattle.redo_record.specs.Paths.{Path}

or_assoc : (a b c : Bool) → (a || (b || c)) ≡ ((a || b) || c)
or_assoc true b c = refl
or_assoc false b c = refl

pub or_false : (a : Bool) → (a || false) ≡ a
or_false true = refl
or_false false = refl

pub entered-append : (xs ys : List Dep) (k : DepKind) (p : Path) → is_entered (xs ++ ys) k p ≡ (is_entered xs k p || is_entered ys k p)
entered-append [] ys k p = refl
entered-append (x ∷ xs) ys k p = ap (λ b. (same_kind k x.kind && bytes_eq p x.path) || b) (entered-append xs ys k p) ∙ or_assoc (same_kind k x.kind && bytes_eq p x.path) (is_entered xs k p) (is_entered ys k p)

-- ---- the candidates that are missing

pub creates-create : (missing : List Path) (p : Path) → is_entered (creates missing) kinds.Create p ≡ list_any (λ other. bytes_eq p other) missing
creates-create [] p = refl
creates-create (q ∷ qs) p = ap (λ b. bytes_eq p q || b) (creates-create qs p)

creates-change : (missing : List Path) (p : Path) → is_entered (creates missing) kinds.Change p ≡ false
creates-change [] p = refl
creates-change (q ∷ qs) p = creates-change qs p

creates-always : (missing : List Path) (p : Path) → is_entered (creates missing) kinds.Always p ≡ false
creates-always [] p = refl
creates-always (q ∷ qs) p = creates-always qs p

abbrev create_of : Path → Dep
create_of path = record { kind = kinds.Create; path = path }

enters-new : (before ps : List Path) → AreNewAfter before ps → with_entries (creates before) kinds.Create ps ≡ creates (before ++ ps)
enters-new before [] h = ap creates (sym (append-nil before))
enters-new before (p ∷ ps) h =
    let new : Dep = record { kind = kinds.Create; path = p } in
    ap (λ b. with_entries (cond b (creates before) (creates before ++ new ∷ [])) kinds.Create ps) (creates-create before p ∙ h.0)
    ∙ ap (λ es. with_entries es kinds.Create ps) (sym (map-append create_of before (p ∷ [])))
    ∙ enters-new (before ++ p ∷ []) ps h.1
    ∙ ap creates (append_assoc before (p ∷ []) ps)

-- the candidates are entered one by one
pub search-creates : (missing : List Path) → AreDistinct missing → with_entries [] kinds.Create missing ≡ creates missing
search-creates missing h = enters-new [] missing h

pub search-entries : (missing : List Path) (do_file : Path) → AreDistinct missing → search_deps missing do_file ≡ search_entries missing (Some do_file)
search-entries missing do_file h =
    ap (λ es. with_entry es kinds.Change do_file) (search-creates missing h)
    ∙ ap (λ b. cond b (creates missing) (creates missing ++ record { kind = kinds.Change; path = do_file } ∷ [])) (creates-change missing do_file)

-- ---- whether the search entered it

pub found-change : (missing : List Path) (do_file p : Path) → is_entered (search_entries missing (Some do_file)) kinds.Change p ≡ bytes_eq p do_file
found-change missing do_file p =
    entered-append (creates missing) (change_of (Some do_file)) kinds.Change p ∙ ap (λ b. b || (bytes_eq p do_file || false)) (creates-change missing p) ∙ or_false (bytes_eq p do_file)

pub found-create : (missing : List Path) (do_file p : Path) → is_entered (search_entries missing (Some do_file)) kinds.Create p ≡ list_any (λ other. bytes_eq p other) missing
found-create missing do_file p =
    entered-append (creates missing) (change_of (Some do_file)) kinds.Create p ∙ or_false (is_entered (creates missing) kinds.Create p) ∙ creates-create missing p

pub found-always : (missing : List Path) (do_file p : Path) → is_entered (search_entries missing (Some do_file)) kinds.Always p ≡ false
found-always missing do_file p =
    entered-append (creates missing) (change_of (Some do_file)) kinds.Always p ∙ or_false (is_entered (creates missing) kinds.Always p) ∙ creates-always missing p

-- ---- what the script declared

-- one of the entries is there already
abbrev pub any_found : List Dep → List Dep → Bool
any_found found ds = list_any (λ d. is_entered found d.kind d.path) ds

pub same_kind-flips : (j k : DepKind) → same_kind j k ≡ same_kind k j
same_kind-flips kinds.Change kinds.Change = refl
same_kind-flips kinds.Change kinds.Create = refl
same_kind-flips kinds.Change kinds.Always = refl
same_kind-flips kinds.Create kinds.Change = refl
same_kind-flips kinds.Create kinds.Create = refl
same_kind-flips kinds.Create kinds.Always = refl
same_kind-flips kinds.Always kinds.Change = refl
same_kind-flips kinds.Always kinds.Create = refl
same_kind-flips kinds.Always kinds.Always = refl

pub same_way : (p q : Path) → bytes_eq p q ≡ bytes_eq q p
same_way p q =
    elim (bytes_eq p q) as (λ b. bytes_eq p q ≡ b → b ≡ bytes_eq q p) [
      | true ↦ λ e. sym ((bytes_decides q p).1 (sym ((bytes_decides p q).0 e)))
      | false ↦ λ e.
          elim (bytes_eq q p) as (λ c. bytes_eq q p ≡ c → false ≡ c) [
            | true ↦ λ f. sym e ∙ (bytes_decides p q).1 (sym ((bytes_decides q p).0 f))
            | false ↦ λ f. refl
          ] refl
    ] refl

pub neither : (a b : Bool) → (a || b) ≡ false → (a ≡ false) × (b ≡ false)
neither true b h = apart cc
neither false b h = (refl, h)

-- an entry more is none of those that follow
none-after : (found : List Dep) (d : Dep) (ds : List Dep) → any_found found ds ≡ false → is_entered ds d.kind d.path ≡ false → any_found (found ++ d ∷ []) ds ≡ false
none-after found d [] h k = refl
none-after found d (e ∷ es) h k =
    let old = neither (is_entered found e.kind e.path) (any_found found es) h in
    let new = neither (same_kind d.kind e.kind && bytes_eq d.path e.path) (is_entered es d.kind d.path) k in
    let one : is_entered (found ++ d ∷ []) e.kind e.path ≡ false =
    entered-append found (d ∷ []) e.kind e.path ∙ (λ i. old.0 i || (((same_kind-flips e.kind d.kind i) && (same_way e.path d.path i)) || false)) ∙ or_false (same_kind d.kind e.kind && bytes_eq d.path e.path) ∙ new.0 in
    (λ i. one i || none-after found d es old.1 new.1 i)

-- where none is there already, all are added
pub all-new : (found ds : List Dep) → AreOnce ds → any_found found ds ≡ false → found ++ ds ≡ with_all found ds
all-new found [] once none = append-nil found
all-new found (d ∷ ds) once none =
    let each = neither (is_entered found d.kind d.path) (any_found found ds) none in
    sym (append_assoc found (d ∷ []) ds)
    ∙ all-new (found ++ d ∷ []) ds once.1 (none-after found d ds each.1 once.0)
    ∙ ap (λ b. with_all (cond b found (found ++ d ∷ [])) ds) (sym each.0)

-- one that is there already is passed over
pub passed-over : (found own : List Dep) (d : Dep) (ds : List Dep) → is_entered found d.kind d.path ≡ true → with_all (found ++ own) (d ∷ ds) ≡ with_all (found ++ own) ds
passed-over found own d ds h =
    ap (λ b. with_all (cond b (found ++ own) ((found ++ own) ++ d ∷ [])) ds) (entered-append found own d.kind d.path ∙ ap (λ b. b || is_entered own d.kind d.path) h)

with_entry-behind : (found own : List Dep) (b : Bool) (d : Dep) → cond b (found ++ own) ((found ++ own) ++ d ∷ []) ≡ found ++ cond b own (own ++ d ∷ [])
with_entry-behind found own true d = refl
with_entry-behind found own false d = append_assoc found own (d ∷ [])

pub entered-behind : (found own : List Dep) (d : Dep) (ds : List Dep) → is_entered found d.kind d.path ≡ false → with_all (found ++ own) (d ∷ ds) ≡ with_all (found ++ with_entry own d.kind d.path) ds
entered-behind found own d ds h =
    ap (λ b. with_all (cond b (found ++ own) ((found ++ own) ++ d ∷ [])) ds) (entered-append found own d.kind d.path ∙ ap (λ b. b || is_entered own d.kind d.path) h)
    ∙ ap (λ es. with_all es ds) (with_entry-behind found own (is_entered own d.kind d.path) d)

-- ---- whole records

pub search-alone : (missing : List Path) (own : List Dep) → AreDistinct missing → own ≡ [] → entries_of missing None own ≡ with_entries [] kinds.Create missing
search-alone missing own once none =
    ap (λ es. (creates missing ++ []) ++ es) none ∙ append-nil (creates missing ++ []) ∙ append-nil (creates missing) ∙ sym (search-creates missing once)

pub by-script : (missing : List Path) (do_file : Path) (own declared : List Dep) → AreDistinct missing
    → entries_of missing (Some do_file) own ≡ with_all (search_entries missing (Some do_file)) declared → entries_of missing (Some do_file) own ≡ with_all (search_deps missing do_file) declared
by-script missing do_file own declared once h = h ∙ ap (λ es. with_all es declared) (sym (search-entries missing do_file once))
