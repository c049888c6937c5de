-- Paths with numbers, one more at a time.
use Rattle.std.proofs.Common.{◌≡◌, ◌∙◌, ◌+◌, ◌⊎◌, ℕ, suc, List, [], ◌∷◌, ◌++◌, refl, sym, ap, subst}
use Rattle.std.proofs.Common.{◌<◌, Bool, true, false, arith, drop, inl, inr, length, slice_index_or}
use Rattle.std.proofs.Math.Seq.{drop-cons}
use Rattle.std.proofs.lemmas.Map.Entries.{length-keys_of}
use Rattle.std.specs.Map.{keys_of}
use Rattle.redo_names.specs.Paths.{IsAmong}
use Rattle.redo_record.specs.Progress.{changes}
use Rattle.redo_record.specs.declared.deps.Dep.{Dep}
use Rattle.redo_record.specs.declared.deps.DepKind.{DepKind}
use Rattle.redo_record.specs.declared.deps.DepKind.TheVariants.{Change, Create, Always}
use Rattle.redo_page.specs.Data.{AreNumbered, HasNumber, HasNumbers, missing_after, numbered_from}
use Rattle.redo_page.specs.inside.Links.{known_by}
use Rattle.redo_page.specs.inside.Named.{IsEntered, Keeps, numbers_by}
use Rattle.redo_page.specs.Pages.{Known}
use Rattle.redo_report.specs.declared.report.Row.{Row}
use Rattle.std.proofs.Common.{Some}
use Rattle.std.proofs.lemmas.Bool.{cases_Bool, eqb-false, eqb-true}
use Rattle.std.proofs.lemmas.Option.{slice_get_read}
use Rattle.std.specs.Arc.{arc_value}
use Rattle.std.specs.Prelude.{◌==◌, slice_get}
use Rattle.redo_page.specs.declared.named.Named.{Named}

numbered-more : (n : ℕ) (ps : List (List ℕ)) (p : List ℕ) →
    numbered_from n (ps ++ p ∷ []) ≡ numbered_from n ps ++ (p, n + length ps) ∷ []
numbered-more n [] p =
    let same : n ≡ n + 0 = omega arith in
    ap (λ (m : ℕ). (p, m) ∷ []) same
numbered-more n (q ∷ ps) p =
    let same : n + 1 + length ps ≡ n + length (q ∷ ps) = omega arith in
    ap (λ es. (q, n) ∷ es)
    (numbered-more (n + 1) ps p ∙ ap (λ (m : ℕ). numbered_from (n + 1) ps ++ (p, m) ∷ []) same)

some-same : {X : Type 0} (x y : X) → Some x ≡ Some y → x ≡ y
some-same x y is = cc

keys-more : (es : List (List ℕ × ℕ)) (p : List ℕ) (m : ℕ) → keys_of (es ++ (p, m) ∷ []) ≡ keys_of es ++ p ∷ []
keys-more [] p m = refl
keys-more (e ∷ es) p m = ap (λ ks. e.0 ∷ ks) (keys-more es p m)

-- one path more
pub one-more : (count : ℕ) (others new : List (List ℕ × ℕ)) (p : List ℕ) (m : ℕ) → new ≡ others ++ (p, m) ∷ [] →
    m ≡ count + length others → AreNumbered count others → AreNumbered count new
one-more count others new p m is number are =
    is ∙ ap (λ es. es ++ (p, m) ∷ []) are
    ∙ ap (λ (k : ℕ). numbered_from count (keys_of others) ++ (p, k) ∷ [])
    (number ∙ ap (λ l. count + l) (sym (length-keys_of others)))
    ∙ sym (numbered-more count (keys_of others) p) ∙ ap (numbered_from count) (sym (keys-more others p m))
    ∙ ap (λ es. numbered_from count (keys_of es)) (sym is)

pub keeps-on : (a b c : Named) → Keeps a b → Keeps b c → Keeps a c
keeps-on a b c first then = record {
  links = then.links ∙ first.links;
  count = then.count ∙ first.count;
  entered = λ path is. then.entered path (first.entered path is);
}

drop-one : {A : Type 0} (es : List A) (i : ℕ) (x : A) → i < length es → x ≡ slice_index_or es i x → drop i es ≡ x ∷ drop (i + 1) es
drop-one es i x within is =
    let more : suc i ≡ i + 1 = omega arith in
    drop-cons es i x within ∙ ap (λ (k : ℕ). slice_index_or es i x ∷ drop k es) more ∙ ap (λ y. y ∷ drop (i + 1) es) (sym is)

pub or-on : {A B C : Type 0} → (B → C) → A ⊎ B → A ⊎ C
or-on f (inl a) = inl a
or-on f (inr b) = inr (f b)

-- Entries under `change`

change-left : (k : DepKind) (p : List ℕ) (rest : List Dep) (path : List ℕ) →
    IsAmong (changes (record { kind = k; path = p } ∷ rest)) path → (p ≡ path) ⊎ IsAmong (changes rest) path
change-left Change p rest path among = among
change-left Create p rest path among = inr among
change-left Always p rest path among = inr among

-- a path that is entered now, and others that are left
pub change-step : (a b : Named) (es : List Dep) (i : ℕ) (x : Dep) (path : List ℕ) → i < length es → x ≡ slice_index_or es i x →
    Keeps a b → IsEntered b x.path → IsEntered a path ⊎ IsAmong (changes (drop i es)) path →
    IsEntered b path ⊎ IsAmong (changes (drop (i + 1) es)) path
change-step a b es i x path within is keeps entered (inl had) = inl (keeps.entered path had)
change-step a b es i x path within is keeps entered (inr among) =
    let at : IsAmong (changes (x ∷ drop (i + 1) es)) path = subst (λ l. IsAmong (changes l) path) (drop-one es i x within is) among in
    elim (change-left x.kind x.path (drop (i + 1) es) path at) [
      | inl same ↦ inl (subst (IsEntered b) same entered)
      | inr left ↦ inr left
    ]

other-left : (k : DepKind) (p : List ℕ) (rest : List Dep) → (k ≡ Create) ⊎ (k ≡ Always) →
    changes (record { kind = k; path = p } ∷ rest) ≡ changes rest
other-left Change p rest (inl is) = absurd (cc)
other-left Change p rest (inr is) = absurd (cc)
other-left Create p rest is = refl
other-left Always p rest is = refl

-- an entry of another kind
pub other-step : (es : List Dep) (i : ℕ) (x : Dep) → i < length es → x ≡ slice_index_or es i x →
    (x.kind ≡ Create) ⊎ (x.kind ≡ Always) → changes (drop i es) ≡ changes (drop (i + 1) es)
other-step es i x within is kind =
    ap changes (drop-one es i x within is) ∙ other-left x.kind x.path (drop (i + 1) es) kind

-- Missing paths

change-missing : (k : DepKind) (p : List ℕ) (ruled : Bool) (rest : List Dep) → k ≡ Change →
    missing_after ruled (record { kind = k; path = p } ∷ rest) ≡ missing_after true rest
change-missing Change p ruled rest is = refl
change-missing Create p ruled rest is = absurd (cc)
change-missing Always p ruled rest is = absurd (cc)

ruled-missing : (k : DepKind) (p : List ℕ) (ruled : Bool) (rest : List Dep) → k ≡ Create → ruled ≡ true →
    missing_after ruled (record { kind = k; path = p } ∷ rest) ≡ p ∷ missing_after ruled rest
ruled-missing Create p true rest is here = refl
ruled-missing Create p false rest is here = absurd (cc)
ruled-missing Change p ruled rest is here = absurd (cc)
ruled-missing Always p ruled rest is here = absurd (cc)

unruled-missing : (k : DepKind) (p : List ℕ) (ruled : Bool) (rest : List Dep) → k ≡ Create → ruled ≡ false →
    missing_after ruled (record { kind = k; path = p } ∷ rest) ≡ missing_after ruled rest
unruled-missing Create p false rest is none = refl
unruled-missing Create p true rest is none = absurd (cc)
unruled-missing Change p ruled rest is none = absurd (cc)
unruled-missing Always p ruled rest is none = absurd (cc)

always-missing : (k : DepKind) (p : List ℕ) (ruled : Bool) (rest : List Dep) → k ≡ Always →
    missing_after ruled (record { kind = k; path = p } ∷ rest) ≡ missing_after ruled rest
always-missing Always p ruled rest is = refl
always-missing Change p ruled rest is = absurd (cc)
always-missing Create p ruled rest is = absurd (cc)

-- the rule, or a further change
pub rule-step : (es : List Dep) (i : ℕ) (x : Dep) (ruled : Bool) → i < length es → x ≡ slice_index_or es i x → x.kind ≡ Change →
    missing_after ruled (drop i es) ≡ missing_after true (drop (i + 1) es)
rule-step es i x ruled within is kind =
    ap (missing_after ruled) (drop-one es i x within is) ∙ change-missing x.kind x.path ruled (drop (i + 1) es) kind

-- a path that has to stay missing
pub missing-step : (a b : Named) (es : List Dep) (i : ℕ) (x : Dep) (ruled : Bool) (path : List ℕ) → i < length es →
    x ≡ slice_index_or es i x → x.kind ≡ Create → ruled ≡ true → Keeps a b → IsEntered b x.path →
    IsEntered a path ⊎ IsAmong (missing_after ruled (drop i es)) path →
    IsEntered b path ⊎ IsAmong (missing_after ruled (drop (i + 1) es)) path
missing-step a b es i x ruled path within is kind here keeps entered (inl had) = inl (keeps.entered path had)
missing-step a b es i x ruled path within is kind here keeps entered (inr among) =
    let at : IsAmong (x.path ∷ missing_after ruled (drop (i + 1) es)) path =
    subst (λ l. IsAmong l path) (ap (missing_after ruled) (drop-one es i x within is)
    ∙ ruled-missing x.kind x.path ruled (drop (i + 1) es) kind here) among in
    elim at [
      | inl same ↦ inl (subst (IsEntered b) same entered)
      | inr left ↦ inr left
    ]

-- a candidate of the search
pub candidate-step : (es : List Dep) (i : ℕ) (x : Dep) (ruled : Bool) → i < length es → x ≡ slice_index_or es i x →
    x.kind ≡ Create → ruled ≡ false → missing_after ruled (drop i es) ≡ missing_after ruled (drop (i + 1) es)
candidate-step es i x ruled within is kind none =
    ap (missing_after ruled) (drop-one es i x within is) ∙ unruled-missing x.kind x.path ruled (drop (i + 1) es) kind none

-- an entry without a path
pub always-step : (es : List Dep) (i : ℕ) (x : Dep) (ruled : Bool) → i < length es → x ≡ slice_index_or es i x →
    x.kind ≡ Always → missing_after ruled (drop i es) ≡ missing_after ruled (drop (i + 1) es)
always-step es i x ruled within is kind =
    ap (missing_after ruled) (drop-one es i x within is) ∙ always-missing x.kind x.path ruled (drop (i + 1) es) kind

-- Rows

-- the paths of the rows before, and those of one more
pub row-step : (known : Known) (a b : Named) (rows : List Row) (i : ℕ) (x : Row) → i < length rows → x ≡ slice_index_or rows i x →
    known_by a.links.now ≡ known → known_by b.links.now ≡ known → Keeps a b →
    ((n : ℕ) (row : Row) → n < i → slice_get rows n ≡ Some row → HasNumbers known (numbers_by a) (arc_value row.deps)) →
    HasNumbers (known_by b.links.now) (numbers_by b) (arc_value x.deps) →
    (n : ℕ) (row : Row) → n < i + 1 → slice_get rows n ≡ Some row → HasNumbers known (numbers_by b) (arc_value row.deps)
row-step known a b rows i x within is one two keeps before new n row less at =
    elim (cases_Bool (n == i)) [
      | inl t ↦
          let here : n ≡ i = eqb-true n i t in
          let there : slice_get rows i ≡ Some x = slice_get_read rows (length rows) i x refl within is in
          let same : x ≡ row = some-same x row (sym there ∙ ap (slice_get rows) (sym here) ∙ at) in
          subst (λ r. HasNumbers known (numbers_by b) (arc_value r.deps)) same
          (subst (λ k. HasNumbers k (numbers_by b) (arc_value x.deps)) two new)
      | inr f ↦
          let old = before n row (omega (arith, less, eqb-false n i f)) at in
          let on = λ (path : List ℕ) (had : HasNumber known (numbers_by a) path).
          subst (λ k. HasNumber k (numbers_by b) path) two (keeps.entered path (subst (λ k. HasNumber k (numbers_by a) path) (sym one) had)) in
          record {
            changed = λ path among. on path (old.changed path among);
            missing = λ path among. on path (old.missing path among);
          }
    ]
