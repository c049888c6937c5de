-- The paths that were found, and what they rest on.
use Rattle.std.proofs.Common.{◌≡◌, ◌∙◌, ◌+◌, ◌<◌, ◌≤◌, ◌↔◌, ◌++◌, ℕ, true, false, inl, inr, List, [], ◌∷◌}
use Rattle.std.proofs.Common.{Some, arith, sym, ap, subst, length, slice_get, slice_index_or, take}
use Rattle.std.proofs.lemmas.Bool.{cases_Bool, cases_lt}
use Rattle.std.proofs.lemmas.List.{append-nil, take_more}
use Rattle.std.proofs.lemmas.List.Concat.{flat_map-append}
use Rattle.std.proofs.lemmas.Option.{slice_get-get_or, slice_get_within}
use Rattle.std.specs.Prelude.{flat_map}
use Rattle.redo_names.specs.Paths.{IsAmong, is_among, with_path}
use Rattle.redo_names.proofs.IndexLemmas.{still-there}
use Rattle.redo_names.proofs.ListLemmas.{IsAmong-append, IsAmong-left, IsAmong-right}
use Rattle.redo_names.proofs.PathLemmas.{among-place, among-told, place-among, put-new, put-there, told-among}
use Rattle.redo_which.specs.Rule.{found_of, is_rule}
use Rattle.redo_book.specs.declared.book.BookEntry.{BookEntry}
use Rattle.redo_book.specs.Book.{record_at}
use Rattle.redo_build.proofs.DepthLemmas.{cases_Option}
use Rattle.redo_rules.specs.Build.{GivenView}
use Rattle.redo_ood.specs.Listing.{RestsOn, Itself, Through, changed}
use Rattle.redo_ood.specs.inside.Resting.{AreFound, IsGrown, changes_in, changes_of}

-- Lists that grow

pub grown-none : (qs : List (List ℕ)) → IsGrown qs [] qs
grown-none qs = record { only = λ p m. inl m; more = λ p m. absurd m; kept = λ i p h. h }

grown-there : (qs : List (List ℕ)) (x : List ℕ) → IsAmong qs x → IsGrown qs (x ∷ []) qs
grown-there qs x there = record {
  only = λ p m. inl m;
  more = λ p m. elim m [ inl e ↦ subst (IsAmong qs) e there | inr none ↦ absurd none ];
  kept = λ i p h. h;
}

grown-new : (qs : List (List ℕ)) (x : List ℕ) → IsGrown qs (x ∷ []) (qs ++ x ∷ [])
grown-new qs x = record {
  only = λ p m. IsAmong-append qs (x ∷ []) p m;
  more = λ p m. IsAmong-right qs (x ∷ []) p m;
  kept = λ i p h. still-there qs x i p h;
}

pub grown-one : (qs : List (List ℕ)) (x : List ℕ) → IsGrown qs (x ∷ []) (with_path qs x)
grown-one qs x = elim (cases_Bool (is_among qs x)) [
  | inl t ↦ subst (IsGrown qs (x ∷ [])) (sym (put-there qs x (among-told qs x t))) (grown-there qs x (among-told qs x t))
  | inr f ↦
      subst (IsGrown qs (x ∷ []))
      (sym (put-new qs x (λ m. let bad : true ≡ false = sym (told-among qs x m) ∙ f in absurd cc))) (grown-new qs x)
]

grown-among : (ps xs qs : List (List ℕ)) → IsGrown ps xs qs → (p : List ℕ) → IsAmong ps p → IsAmong qs p
grown-among ps xs qs grown p m =
    let at = among-place ps p m in
    place-among qs at.0 p (grown.kept at.0 p at.1)

pub grown-more : (ps xs qs ys rs : List (List ℕ)) → IsGrown ps xs qs → IsGrown qs ys rs → IsGrown ps (xs ++ ys) rs
grown-more ps xs qs ys rs one two = record {
  only = λ p m. elim (two.only p m) [
    | inl b ↦ elim (one.only p b) [ inl a ↦ inl a | inr x ↦ inr (IsAmong-left xs ys p x) ]
    | inr y ↦ inr (IsAmong-right xs ys p y)
  ];
  more = λ p m. elim (IsAmong-append xs ys p m) [
    | inl x ↦ grown-among qs ys rs two p (one.more p x)
    | inr y ↦ two.more p y
  ];
  kept = λ i p h. two.kept i p (one.kept i p h);
}

-- one more entry
pub changes-more : (es : List BookEntry) (i : ℕ) (e : BookEntry) → i < length es → e ≡ slice_index_or es i e →
    flat_map changed (take (i + 1) es) ≡ flat_map changed (take i es) ++ changed e
changes-more es i e below is =
    ap (flat_map changed) (take_more es i e below)
    ∙ flat_map-append changed (take i es) (slice_index_or es i e ∷ [])
    ∙ ap (λ y. flat_map changed (take i es) ++ flat_map changed (y ∷ [])) (sym is)
    ∙ ap (λ ps. flat_map changed (take i es) ++ ps) (append-nil (changed e))

-- What was found

module _ (given : GivenView) where
  -- by its record a path that is rested on leads to others
  pub through : (p : List ℕ) → RestsOn given p → (q : List ℕ) → IsAmong (changes_in given.past p) q → RestsOn given q
  through p on q m = elim (cases_Bool (is_rule (found_of given.past.sources p))) [
    | inr f ↦ let none : IsAmong [] q = rw f at m in absurd none
    | inl t ↦
        let there : IsAmong (changes_of (record_at given.past.book p)) q = rw t at m in
        elim (cases_Option (record_at given.past.book p)) [
          | inl none ↦ let no : IsAmong [] q = rw none at there in absurd no
          | inr some ↦ let here : IsAmong (flat_map changed some.0.entries) q = rw some.1 at there in Through on t some.1 here
        ]
  ]

  pub first-found : (found : List (List ℕ)) → ((p : List ℕ) → is_among found p ≡ is_among given.request p) →
      AreFound given found 0
  first-found found same = record {
    rest = λ p m. Itself (among-told given.request p (sym (same p) ∙ told-among found p m));
    requested = λ p m. among-told found p (same p ∙ told-among given.request p m);
    followed = λ i p q below at m. absurd (omega arith);
  }

  pub more-found : (old new : List (List ℕ)) (n : ℕ) (p : List ℕ) → AreFound given old n → slice_get old n ≡ Some p →
      IsGrown old (changes_in given.past p) new → AreFound given new (n + 1)
  more-found old new n p are at grown = record {
    rest = λ q m. elim (grown.only q m) [
      | inl there ↦ are.rest q there
      | inr on ↦ through p (are.rest p (place-among old n p at)) q on
    ];
    requested = λ q m. grown-among old (changes_in given.past p) new grown q (are.requested q m);
    followed = λ i x q below here m. elim (cases_lt i n) [
      | inl under ↦
          let within : i < length old = omega (arith, slice_get_within old n p at) in
          let old_at : slice_get old i ≡ Some (slice_index_or old i []) = slice_get-get_or old i [] within in
          let same : Some (slice_index_or old i []) ≡ Some x = sym (grown.kept i (slice_index_or old i []) old_at) ∙ here in
          grown-among old (changes_in given.past p) new grown q
          (are.followed i x q under (old_at ∙ same) m)
      | inr above ↦
          let last : i ≡ n = omega arith in
          let same : Some p ≡ Some x = sym (grown.kept n p at) ∙ sym (ap (slice_get new) last) ∙ here in
          let one : p ≡ x = cc in
          grown.more q (subst (λ y. IsAmong (changes_in given.past y) q) (sym one) m)
    ];
  }

  module _ (found : List (List ℕ)) (n : ℕ) (are : AreFound given found n) (all : length found ≤ n) where
    all-found : {p : List ℕ} → RestsOn given p → IsAmong found p
    all-found {p} (Itself m) = are.requested p m
    all-found {p} (Through {path = path} {r = r} on rule at m) =
        let here = among-place found path (all-found on) in
        are.followed here.0 path p (omega (arith, slice_get_within found here.0 path here.1)) here.1 (rw (rule, at) m)

    pub is-found : (p : List ℕ) → (is_among found p ≡ true) ↔ RestsOn given p
    is-found p = (λ t. are.rest p (among-told found p t), λ on. told-among found p (all-found on))
