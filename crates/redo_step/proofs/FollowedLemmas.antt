-- Laws of entries that agree, and of those that others follow.
use Rattle.std.proofs.Common.{◌≡◌, ℕ, Bool, true, false, ◌&&◌, cond, inl, inr, List, [], ◌∷◌, ◌++◌, refl, sym}
use Rattle.std.proofs.Common.{subst}
use Rattle.std.proofs.lemmas.Bool.{or_cases, or_left, or_right}
use Rattle.std.specs.Str.{bytes_eq}
use Rattle.redo_record.specs.declared.deps.Dep.{Dep}
use Rattle.redo_record.specs.declared.deps.DepKind.{DepKind}
use Rattle.redo_record.specs.declared.deps.DepKind.TheVariants as kinds
use Rattle.redo_record.specs.Paths.{Path}
use Rattle.redo_record.specs.Answers.{Ask}
use Rattle.redo_record.specs.Entries.{same_kind, is_entered, with_entry, with_entries, with_all, Extends}
use Rattle.redo_record.proofs.BehindLemmas.{IsBeginning}
use Rattle.redo_step.specs.Setting.{Setting, with_value}
use Rattle.redo_step.specs.Agreeing.{Agrees, AllAgree, IsDeclared, IsFollowed}
use Rattle.redo_record.proofs.EntryLemmas.{bytes_eq-refl, same_kind-refl, Extends-with_entry, is_entered-with_entry}
use Rattle.redo_record.proofs.FoundLemmas.{bytes_eq-true, same_kind-true}
use Rattle.redo_record.proofs.FoundLemmas.{entered_cases}

-- Entries

-- the first of some entries is entered
entered-here : (e : Dep) (es : List Dep) (k : DepKind) → e.kind ≡ k → is_entered (e ∷ es) k e.path ≡ true
entered-here e es k same = let here : (same_kind k e.kind && bytes_eq e.path e.path) ≡ true =
    rw (same, same_kind-refl k, bytes_eq-refl e.path) refl in or_left _ _ here

entered-later : (e : Dep) (es : List Dep) (k : DepKind) (p : Path) → is_entered es k p ≡ true →
    is_entered (e ∷ es) k p ≡ true
entered-later e es k p h = or_right _ _ h

entered-front : (es more : List Dep) (k : DepKind) (p : Path) → is_entered es k p ≡ true →
    is_entered (es ++ more) k p ≡ true
entered-front [] more k p h = absurd cc
entered-front (e ∷ es) more k p h = elim (or_cases (same_kind k e.kind && bytes_eq p e.path) (is_entered es k p) h) [
  | inl here ↦ or_left _ _ here
  | inr later ↦ entered-later e (es ++ more) k p (entered-front es more k p later)
]

-- what is entered stays so behind further entries
pub entered-beginning : (old new : List Dep) → IsBeginning old new → (k : DepKind) (p : Path) →
    is_entered old k p ≡ true → is_entered new k p ≡ true
entered-beginning old new x k p h = rw x.1 (entered-front old x.0 k p h)

entered-head : (e : Dep) (k : DepKind) (p : Path) → (same_kind k e.kind && bytes_eq p e.path) ≡ true →
    (e.kind ≡ k) × (e.path ≡ p)
entered-head e k p h = (
  sym (same_kind-true k e.kind
      (elim (same_kind k e.kind) as
      (λ (v : Bool). (v && bytes_eq p e.path) ≡ true → v ≡ true) [ true ↦ λ _. refl | false ↦ λ bad. absurd cc ] h)),
  sym (bytes_eq-true p e.path
      (elim (same_kind k e.kind) as
      (λ (v : Bool). (v && bytes_eq p e.path) ≡ true → bytes_eq p e.path ≡ true) [
        | true ↦ λ g. g
        | false ↦ λ bad.
            absurd cc
      ] h)),
)

-- a path that is declared of one kind isn't declared of another by that
pub entered-other : (es : List Dep) (j k : DepKind) (ps : List Path) (p : Path) → (j ≡ k → ⊥) →
    is_entered (with_entries es j ps) k p ≡ true → is_entered es k p ≡ true
entered-other es j k [] p other h = h
entered-other es j k (q ∷ ps) p other h =
    elim (entered_cases es j k q p (entered-other (with_entry es j q) j k ps p other h)) [
      | inl old ↦ old
      | inr new ↦ absurd (other new.0)
    ]

declared_by : (others : List Dep) (k : DepKind) (p : Path) →
    (k ≡ kinds.Change → is_entered others kinds.Change p ≡ true) → IsDeclared others k p
declared_by others kinds.Change p h = h refl
declared_by others kinds.Create p h = tt
declared_by others kinds.Always p h = tt

declared_more : (others more : List Dep) (k : DepKind) (p : Path) →
    ((q : Path) → is_entered others kinds.Change q ≡ true → is_entered more kinds.Change q ≡ true) →
    IsDeclared others k p → IsDeclared more k p
declared_more others more kinds.Change p x h = x p h
declared_more others more kinds.Create p x h = tt
declared_more others more kinds.Always p x h = tt

-- Entries that agree

module _ (one two : Setting) (a b : Ask) where
  pub agree-extends : (old new : List Dep) → Extends old new → AllAgree one a two b new → AllAgree one a two b old
  agree-extends old new x all = record { agree = λ k p h. all.agree k p (x.still k p h) }

  pub agree-beginning : (old new : List Dep) → IsBeginning old new → AllAgree one a two b new → AllAgree one a two b old
  agree-beginning old new x all = record { agree = λ k p h. all.agree k p (entered-beginning old new x k p h) }

  pub agree-nil : AllAgree one a two b []
  agree-nil = record { agree = λ k p h. absurd cc }

  pub agree-cons : (e : Dep) (es : List Dep) → Agrees one a two b e.kind e.path → AllAgree one a two b es →
      AllAgree one a two b (e ∷ es)
  agree-cons e es here all = record {
    agree = λ k p h. elim (or_cases (same_kind k e.kind && bytes_eq p e.path) (is_entered es k p) h) [
      | inl is ↦ let same = entered-head e k p is in let kind : e.kind ≡ k = same.0 in let path : e.path ≡ p = same.1 in
          rw (← kind, ← path) here
      | inr later ↦ all.agree k p later
    ];
  }

  agree-head : (e : Dep) (es : List Dep) → AllAgree one a two b (e ∷ es) → Agrees one a two b e.kind e.path
  agree-head e es all = all.agree e.kind e.path (entered-here e es e.kind refl)

  agree-tail : (e : Dep) (es : List Dep) → AllAgree one a two b (e ∷ es) → AllAgree one a two b es
  agree-tail e es all = record { agree = λ k p h. all.agree k p (entered-later e es k p h) }

  -- Entries that others follow

  -- whatever agrees, all operands are declared
  pub followed-all : (others es : List Dep) →
      ((p : Path) → is_entered es kinds.Change p ≡ true → is_entered others kinds.Change p ≡ true) →
      IsFollowed one a two b others es
  followed-all others [] h = tt
  followed-all others (e ∷ es) h = (
    declared_by others e.kind e.path (λ is. h e.path (entered-here e es kinds.Change is)),
    λ _. followed-all others es (λ p later. h p (entered-later e es kinds.Change p later)),
  )

  pub followed-same : (es : List Dep) → IsFollowed one a two b es es
  followed-same es = followed-all es es (λ p h. h)

  pub followed-more : (others more es : List Dep) →
      ((p : Path) → is_entered others kinds.Change p ≡ true → is_entered more kinds.Change p ≡ true) →
      IsFollowed one a two b others es → IsFollowed one a two b more es
  followed-more others more [] x h = tt
  followed-more others more (e ∷ es) x h =
      (declared_more others more e.kind e.path x h.0, λ here. followed-more others more es x (h.1 here))

  -- the first entries, and all where these agree
  followed-join : (others xs ys : List Dep) → IsFollowed one a two b others xs →
      (AllAgree one a two b xs → IsFollowed one a two b others (xs ++ ys)) → IsFollowed one a two b others (xs ++ ys)
  followed-join others [] ys h k = k agree-nil
  followed-join others (e ∷ xs) ys h k =
      (h.0, λ here. followed-join others xs ys (h.1 here) (λ all. (k (agree-cons e xs here all)).1 here))

  pub followed-beginning : (others xs ys : List Dep) → IsBeginning xs ys → IsFollowed one a two b others xs →
      (AllAgree one a two b xs → IsFollowed one a two b others ys) → IsFollowed one a two b others ys
  followed-beginning others xs ys x h k = let same : ys ≡ xs ++ x.0 = x.1 in
      let P : List Dep → Type 0 = λ zs. IsFollowed one a two b others zs in
      subst P (sym same) (followed-join others xs x.0 h (λ all. subst P same (k all)))

  -- the first entries, and then further ones
  followed-behind : (others xs ys : List Dep) → IsFollowed one a two b others xs → IsFollowed one a two b others ys →
      IsFollowed one a two b others (xs ++ ys)
  followed-behind others [] ys h k = k
  followed-behind others (e ∷ xs) ys h k = (h.0, λ here. followed-behind others xs ys (h.1 here) k)

  -- the operand behind entries that agree
  pub followed-next : (others front back : List Dep) (p : Path) →
      IsFollowed one a two b others (front ++ record { kind = kinds.Change; path = p } ∷ back) →
      AllAgree one a two b front → is_entered others kinds.Change p ≡ true
  followed-next others [] back p h all = h.0
  followed-next others (e ∷ front) back p h all =
      followed-next others front back p (h.1 (agree-head e front all)) (agree-tail e front all)

  -- Records: the entries of a search before a run's own

  followed-entry : (others ds : List Dep) (e : Dep) → IsFollowed one a two b others ds →
      (AllAgree one a two b ds → IsDeclared others e.kind e.path) →
      IsFollowed one a two b others (with_entry ds e.kind e.path)
  followed-entry others ds e h k =
      elim (is_entered ds e.kind e.path) as
      (λ (v : Bool). IsFollowed one a two b others
      (cond v ds (ds ++ record { kind = e.kind; path = e.path } ∷ []))) [
        | true ↦ h
        | false ↦ followed-beginning others ds (ds ++ record { kind = e.kind; path = e.path } ∷ [])
            (record { kind = e.kind; path = e.path } ∷ [], refl) h
            (λ all. followed-behind others ds (record { kind = e.kind; path = e.path } ∷ []) h (k all, λ _. tt))
      ]

  pub followed-record : (others ds es : List Dep) → IsFollowed one a two b others ds →
      (AllAgree one a two b ds → IsFollowed one a two b others es) → IsFollowed one a two b others (with_all ds es)
  followed-record others ds [] h k = h
  followed-record others ds (e ∷ es) h k =
      followed-record others (with_entry ds e.kind e.path) es
      (followed-entry others ds e h (λ all. (k all).0))
      (λ all. (k (agree-extends ds (with_entry ds e.kind e.path) (Extends-with_entry ds e.kind e.path) all)).1
      (all.agree e.kind e.path (is_entered-with_entry ds e.kind e.path)))

-- What agrees in a turn of a loop agrees round it.
module _ (one two : Setting) (a b : Ask) (name value : List ℕ) where
  one-inside : (k : DepKind) (p : Path) → Agrees one a two b k p →
      Agrees (with_value one name value) a (with_value two name value) b k p
  one-inside kinds.Change p h = h
  one-inside kinds.Create p h = record { no_source = h.no_source; no_directory = h.no_directory; no_rule = h.no_rule }
  one-inside kinds.Always p h = tt

  pub agree_inside : (es : List Dep) → AllAgree one a two b es →
      AllAgree (with_value one name value) a (with_value two name value) b es
  agree_inside es all = record { agree = λ k p h. one-inside k p (all.agree k p h) }

  pub followed_outside : (others es : List Dep) →
      IsFollowed (with_value one name value) a (with_value two name value) b others es →
      IsFollowed one a two b others es
  followed_outside others [] h = tt
  followed_outside others (e ∷ es) h = (h.0, λ here. followed_outside others es (h.1 (one-inside e.kind e.path here)))
